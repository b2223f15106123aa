-- What the contracts of functions inside the crate are said with. No promise of a door rests on anything here.
use Rattle.std.specs.Prelude.{◌≡◌, ℕ, ◌+◌, ◌-◌, ◌%◌, ◌<◌, ◌≤◌, Bool, true, cond, ◌&&◌, List, [], ◌∷◌, ◌++◌, length, take, ◌≢◌, nat_lt, slice_index, Option, Some, None, Result, Ok, Err}
use Rattle.cells.specs.declared.mains.Mains.{Mains}
use Rattle.cells.specs.declared.mains.PowerLost.{PowerLost}
use Rattle.cells.specs.declared.row.RowPut.{RowPut}
use Rattle.cells.specs.Chip.{Chip}
use Rattle.cells.specs.Run.{Run, Seen, seen, ◌giving◌}
use Rattle.cells.specs.Row.{put_row}
use Rattle.cells.specs.Cut.{Cut.whole, Cut.lost, sight, Says}
use Rattle.code.specs.Entries.{reading_at}
use Rattle.counter.specs.declared.map.Kind.{Kind}
use Rattle.counter.specs.declared.places.Places.{Places}
use Rattle.counter.specs.declared.standing.Standing.{Standing}
use Rattle.counter.specs.declared.standing.Standing.TheVariants.{Unfit, Unmarked, Marked}
use Rattle.counter.specs.declared.opening.Takings.{Takings}
use Rattle.counter.specs.declared.spares.Gap.{Gap}
use Rattle.counter.specs.declared.reading.Count.{Count}
use Rattle.counter.specs.declared.verdict.Refusal.{Refusal}
use Rattle.counter.specs.declared.store.Stored.{Stored}
use Rattle.counter.specs.declared.verdict.Answer.{Answer}
use Rattle.counter.specs.declared.verdict.Refusal.TheVariants.{BadLength, BadPlaces, NoSpare, PowerLost as LostPower}
use Rattle.counter.specs.Layout.{Layout, two, slots, map_cells}
use Rattle.counter.specs.Slots.{kind_of}
use Rattle.counter.specs.Places.{length_good, places_good, lives_good}
use Rattle.counter.specs.Map.{map_in, marked, offset_of, pointer_of, pointer_bytes}
use Rattle.counter.specs.Spares.{whole_area, narrow, next_of, spares_of}
use Rattle.counter.specs.Reading.{data_at, nibble_in}
use Rattle.counter.specs.Verdict.{Verdict, Work, refusal_of, answer_of, ending, read_as, complete}
use Rattle.counter.specs.Store.{slot_code, mapped}
use Rattle.counter.specs.Opening.{taken, take_from, untried}

-- a chip lent with its lives, of which refusals 1 and 2 do not hold
unfoldable pub fitted : Layout → Places → Chip → Bool
fitted layout p s = lives_good s && length_good layout (length s.cells) && places_good layout (length s.cells) p

-- how an image stands before its map is looked at: refusals 1, 2 and 3
unfoldable pub standing_of : Layout → Places → List ℕ → Standing
standing_of layout p cells =
    cond (length_good layout (length cells))
    (cond (places_good layout (length cells) p) (cond (marked (map_in layout p cells)) Marked Unmarked) (Unfit BadPlaces))
    (Unfit BadLength)

-- slot k, in two copies, stands for one of the nibbles from one up to another
abbrev pub Among : ℕ → ℕ → ℕ → Type 0
Among from to k = (k < slots two) × (from ≤ k % 8) × (k % 8 < to)

-- no two of such numbers have the same value
abbrev pub Differ : (ℕ → Type 0) → (ℕ → ℕ) → Type 0
Differ Of value = (i j : ℕ) → Of i → Of j → (i ≢ j) → value i ≢ value j

-- the pointers, or the bytes, of all slots, given as a list
abbrev pub listed : List ℕ → ℕ → ℕ
listed values k = slice_index values k

-- a whole map of two copies, all of whose pointers are cells of the image
abbrev pub Reaches : List ℕ → List ℕ → Type 0
Reaches cells map = (length map ≡ map_cells two) × ((k : ℕ) → k < slots two → pointer_of map k < length cells)

-- nibble n of a copy of two, given all slots' entries in the table of readings
unfoldable pub nibble_by : List ℕ → ℕ → ℕ → ℕ
nibble_by entries copy n = nibble_in two (λ k. reading_at (listed entries k)) copy n

-- what says something of two bytes says what the test does
abbrev pub Answers : (ℕ → ℕ → Bool → Type 0) → (ℕ → ℕ → Bool) → Type 0
Answers Says test = (a b : ℕ) (says : Bool) → a < 256 → b < 256 → Says a b says → says ≡ test a b

-- the cells of all slots hold their codes of c
abbrev pub Holds : Layout → Places → ℕ → List ℕ → Type 0
Holds layout p c cells = (k : ℕ) → k < slots layout → data_at cells (map_in layout p cells) k ≡ slot_code c k

-- what was found, as a verdict
abbrev pub verdict_in : Result Count Refusal → Verdict
verdict_in (Ok found) = read_as found.count found.lag
verdict_in (Err why) = Err why

-- where a count is said to be exact, the cells of all slots hold their codes of it
abbrev pub ExactIf : Layout → Places → Result Count Refusal → List ℕ → Type 0
ExactIf layout p (Ok found) cells = found.exact ≡ true → Holds layout p found.count cells
ExactIf layout p (Err why) cells = Unit {0}

-- how a taking ended that served so many slots
abbrev pub served : Layout → ℕ → Work
served layout count = cond (nat_lt count (slots layout)) (Err (NoSpare count)) complete

-- the bytes that hold addresses as the pointers of the slots from k on
unfoldable pub pointer_row : List ℕ → ℕ → List ℕ
pointer_row [] k = []
pointer_row (a ∷ rest) k = pointer_bytes (kind_of k) a ++ pointer_row rest (k + 1)

-- bytes put in the map
abbrev pub map_row : List ℕ → ℕ → Chip → Run Work
map_row bs a s = let r = put_row bs a s in r giving mapped r.answer

-- what a function shows of a piece of storing, which left such a chip
abbrev pub told : Stored → Chip → Seen Work
told done t = seen done.work done.writes done.tried t

-- a piece of storing behind work that took so many writes and tries
abbrev pub behind : ℕ → ℕ → Stored → Stored
behind writes tried done = record { work = done.work; writes = writes + done.writes; tried = tried + done.tried }

-- what a function says of a piece of storing on mains that can be lost
abbrev pub Works : Result Stored PowerLost → Chip → Mains → Run Work → Chip → Type 0
Works done t mains r s = Says (sight told done t) mains.power mains.torn r s

-- a row of map bytes, as a piece of storing
abbrev pub mapped_row : RowPut → Stored
mapped_row row = record { work = mapped row.failed; writes = row.writes; tried = 0 }

-- an address is the next of a kind that a gap leaves, and this is the gap without it
pub record Next (kind : Kind) (g : Gap) (a : ℕ) (left : Gap) : Type 0 where
  pub some : 0 < spares_of kind g
  pub here : a ≡ next_of kind g
  pub leaves : left ≡ narrow kind a g

-- it is given, or there is none
abbrev pub Offers : Kind → Gap → Option (ℕ × Gap) → Type 0
Offers kind g (Some (a, left)) = Next kind g a left
Offers kind g None = spares_of kind g ≡ 0

-- what a taking says that served so many slots: the bytes that hold the addresses taken as pointers, and the rest
pub record Took (layout : Layout) (p : Places) (takings : Takings) (t : Chip) (mains : Mains) (s : Chip) : Type 0 where
  pub few : takings.count ≤ slots layout
  pub size : length takings.bytes ≡ 33
  pub addresses : List ℕ
  pub row : take (offset_of takings.count - 2) takings.bytes ≡ pointer_row addresses 0
  pub says : Says (whole (seen (taken (served layout takings.count) addresses) takings.writes 0 t)) mains.power mains.torn (untried (take_from (slots layout) 0 (whole_area p) s)) s

-- or that the power was lost in it
abbrev pub Takes : Layout → Places → Result Takings PowerLost → Chip → Mains → Chip → Type 0
Takes layout p (Ok takings) t mains s = Took layout p takings t mains s
Takes layout p (Err loss) t mains s = Says (lost loss.at t) mains.power mains.torn (untried (take_from (slots layout) 0 (whole_area p) s)) s

-- the answer of a call that ends so when its storing is done, or that lost its power in it
abbrev pub finish : Verdict → Result Stored PowerLost → Answer
finish v (Ok done) = answer_of (ending v done.work) done.writes done.tried
finish v (Err loss) = refusal_of (LostPower loss.at) 0 0
