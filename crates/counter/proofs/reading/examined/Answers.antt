-- `reading::examined` meets its contract: sound pointers lie in the image.
use Rattle.std.proofs.Common.{◌≡◌, ℕ, ◌<◌, true, List, Result, Ok, Err, IfOk, sym, ◌∙◌, arith}
use Rattle.counter.specs.declared.places.Places.{Places}
use Rattle.counter.specs.declared.reading.Count.{Count}
use Rattle.counter.specs.declared.verdict.Refusal.{Refusal}
use Rattle.counter.specs.Store.{slot_code}
use Rattle.counter.specs.Inside.{ExactIf}
use Rattle.counter.specs.Map.{map_in, pointer_of, sound}
use Rattle.counter.specs.Reading.{data_at, examine}
use Rattle.counter.proofs.Settings.{good_placed, length_good_lem}
use Rattle.counter.proofs.SoundPointers.{test_sound}
use Rattle.counter.proofs.Ready.{sound_reaches}
use Rattle.counter.specs.Layout.{two, slots}
use Rattle.counter.proofs.reading.examined.Goals as goal

pub cells-map-requires : goal.cells-map-requires
cells-map-requires c = let placed = good_placed two _ _ c.requires.1 in omega arith

pub is_sound-requires : goal.is_sound-requires
is_sound-requires c =
    let placed = good_placed two _ _ c.requires.1 in
    let long = length_good_lem two _ c.requires.0 in
    omega arith

pub returns-then-not-is_sound : goal.returns-then-not-is_sound
unfolding examine
returns-then-not-is_sound c =
    let map : let s = c.args in c.cells-map.result.now ≡ map_in two s.p s.image.now =
    rw (← c.at.ensures) c.cells-map.ensures in
    let tested : let s = c.args in
    sound two s.p (pointer_of (map_in two s.p s.image.now)) ≡ c.is_sound.result =
    rw (← map) (sym c.is_sound.ensures) in (rw (tested ∙ c.if-not-is_sound.true), tt)

pub found_in-requires : goal.found_in-requires
found_in-requires c =
    let map : let s = c.args in c.cells-map.result.now ≡ map_in two s.p s.image.now =
    rw (← c.at.ensures) c.cells-map.ensures in
    let tested : let s = c.args in
    sound two s.p (pointer_of (map_in two s.p s.image.now)) ≡ c.is_sound.result =
    rw (← map) (sym c.is_sound.ensures) in
    rw map
    (sound_reaches _ (good_placed two _ _ c.requires.1) (test_sound two _ _ (tested ∙ c.if-not-is_sound.false)))

-- the cells of the map's slots are those of the image's
exact_here : (p : Places) (cells : List ℕ) {map : List ℕ} (found : Result Count Refusal) → map ≡ map_in two p cells
    → IfOk found (λ read. read.exact ≡ true → (k : ℕ) → k < slots two → data_at cells map k ≡ slot_code read.count k) → ExactIf two p found cells
exact_here p cells (Ok read) same held = rw same at held
exact_here p cells (Err why) same held = tt

pub returns : goal.returns
unfolding examine
returns c =
    let map : let s = c.args in c.cells-map.result.now ≡ map_in two s.p s.image.now =
    rw (← c.at.ensures) c.cells-map.ensures in
    let tested : let s = c.args in
    sound two s.p (pointer_of (map_in two s.p s.image.now)) ≡ c.is_sound.result =
    rw (← map) (sym c.is_sound.ensures) in
    let tested = tested ∙ c.if-not-is_sound.false in
    (rw (tested, ← map) c.found_in.ensures.0, exact_here c.args.p c.args.image.now _ map c.found_in.ensures.1)
