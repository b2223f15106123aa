-- What a piece of work on a chip comes to: its answer, the writes it asked for in order, the spares it
-- tried, and the chip afterwards. The log belongs to the outcome, so a piece made of others has their logs,
-- one behind the other; a count of writes is its length, and the writes asked of some cells a count in it.
use Rattle.std.specs.Prelude.{ℕ, ◌+◌, List, [], ◌++◌, length}
use Rattle.cells.specs.Chip.{Chip}

infixl 20 ◌then◌ ◌giving◌
-- one write that was asked for, whether the cell took it or not
pub record Write : Type 0 where
  pub at : ℕ
  pub byte : ℕ

abbrev pub write : ℕ → ℕ → Write
write a b = record { at = a; byte = b }

pub record Run (A : Type 0) : Type 0 where
  pub answer : A
  pub log : List Write
  pub tried : ℕ
  pub after : Chip

abbrev pub run : {A : Type 0} → A → List Write → ℕ → Chip → Run A
run answer log tried after = record { answer = answer; log = log; tried = tried; after = after }

-- no work: an answer, and the chip as it is
abbrev pub still : {A : Type 0} → A → Chip → Run A
still x s = run x [] 0 s

-- the same work with another answer
abbrev pub ◌giving◌ : {A B : Type 0} → Run A → B → Run B
r giving x = run x r.log r.tried r.after

-- one piece of work, and then another that started on the chip as the first left it
abbrev pub ◌then◌ : {A B : Type 0} → Run A → Run B → Run B
r then q = run q.answer (r.log ++ q.log) (r.tried + q.tried) q.after

-- what a function can say of its work: the log is seen as its length
pub record Seen (A : Type 0) : Type 0 where
  pub answer : A
  pub writes : ℕ
  pub tried : ℕ
  pub after : Chip

abbrev pub seen : {A : Type 0} → A → ℕ → ℕ → Chip → Seen A
seen answer writes tried after = record { answer = answer; writes = writes; tried = tried; after = after }

abbrev pub view : {A : Type 0} → Run A → Seen A
view r = seen r.answer (length r.log) r.tried r.after

-- the same, behind work that took so many writes and tries
abbrev pub plus : {A : Type 0} → ℕ → ℕ → Seen A → Seen A
plus w t v = seen v.answer (w + v.writes) (t + v.tried) v.after
