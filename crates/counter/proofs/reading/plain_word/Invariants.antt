-- What the loop of `reading::plain_word` keeps.
use Rattle.std.proofs.Common.{◌≡◌, ℕ, ◌<◌, get_or}
use Rattle.code.specs.Entries.{entry_of}
use Rattle.counter.specs.Reading.{data_at}
use Rattle.counter.proofs.PlainBytes.{PlainTo}
use Rattle.counter.proofs.reading.plain_word.Given as goal

abbrev pub invariant-loop-n : goal.invariant-loop-n
invariant-loop-n l =
    record {
      rule : (b : ℕ) → b < 256 → get_or l.table b 0 ≡ entry_of b;
      plain : l.apart ≡ 0 → l.seen < 16 → PlainTo l.n (data_at l.image l.map) l.word;
    }
