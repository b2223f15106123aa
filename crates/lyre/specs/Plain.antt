-- What the structs for C say, in the terms of the counter, of room, of intelhex and of card.
use Rattle.counter.specs.declared.verdict.Answer as verdict
use Rattle.counter.specs.declared.doors.ReadAnswer as reading
use Rattle.counter.specs.declared.doors.Part as doors
use Rattle.room.specs.declared.kept.Kept as keeping
use Rattle.room.specs.declared.left.Room as leaving
use Rattle.intelhex.specs.declared.Answer as hex
use Rattle.card.specs.Answers as card_answer
use Rattle.lyre.specs.declared.Answer.{Answer}
use Rattle.lyre.specs.declared.ReadAnswer.{ReadAnswer}
use Rattle.lyre.specs.declared.Part.{Part}
use Rattle.lyre.specs.declared.Kept.{Kept}
use Rattle.lyre.specs.declared.Room.{Room}
use Rattle.lyre.specs.declared.Hex.{Hex}
use Rattle.lyre.specs.declared.Card.{Card}

-- the answer that an answer for C stands for, field by field
abbrev pub answer_in : Answer → verdict.Answer
answer_in a = record { code = a.code; count = a.count; lag = a.lag; place = a.place; writes = a.writes; tried = a.tried }

-- the answer of read that one for C stands for: its six fields, and the counts behind them
abbrev pub read_answer_in : ReadAnswer → reading.ReadAnswer
read_answer_in a =
    record {
      answer = record { code = a.code; count = a.count; lag = a.lag; place = a.place; writes = a.writes; tried = a.tried };
      bits = a.bit;
    }

-- the part that a part for C stands for
abbrev pub part_in : Part → doors.Part
part_in p = record { code = p.code; start = p.start; size = p.length }

-- what a kept door gave that one for C stands for: an answer's six fields, and the ends behind them
abbrev pub kept_in : Kept → keeping.Kept
kept_in a =
    record {
      answer = record { code = a.code; count = a.count; lag = a.lag; place = a.place; writes = a.writes; tried = a.tried };
      ends = record { highest = a.high; lowest = a.low };
    }

-- the room that one for C stands for
abbrev pub room_in : Room → leaving.Room
room_in a = record { high = a.high; low = a.low }

-- the answer of Intel HEX that one for C stands for
abbrev pub hex_in : Hex → hex.Answer
hex_in h = record { code = h.code; line = h.line; length = h.length }

-- the answer of a card that one for C stands for
abbrev pub card_answer_in : Card → card_answer.Answer
card_answer_in c = record { code = c.code; used = c.used; left = c.left; time = c.time }
