-- The card of the worked example, computed from the definitions: its text, and what it answers at four counts.
use mathlib.Core.Path.{◌≡◌, refl}
use mathlib.Core.List.{[], ◌∷◌, map, flatten}
use lib.IntN.{pos}
use Rattle.text.specs.Text.{digits, decimal, line, bytes_of}
use Rattle.card.specs.Cards.{Card, card, run_texts, text_of, all_speeds}
use Rattle.card.specs.Answers.{limit_fault, fault_of, total, time_of, answer, refused, used_of, answer_of}

-- fitted at 100, 5000 turns allowed, 10 turns at 33 1/3 and 3 at 45
abbrev pub sapphire : Card
sapphire = card 100 5000 (33 ∷ 45 ∷ []) (10 ∷ 3 ∷ [])

pub its_text : text_of sapphire ≡ bytes_of "fitted=100\nallowed=5000\nruns=2\nspeed=33\nturns=10\nspeed=45\nturns=3\n"
unfolding text_of run_texts line decimal digits flatten
its_text = refl

pub its_answers : map (answer_of 2 sapphire) (113 ∷ 99 ∷ 112 ∷ 114 ∷ []) ≡ answer 0 13 (pos 4987) 330 ∷ refused 2 ∷ refused 3 ∷ refused 3 ∷ []
unfolding answer_of used_of fault_of limit_fault all_speeds total time_of
its_answers = refl
