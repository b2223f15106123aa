-- `doors::part_verdict` meets its contract.
use Rattle.std.proofs.Common.{◌≡◌, sym, ◌∙◌, le-leb}
use borrow.Author.Tests.{lt-leb}
use Rattle.counter.specs.Layout.{two}
use Rattle.counter.specs.Map.{map_in, pointer_of, sound}
use Rattle.counter.specs.Doors.{part_verdict}
use Rattle.counter.proofs.Standings.{guard_marked}
use Rattle.counter.proofs.doors.part_verdict.Goals as goal

pub returns-then-not-map_sound : goal.returns-then-not-map_sound
unfolding part_verdict
returns-then-not-map_sound c =
    let tested : let s = c.args in
    sound two s.p (pointer_of (map_in two s.p s.image.now)) ≡ c.map_sound.result =
    sym c.map_sound.ensures in
    sym (guard_marked two _ _ _ c.requires ∙ rw (tested ∙ c.if-not-map_sound.true))

pub returns-then-copy-lt1 : goal.returns-then-copy-lt1
unfolding part_verdict
returns-then-copy-lt1 c =
    let tested : let s = c.args in
    sound two s.p (pointer_of (map_in two s.p s.image.now)) ≡ c.map_sound.result =
    sym c.map_sound.ensures in
    sym (guard_marked two _ _ _ c.requires ∙ rw (tested ∙ c.if-not-map_sound.false, lt-leb _ _ c.if-copy-lt1.true))

pub returns-then-copy-gt2 : goal.returns-then-copy-gt2
unfolding part_verdict
returns-then-copy-gt2 c =
    let tested : let s = c.args in
    sound two s.p (pointer_of (map_in two s.p s.image.now)) ≡ c.map_sound.result =
    sym c.map_sound.ensures in
    sym (guard_marked two _ _ _ c.requires ∙ rw (tested ∙ c.if-not-map_sound.false, le-leb _ _ c.if-copy-lt1.false, lt-leb _ _ c.if-copy-gt2.true))

pub returns : goal.returns
unfolding part_verdict
returns c =
    let tested : let s = c.args in
    sound two s.p (pointer_of (map_in two s.p s.image.now)) ≡ c.map_sound.result =
    sym c.map_sound.ensures in
    sym (guard_marked two _ _ _ c.requires ∙ rw (tested ∙ c.if-not-map_sound.false, le-leb _ _ c.if-copy-lt1.false, le-leb _ _ c.if-copy-gt2.false))
