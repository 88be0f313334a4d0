-- A framed message: its packets lie within the words, so they can be lent to reading, and framing has looked at their heads.
use native.Mathlib.Omega.{arith}
use native.Mathlib.Nat.{add-sub_cancel_left}
use Rattle.standard.specs.Walk.{framed_of}
use Rattle.walking.proofs.FramedRead.{framed_room, framed_words, framed_read_lem}
use Rattle.walking.proofs.walk_framed.Goals as goal

pub overflow_add-after : goal.overflow_add-after
overflow_add-after c = let e = c.in-Whole.ensures in omega (arith, framed_room _ _ e, framed_words _ _ e c.first_word.ensures (omega arith))

pub slice_bounds-read_framed-end : goal.slice_bounds-read_framed-end
slice_bounds-read_framed-end c = let e = c.in-Whole.ensures in omega (arith, framed_room _ _ e, framed_words _ _ e c.first_word.ensures (omega arith))

pub returns-in-Whole : goal.returns-in-Whole
unfolding framed_of
returns-in-Whole c =
    let e = c.in-Whole.ensures in
    rw (← e, ← framed_read_lem _ _ e, ← framed_words _ _ e c.first_word.ensures (omega arith), ← (rw (add-sub_cancel_left) at c.read_framed.ensures)) c.walk_read.ensures
