-- `helpers::seen_text` meets its contract: the packets that the heads say are there, and their text is good or not.
use mathlib.Core.Path.{sym, ◌∙◌}
use Rattle.reading.proofs.Passes.{headed_to, headed_words, none_seen, seen_good, seen_bad}
use Rattle.reading.proofs.helpers.seen_text.Goals as goal

pub returns-in_err-packets : goal.returns-in_err-packets
returns-in_err-packets c = c.from_residual.ensures ∙ none_seen _ _ (sym c.in_err-packets.ensures)

pub slice_bounds-good_text-end : goal.slice_bounds-good_text-end
slice_bounds-good_text-end c = let e = sym c.in_ok-packets.ensures in rw (headed_to _ _ e c.first_word-to.ensures) (headed_words _ _ e)

pub returns-then-not-good_text : goal.returns-then-not-good_text
returns-then-not-good_text c = let e = sym c.in_ok-packets.ensures in seen_bad _ _ e (rw (headed_to _ _ e c.first_word-to.ensures) at (sym c.if-not-good_text.ensures))

pub returns : goal.returns
returns c = let e = sym c.in_ok-packets.ensures in seen_good _ _ e (rw (headed_to _ _ e c.first_word-to.ensures) at (sym c.if-not-good_text.ensures))
