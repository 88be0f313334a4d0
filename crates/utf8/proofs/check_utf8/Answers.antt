-- `utf8::check_utf8` meets its contract. Invariant: checking the remaining bytes from here gives the verdict on the whole text.
use Rattle.std.proofs.Common.{◌∙◌, sym, Ok}
use Rattle.std.proofs.lemmas.Result.{err_from_is_err_and}
use Rattle.utf8.specs.Utf8.{first_bad}
use Rattle.utf8.proofs.Steps.{scan_goes_on, scan_stops, scan_finish}
use Rattle.utf8.proofs.check_utf8.Goals as goal

pub loop-i-init : goal.loop-i-init
unfolding first_bad
loop-i-init c = rw c.before_text-last.ensures

pub returns-in_err-last : goal.returns-in_err-last
returns-in_err-last c =
    let p = err_from_is_err_and c.from_residual.result c.from_residual.ensures.1 in
    rw (p.1, p.2) (scan_stops _ (Ok c.loop-i.last) _ c.loop-i-test.true (c.type_inv.text c.loop-i.i).fits _ (sym c.in_err-last.was ∙ c.after_byte.ensures) ∙ c.loop-i.invariant)

pub loop-i-preserved : goal.loop-i-preserved
loop-i-preserved c =
    scan_goes_on _ (Ok c.loop-i.last) _ c.loop-i-test.true (c.type_inv.text c.loop-i.i).fits (Ok c.in_ok-last.last) (sym c.in_ok-last.was ∙ c.after_byte.ensures) ∙ c.loop-i.invariant

pub returns : goal.returns
returns c = c.verdict_at_end.ensures ∙ scan_finish _ _ _ c.loop-i-test.false ∙ c.loop-i.invariant
