-- `calls::frayedbin_text` meets its contract, by the laws of `Texts`.
use mathlib.Core.Path.{sym, ap, ◌∙◌}
use Rattle.text_copy.specs.Copied.{CopyOutcome}
use Rattle.c_structs.specs.Crossed.{copy_crossed}
use Rattle.frayedbin.proofs.Texts.{text_refused, text_copied, text_known}
use Rattle.frayedbin.proofs.calls.frayedbin_text.Goals as goal

pub returns-in-None : goal.returns-in-None
returns-in-None c = absurd (text_known _ c.frayedbin_read-read.ensures c.if-read-ne0.false (sym c.kind_of.ensures ∙ c.in-None.is))

pub returns-then-read-ne0 : goal.returns-then-read-ne0
returns-then-read-ne0 c =
    let r = text_refused _ c.frayedbin_read-read.ensures _ c.if-read-ne0.true in
    record { answer = r.0; bytes = r.1 }

pub returns-in-Some : goal.returns-in-Some
returns-in-Some c =
    let copied = c.copy_kind.ensures in
    let t = text_copied _ c.frayedbin_read-read.ensures _ c.if-read-ne0.false (sym c.kind_of.ensures ∙ c.in-Some.is) in
    record {
      answer = c.from.ensures ∙ ap copy_crossed (copied.answer ∙ ap (λ (o : CopyOutcome). o.answer) t);
      bytes = copied.bytes ∙ ap (λ (o : CopyOutcome). o.bytes) t;
    }
