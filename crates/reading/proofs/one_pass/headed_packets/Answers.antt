-- `one_pass::headed_packets` meets its contract, turn by turn.
use mathlib.Core.Path.{sym, ap, ◌∙◌}
use borrow.Author.Tests.{eq-eqb, ne_eqb, eqb-true}
use Rattle.text.proofs.Heads.{head_in_lem}
use Rattle.standard.specs.Heads.{format_of}
use Rattle.reading.proofs.Passes.{turn_goes, turn_ends, turn_none, turn_over, no_words, other_type, same_type, like_there}
use Rattle.reading.proofs.one_pass.headed_packets.Goals as goal

pub returns-then-is_empty : goal.returns-then-is_empty
returns-then-is_empty c = no_words _ _ (eqb-true _ _ (sym c.if-is_empty.ensures))

pub returns-then-type_of-ne15 : goal.returns-then-type_of-ne15
returns-then-type_of-ne15 c = other_type _ _ (λ e. c.if-type_of-ne15.true (c.type_of.ensures ∙ e))

pub returns-then-not-like_first : goal.returns-then-not-like_first
returns-then-not-like_first c = same_type _ _ _ (sym c.type_of.ensures ∙ c.if-type_of-ne15.false) (sym (c.loop-p.invariant ∙ turn_none _ _ _ c.loop-p-test.true (sym c.if-not-like_first.ensures)))

pub returns-then-format-due_format : goal.returns-then-format-due_format
returns-then-format-due_format c =
    let is = sym c.if-not-like_first.ensures in
    let format = c.format_of-format.ensures ∙ ap format_of (c.head_at.ensures ∙ head_in_lem _ _ (like_there _ _ _ is)) in
    let no = ne_eqb _ _ (λ e. c.if-format-due_format.true (format ∙ e ∙ sym c.due_format.ensures)) in
    c.ends_at.ensures ∙ rw format (same_type _ _ _ (sym c.type_of.ensures ∙ c.if-type_of-ne15.false) (sym (c.loop-p.invariant ∙ turn_ends _ _ _ c.loop-p-test.true is no)))

pub loop-p-preserved : goal.loop-p-preserved
loop-p-preserved c =
    let is = sym c.if-not-like_first.ensures in
    let format = c.format_of-format.ensures ∙ ap format_of (c.head_at.ensures ∙ head_in_lem _ _ (like_there _ _ _ is)) in
    c.loop-p.invariant ∙ turn_goes _ _ _ c.loop-p-test.true is (eq-eqb _ _ (sym format ∙ c.if-format-due_format.false ∙ c.due_format.ensures))

pub returns : goal.returns
returns c = same_type _ _ _ (sym c.type_of.ensures ∙ c.if-type_of-ne15.false) (sym (c.loop-p.invariant ∙ turn_over _ _ _ c.loop-p-test.false))
