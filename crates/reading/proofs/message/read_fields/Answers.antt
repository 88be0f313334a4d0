-- `message::read_fields` meets its contract, by the laws of `Repeats` and `Search`.
use mathlib.Core.Path.{◌≡◌, ◌∙◌}
use native.Mathlib.Omega.{arith}
use borrow.Author.Rules.{rules}
use Rattle.bit_ops.specs.Parts.{part_in}
use Rattle.kinds.specs.Layout.{layout}
use Rattle.standard.specs.Reading.{other_field}
use Rattle.reading.specs.Bodies.{fields_read}
use Rattle.reading.proofs.Search.{ruled_found, ruled_none}
use Rattle.reading.proofs.Repeats.{other_block, late_rule, none_late}
use Rattle.reading.proofs.message.read_fields.Goals as goal

pub returns-then-offset_of-eq0 : goal.returns-then-offset_of-eq0
returns-then-offset_of-eq0 c = c.read_body.ensures ∙ none_late c.args.kind c.args.words.now (omega (arith, c.offset_of.ensures)) c.requires.1

pub returns-in-Some : goal.returns-in-Some
unfolding fields_read part_in
returns-in-Some c =
    let late = late_rule c.args.kind c.args.words.now (omega (arith, c.offset_of.ensures)) in
    ruled_found _ _ _ _ (c.in-Some.ensures (other_field (layout c.args.kind).fields c.args.words.now) (λ p b h a. let e : b ≡ other_block c.args.words.now p = search rules in e ∙ late p))

pub returns : goal.returns
unfolding fields_read part_in
returns c =
    let late = late_rule c.args.kind c.args.words.now (omega (arith, c.offset_of.ensures)) in
    ruled_none _ _ _ _ (c.in_default.ensures (other_field (layout c.args.kind).fields c.args.words.now) (λ p b h a. let e : b ≡ other_block c.args.words.now p = search rules in e ∙ late p)) c.read_body-2.ensures
