-- The size of another type's message: each return is a case of the walk.
use mathlib.Core.Path.{sym, ap, ◌∙◌}
use Rattle.counts.specs.declared.WordNumber.{WordNumber}
use Rattle.standard.specs.Walk.{size_of}
use Rattle.walking.proofs.Other.{size_end, size_stream, size_short, size_whole, size_one}
use Rattle.walking.proofs.helpers.other_size.Goals as goal

pub returns-then-words-pos : goal.returns-then-words-pos
returns-then-words-pos c = size_end _ _ c.if-words-pos.true

pub returns-then-size-eq1 : goal.returns-then-size-eq1
returns-then-size-eq1 c =
    let one = ap (λ (n : WordNumber). n.0) (sym c.size_of-size.ensures) ∙ c.if-size-eq1.true in
    size_one _ _ c.if-words-pos.false (ap size_of (sym c.type_of-ump_type.ensures) ∙ one)

pub returns-then-ump_type-eq15 : goal.returns-then-ump_type-eq15
returns-then-ump_type-eq15 c = size_stream _ _ c.if-words-pos.false (sym c.type_of-ump_type.ensures ∙ c.if-ump_type-eq15.true)

pub returns-then-words-pos-2 : goal.returns-then-words-pos-2
returns-then-words-pos-2 c =
    let size = c.size_of-size.ensures in
    let type = c.type_of-ump_type.ensures in
    size_short _ _ c.if-words-pos.false (λ e. c.if-ump_type-eq15.false (type ∙ e)) (rw (size, type) at c.if-words-pos-2.true)

pub returns : goal.returns
returns c =
    let size = c.size_of-size.ensures in
    let type = c.type_of-ump_type.ensures in
    rw (size, type) (size_whole _ _ c.if-words-pos.false (λ e. c.if-ump_type-eq15.false (type ∙ e)) (rw (size, type) at c.if-words-pos-2.false))
