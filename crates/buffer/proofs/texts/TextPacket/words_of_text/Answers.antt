-- `TextPacket::words_of_text` meets its contract, by the laws of `Octets`: its last three words are twelve bytes of the text.
use Prim.Native.Nat.{ℕ, ◌+◌, ◌-◌}
use mathlib.Core.Path.{refl, ap, ◌∙◌}
use native.Mathlib.Omega.{arith}
use native.Mathlib.Nat.{add-zero}
use borrow.Author.Rules.{rules}
use Rattle.counts.specs.declared.TextByteNumber.{TextByteNumber}
use Rattle.text.specs.Written.{word_in}
use Rattle.text.proofs.BigEndian.{big_endian_part}
use Rattle.buffer.proofs.Octets.{first_text, later-part}
use Rattle.buffer.proofs.Turns.{four_words}
use Rattle.buffer.proofs.texts.TextPacket.words_of_text.Goals as goal

pub returns : goal.returns
returns c =
    let s = c.args.self in
    let head : ℕ → ℕ = λ f. s.head in
    let text = c.args.text.now in
    let near = c.requires.0 in
    let room = c.requires.1 in
    let at = ap (λ (b : TextByteNumber). b.0) c.byte_of_text-start.ensures.value in
    let i = c.byte_of_text-start.result.0 in
    let from = i + (2 - s.offset) in
    let e = later-part text head s.offset 0 s.number.0 near i at in
    let lead = c.big_endian.ensures ∙ big_endian_part text i (i + 4 - i) (omega (arith, near, room, at)) 0 (omega arith) in
    let first = first_text text head s.offset 0 s.number.0 near i at s.head _ refl (search rules) (λ k. (c.type_inv.text k).fits) (rw (add-zero i) at lead) in
    four_words (word_in text head (14 - s.offset) 0 s.number.0) _ _ _ _
    (c.joined.ensures ∙ first) (c.big_endian-2.ensures ∙ e 1 0 (from + 12 - from) (omega arith) (omega arith) (omega (arith, near, room, at))) (c.big_endian-3.ensures ∙ e 2 4 (from + 12 - from) (omega arith) (omega arith) (omega (arith, near, room, at))) (c.big_endian-4.ensures ∙ e 3 8 (from + 12 - from) (omega arith) (omega arith) (omega (arith, near, room, at)))
