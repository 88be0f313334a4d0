-- `TextPacket::words_at_end` meets its contract, by the laws of `Octets`: its last three words are twelve bytes of the text, 0 past its end.
use Prim.Native.Nat.{ℕ, ◌-◌}
use mathlib.Core.Path.{refl, sym, ap, ◌∙◌}
use native.Mathlib.Omega.{arith}
use native.Mathlib.Nat.{add-zero}
use borrow.Author.Rules.{rules}
use Rattle.counts.specs.declared.TextByteNumber.{TextByteNumber}
use Rattle.text.specs.Written.{word_in}
use Rattle.buffer.proofs.Octets.{first_text, later_text}
use Rattle.buffer.proofs.Turns.{four_words}
use Rattle.buffer.proofs.texts.TextPacket.words_at_end.Goals as goal

pub returns : goal.returns
returns c =
    let s = c.args.self in
    let head : ℕ → ℕ = λ f. s.head in
    let text = c.args.text.now in
    let at = ap (λ (b : TextByteNumber). b.0) c.byte_of_text-start.ensures.value in
    let e = later_text text head s.offset 0 s.number.0 c.requires _ at in
    let first = first_text text head s.offset 0 s.number.0 c.requires _ at s.head _ refl (search rules) (λ k. (c.type_inv.text k).fits) c.four_bytes.ensures in
    four_words (word_in text head (14 - s.offset) 0 s.number.0) _ _ _ _
    (c.joined.ensures ∙ first) (c.four_bytes-2.ensures ∙ e 1 0 _ (omega arith) (sym (add-zero _))) (c.four_bytes-3.ensures ∙ e 2 4 _ (omega arith) refl) (c.four_bytes-4.ensures ∙ e 3 8 _ (omega arith) refl)
