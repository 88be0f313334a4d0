-- `texts::fill_text` meets its contract, by the laws of `Turns` and `Written`.
use Prim.Native.Nat.{◌-◌, ◌*◌, ◌<◌}
use mathlib.Core.Path.{◌≡◌, sym, ap, ◌∙◌}
use native.Mathlib.Omega.{arith}
use borrow.Author.Tests.{le-ltb, lt-leb}
use Rattle.std.proofs.lemmas.Map.Keys.{ge_from_not_lt}
use Rattle.laws.specs.Lists.{up_to}
use Rattle.laws.proofs.Pick.{past}
use Rattle.laws.proofs.Lists.{up_to_below, up_to_again}
use Rattle.counts.specs.declared.PacketNumber.{PacketNumber}
use Rattle.text.specs.Written.{written, word_new}
use Rattle.text.proofs.Written.{word_zero}
use Rattle.buffer.specs.Acts.{formatted, fill_text}
use Rattle.buffer.proofs.Turns.{word_of, clear_rest, fewest}
use Rattle.buffer.proofs.texts.fill_text.Goals as goal
use Rattle.buffer.proofs.texts.fill_text.Goals.{then-lt, else-lt}

pub fill_rest-requires-clause-done : goal.fill_rest-requires-clause-done
fill_rest-requires-clause-done c =
    let a = c.args in
    let e = ap (λ (p : PacketNumber). p.0) c.whole_packets-whole.ensures in
    let m = fewest a.packets c.whole_packets-whole.result c.min-n.result c.min-n.ensures in
    let q = c.fill_near-done.ensures in
    λ k h. rw q.words_after (sym (up_to_below _ _ a.words.now k h (omega (arith, e, m.second, q.within))))

pub returns : goal.returns
unfolding fill_text written
returns c =
    let a = c.args in
    let f = word_new a.text.now (formatted a.head) (14 - a.offset) a.packets.0 in
    let e = ap (λ (p : PacketNumber). p.0) c.whole_packets-whole.ensures in
    let n = c.min-n.result.0 in
    let m = fewest a.packets c.whole_packets-whole.result c.min-n.result c.min-n.ensures in
    let q = c.fill_near-done.ensures in
    let w = word_of c.min-n.result c.first_word.result (omega (arith, m.first)) c.first_word.ensures in
    let filled : c.if-lt.words ≡ up_to (n * 4) f a.words.now =
    elim c.if-lt.branch [
      | then-lt b ↦ b.words-is ∙ b.fill_rest.ensures ∙ ap (up_to (n * 4) f) q.words_after ∙ up_to_again (c.fill_near-done.result.0 * 4) (n * 4) f a.words.now (omega (arith, q.within))
      | else-lt b ↦
          let l = ge_from_not_lt c.fill_near-done.result.0 n (sym c.lt.ensures ∙ b.if-lt.false) in
          let s : c.fill_near-done.result.0 ≡ n = omega (arith, q.within, l) in
          b.words-is ∙ rw s at q.words_after
    ] in
    past _ (lt-leb _ _ c.if-offset-ge14.false) (past _ (le-ltb _ _ c.if-packets-gt64.false)
    (c.clear_from.ensures ∙ rw (w, filled) (clear_rest f (n * 4) a.words.now (omega (arith, e, m.second)) (λ k h l. sym (word_zero a.text.now (formatted a.head) (14 - a.offset) a.packets.0 k (let r : n < c.whole_packets-whole.result.0 = omega (arith, e) in omega (arith, m.either r)))))))
