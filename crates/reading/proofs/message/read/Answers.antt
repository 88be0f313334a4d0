-- `message::read` meets its contract: each refusal where the definition has it, and a body by what the pass saw of the heads.
use Prim.Native.Nat.{ℕ}
use mathlib.Core.Path.{sym, ap, ◌∙◌}
use native.Mathlib.Omega.{arith}
use Rattle.kinds.specs.Layout.{kind_of}
use Rattle.reading.proofs.HeadedRead.{all_headed, all_rules}
use Rattle.reading.proofs.message.read.Goals as goal

pub returns-then-heads_right : goal.returns-then-heads_right
returns-then-heads_right c =
    let known = ap (λ (x : ℕ). kind_of x) (sym c.status_of.ensures) ∙ sym c.kind_of.ensures ∙ c.in-Some.is in
    c.read_body.ensures ∙ all_headed c.args.words.now c.packets_of-n.ensures c.first_word-to.ensures (omega arith) c.if-words-lt4.false c.if-words-ne0.false _ known (sym c.heads_right.ensures ∙ c.if-heads_right.true)

pub returns : goal.returns
returns c = c.read_rules.ensures ∙ all_rules c.args.words.now c.packets_of-n.ensures c.first_word-to.ensures (omega arith) c.if-words-lt4.false c.if-words-ne0.false c.if-n-gt64.false
