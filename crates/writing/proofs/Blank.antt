-- A fresh message is the buffer cleared, with one head. Closed by taking the first packet off; the table is computed over it.
use Prim.Native.Nat.{ℕ, suc, ◌+◌, ◌*◌, ◌/◌, ◌≤◌}
use mathlib.Core.Path.{◌≡◌, refl, sym, ap, ◌∙◌, fun_ext}
use mathlib.Core.List.{List, [], ◌∷◌}
use native.Mathlib.Omega.{arith}
use lib.ListN.{length}
use lib.Dec.{eqb}
use borrow.Author.Tests.{ne_eqb, eqb-true}
use Rattle.laws.specs.Pick.{pick, both}
use Rattle.laws.specs.Lists.{up_to}
use Rattle.slots.specs.Slots.{put, put_all}
use Rattle.text.specs.Written.{blank}
use Rattle.kinds.specs.declared.kind.Kind.{Kind}
use Rattle.kinds.specs.declared.kind.Kind.TheVariants as K
use Rattle.kinds.specs.Fields.{start, part_of}
use Rattle.kinds.specs.Layout.{layout, parts}
use Rattle.kinds.proofs.Rows.{every_kind, at_kind}
use Rattle.table.specs.Rows.{table_row}
use Rattle.standard.specs.Heads.{head_word}
use Rattle.standard.specs.Words.{put_word, head_of, fresh}

-- a buffer with a whole packet, cleared: its first packet, and the rest
record Opened (ws : List ℕ) : Type 0 where
  pub rest : List ℕ
  pub is : (head : ℕ) → blank head ws ≡ head ∷ 0 ∷ 0 ∷ 0 ∷ rest

opened : (ws : List ℕ) → 4 ≤ length ws → Opened ws
unfolding blank up_to
opened [] h = absurd (omega arith)
opened (a ∷ []) h = absurd (omega arith)
opened (a ∷ b ∷ []) h = absurd (omega arith)
opened (a ∷ b ∷ c ∷ []) h = absurd (omega arith)
opened (a ∷ b ∷ c ∷ d ∷ ws) h =
    let e : suc (suc (suc (suc (length ws)))) / 4 * 4 ≡ suc (suc (suc (suc (length ws / 4 * 4)))) = omega arith in
    let z : (head k : ℕ) → pick (eqb (suc (suc (suc (suc k)))) 0) head 0 ≡ 0 = λ head k. rw (ne_eqb (suc (suc (suc (suc k)))) 0 (λ q. omega arith)) in
    record { rest = up_to (length ws / 4 * 4) (λ k. 0) ws; is = λ head. rw e (ap (λ (f : ℕ → ℕ). head ∷ 0 ∷ 0 ∷ 0 ∷ up_to (length ws / 4 * 4) f ws) (fun_ext (z head))) }

-- a head of a kind, with zeros after it: the starting values are in it already, or go into it
start_put : (k : Kind) (rest : List ℕ) → put_all (layout k).fields (parts start) (head_word (layout k).status 0 ∷ 0 ∷ 0 ∷ 0 ∷ rest) ≡ head_of (layout k) start 0 ∷ 0 ∷ 0 ∷ 0 ∷ rest
unfolding layout start part_of put_word put put_all
start_put K.EndpointDiscovery rest = refl
start_put K.EndpointInfo rest = refl
start_put K.DeviceIdentity rest = refl
start_put K.EndpointName rest = refl
start_put K.ProductInstanceId rest = refl
start_put K.FunctionBlockInfo rest = refl
start_put K.FunctionBlockName rest = refl

pub fresh_blank : (k : Kind) (ws : List ℕ) → 4 ≤ length ws → fresh k ws ≡ blank (head_of (layout k) start 0) ws
unfolding fresh
fresh_blank k ws h =
    let o = opened ws h in
    ap (put_all (layout k).fields (parts start)) (o.is (head_word (layout k).status 0)) ∙ start_put k o.rest ∙ sym (o.is (head_of (layout k) start 0))

-- the head as the code puts it together
pub head_row : (k : Kind) → head_word (layout k).status 0 + (table_row k).start ≡ head_of (layout k) start 0
unfolding every_kind layout start part_of put_word put put_all both
head_row k = eqb-true _ _ (at_kind (λ j. eqb (head_word (layout j).status 0 + (table_row j).start) (head_of (layout j) start 0)) refl k)
