-- The laws of a writer: one text after another, the invariant of a loop that writes, and what the lender of the buffer learns. From the laws of a page.
use Prim.Native.Nat.{ℕ}
use mathlib.Core.Path.{◌≡◌, refl, sym, ◌∙◌}
use mathlib.Core.List.{List, [], ◌++◌}
use Rattle.std.specs.Borrow.{MutBor}
use Rattle.ascii_lines.specs.declared.Writer.{Writer}
use Rattle.ascii_lines.specs.Page.{page as page_at, Wrote, Opens, Puts}
use Rattle.ascii_lines.proofs.Page as page

-- ONE TEXT AND THEN ANOTHER is both joined; every line is built this way
infixl 65 ◌⨾◌
pub ◌⨾◌ : {r s t : Writer} {a b : List ℕ} → Puts r a s → Puts s b t → Puts r (a ++ b) t
◌⨾◌ v w = record { same_buffer = w.same_buffer ∙ v.same_buffer; wrote = page.◌⨾◌ v.wrote w.wrote }

pub nothing : (r : Writer) → Puts r [] r
nothing r = record { same_buffer = refl; wrote = page.nothing r.at r.out.now }

-- the same text in other terms
pub says : {r s : Writer} {a b : List ℕ} → Puts r a s → a ≡ b → Puts r b s
says w e = rw (← e) w

-- ANY TWO OUTCOMES are equal: the buffer that the writer has, its place and its bytes
pub same_outcome : {r s t : Writer} {a : List ℕ} → Puts r a s → Puts r a t → (s.out.ghost_name ≡ t.out.ghost_name) × (page_at s.at s.out.now ≡ page_at t.at t.out.now)
same_outcome v w = (v.same_buffer ∙ sym w.same_buffer, page.same_outcome v.wrote w.wrote)

-- ---- the loop invariant: writing the remaining text from here gives the whole text written from the start
pub record ToPut (r : Writer) (text : List ℕ) (s : Writer) (left : List ℕ) : Type 0 where
  pub same_buffer : s.out.ghost_name ≡ r.out.ghost_name
  pub rest : page.ToWrite r.at r.out.now text s.at s.out.now left

pub to_put_all : (r : Writer) (text : List ℕ) → ToPut r text r text
to_put_all r text = record { same_buffer = refl; rest = page.to_write_all r.at r.out.now text }

-- a turn writes the first part of the remaining text
pub to_put_turn : {r s t : Writer} {text left a b : List ℕ} → ToPut r text s left → Puts s a t → left ≡ a ++ b → ToPut r text t b
to_put_turn l w e = record { same_buffer = w.same_buffer ∙ l.same_buffer; rest = page.to_write_turn l.rest w.wrote e }

pub to_put_none : {r s : Writer} {text left : List ℕ} → ToPut r text s left → left ≡ [] → Puts r text s
to_put_none l e = record { same_buffer = l.same_buffer; wrote = page.to_write_none l.rest e }

-- WHAT THE LENDER OF THE BUFFER LEARNS at the end: j is the place that the writer gives, p what stands in the buffer
pub given_back : {lent : MutBor (List ℕ)} {r s : Writer} {text p : List ℕ} {j : ℕ} → Opens lent r → Puts r text s → j ≡ s.at → p ≡ s.out.now → Wrote 0 lent.now text j p
given_back o w d e = rw (d, e, ← o.bytes, ← o.start) w.wrote
