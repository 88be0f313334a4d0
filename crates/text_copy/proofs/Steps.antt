-- A COPIED TEXT is what steps from the start return, and a call that does not copy leaves every byte. By cases on what reading answers.
use Rattle.std.specs.Prelude.{Result, Ok, Err}
use Prim.Native.Nat.{ℕ, ◌-◌}
use mathlib.Core.Path.{◌≡◌, refl, sym, ap}
use mathlib.Core.Bool.{true, false}
use mathlib.Core.List.{List}
use native.Mathlib.Omega.{arith}
use lib.ListN.{length, drop, length-append, length-drop}
use lib.Seq.{take-append_seam, drop-append_seam}
use lib.Dec.{leb}
use borrow.Author.Tests.{leb-true, leb-false}
use Rattle.laws.proofs.Pick.{never, true_false, split}
use Rattle.counts.specs.Counts.{byte}
use Rattle.counts.specs.declared.TextByteNumber.{TextByteNumber}
use Rattle.text.specs.Handed.{start_place, HandsOut}
use Rattle.text.proofs.Place.{hands_all, handed_is}
use Rattle.kinds.specs.declared.kind.Kind.{Kind}
use Rattle.kinds.specs.declared.kind.Kind.TheVariants as K
use Rattle.kinds.specs.Layout.{layout, has_text}
use Rattle.records.specs.Records.{kind_in}
use Rattle.standard.specs.Heads.{status_of, head_at}
use Rattle.standard.specs.Reading.{read_of, text_at}
use Rattle.standard.specs.Place.{offset_here}
use Rattle.standard.proofs.Formed.{read_formed}
use Rattle.text_copy.specs.declared.NotCopied.TheVariants as N
use Rattle.text_copy.specs.Copied.{Copying, copy_text, copy_read, copy_on}
use Rattle.text_copy.specs.Steps.{StepsCopied, StepsTooLong}
use Rattle.records.specs.declared.message.Message.{Message}
use Rattle.kinds.specs.declared.refusal.Refusal.{Refusal}

-- the number that an answer holds
abbrev length_in : Copying → ℕ
length_in (Ok n) = n.0
length_in (Err (N.NoRoom n)) = n.0
length_in (Err (N.Refused r)) = 0

-- the text of a kind is what the text place steps through, if the first word has the kind's status
hands_text : (k : Kind) (ws : List ℕ) → has_text (layout k).body ≡ true → status_of (head_at ws 0) ≡ (layout k).status → HandsOut ws (14 - offset_here ws) start_place (text_at k ws)
unfolding layout offset_here
hands_text K.EndpointDiscovery ws t e = true_false (sym t)
hands_text K.EndpointInfo ws t e = true_false (sym t)
hands_text K.DeviceIdentity ws t e = true_false (sym t)
hands_text K.EndpointName ws t e = rw e (hands_all ws 14 (omega arith))
hands_text K.ProductInstanceId ws t e = rw e (hands_all ws 14 (omega arith))
hands_text K.FunctionBlockInfo ws t e = true_false (sym t)
hands_text K.FunctionBlockName ws t e = rw e (hands_all ws 13 (omega arith))

module _ (ws out : List ℕ) (n : TextByteNumber) where
  -- a text that was copied
  text_steps : (t : List ℕ) → HandsOut ws (14 - offset_here ws) start_place t → (copy_text t out).answer ≡ Ok n → StepsCopied ws out n.0 (copy_text t out).bytes
  text_steps t s e = split (leb (length t) (length out)) fits (λ q. never (let u = rw q at e in cc))
    where
      fits : leb (length t) (length out) ≡ true → StepsCopied ws out n.0 (copy_text t out).bytes
      fits q =
          let m : length t ≡ n.0 = ap length_in (rw q at e) in
          let taken = take-append_seam t (drop (length t) out) in
          rw (q, ← m)
          (record {
            count = ap length taken;
            steps = rw taken s;
            rest = drop-append_seam t (drop (length t) out);
            room = rw (length-append, length-drop) (omega (arith, leb-true (length t) (length out) q));
          })

  -- a text without room for it
  text_too_long : (t : List ℕ) → HandsOut ws (14 - offset_here ws) start_place t → (copy_text t out).answer ≡ Err (N.NoRoom n) → StepsTooLong ws out n.0
  text_too_long t s e = split (leb (length t) (length out)) (λ q. never (let u = rw q at e in cc)) longer
    where
      longer : leb (length t) (length out) ≡ false → StepsTooLong ws out n.0
      longer q =
          let m : length t ≡ n.0 = ap length_in (rw q at e) in
          let h = handed_is s (length t) (omega arith) in
          rw (← m) (record { count = ap length h; steps = rw h s; room = leb-false (length t) (length out) q })

  read_steps : (r : (Result Message Refusal)) → read_of ws ≡ r → (copy_read r ws out).answer ≡ Ok n → StepsCopied ws out n.0 (copy_read r ws out).bytes
  read_steps (Err x) q e = never (cc)
  read_steps (Ok m) q e =
      split (has_text (layout (kind_in m)).body)
      (λ t. rw t (text_steps (text_at (kind_in m) ws) (hands_text (kind_in m) ws t (let f = read_formed ws m q in f.status 0 f.some)) (rw t at e)))
      (λ t. never (let u = rw t at e in cc))

  read_too_long : (r : (Result Message Refusal)) → read_of ws ≡ r → (copy_read r ws out).answer ≡ Err (N.NoRoom n) → StepsTooLong ws out n.0
  read_too_long (Err x) q e = never (cc)
  read_too_long (Ok m) q e =
      split (has_text (layout (kind_in m)).body)
      (λ t. text_too_long (text_at (kind_in m) ws) (hands_text (kind_in m) ws t (let f = read_formed ws m q in f.status 0 f.some)) (rw t at e))
      (λ t. never (let u = rw t at e in cc))

  -- THE COPIED BYTES are the text, as steps from the start return it
  pub copied_steps : (copy_on ws out).answer ≡ Ok n → StepsCopied ws out n.0 (copy_on ws out).bytes
  unfolding copy_on
  copied_steps e = read_steps (read_of ws) refl e

  -- NO ROOM: the text has the answered length, which is more than there are bytes
  pub too_long_steps : (copy_on ws out).answer ≡ Err (N.NoRoom n) → StepsTooLong ws out n.0
  unfolding copy_on
  too_long_steps e = read_too_long (read_of ws) refl e

module _ (ws out : List ℕ) where
  text_left : (t : List ℕ) → ((n : TextByteNumber) → (copy_text t out).answer ≡ Ok n → ⊥) → (copy_text t out).bytes ≡ out
  text_left t h = split (leb (length t) (length out)) (λ q. absurd (h (byte (length t)) (rw q))) (λ q. rw q)

  read_left : (r : (Result Message Refusal)) → ((n : TextByteNumber) → (copy_read r ws out).answer ≡ Ok n → ⊥) → (copy_read r ws out).bytes ≡ out
  read_left (Err x) h = refl
  read_left (Ok m) h = split (has_text (layout (kind_in m)).body) (λ t. rw t (text_left (text_at (kind_in m) ws) (rw t at h))) (λ t. rw t)

  -- A CALL THAT DOES NOT COPY leaves every byte
  pub not_copied : ((n : TextByteNumber) → (copy_on ws out).answer ≡ Ok n → ⊥) → (copy_on ws out).bytes ≡ out
  unfolding copy_on
  not_copied h = read_left (read_of ws) h
