-- The walk answers a well-formed message at a position, with the position after it. Proved by framing packet by packet, and `formed_read`.
use Prim.Native.Nat.{ℕ, zero, suc, ◌+◌, ◌-◌, ◌*◌, ◌≤◌, ◌<◌}
use mathlib.Core.Path.{◌≡◌, refl, sym, ◌∙◌}
use mathlib.Core.Bool.{true, false}
use mathlib.Core.List.{List}
use native.Mathlib.Omega.{arith}
use native.Mathlib.Decide.{dec_lt}
use lib.ListN.{length, get_or, length-take, length-drop}
use lib.Seq.{get_or-take, get_or-drop}
use lib.Dec.{ltb, leb, eqb}
use borrow.Author.Tests.{lt-ltb, le-ltb, lt-leb, ne_eqb}
use Rattle.laws.proofs.Pick.{past, eq_differ}
use Rattle.counts.specs.Counts.{packet, word}
use Rattle.text.specs.Octets.{due_format}
use Rattle.kinds.specs.Layout.{layout}
use Rattle.kinds.proofs.Rows.{most_64}
use Rattle.records.specs.declared.message.Message.{Message}
use Rattle.records.specs.declared.answers.Walked.TheVariants as W
use Rattle.records.specs.Records.{kind_in, packets_in}
use Rattle.standard.specs.declared.Step.TheVariants.{Ends, Goes}
use Rattle.standard.specs.declared.Framed.{Framed}
use Rattle.standard.specs.declared.Framed.TheVariants.{Whole}
use Rattle.standard.specs.Heads.{type_of, stream_type, head_at}
use Rattle.standard.specs.Formed.{Formed}
use Rattle.standard.specs.Walk.{step_of, after_step, frame_packet, frame_from, frame_of, part, framed_of, walk_of}
use Rattle.standard.proofs.Formed.{formed_read}

-- ---- the words of n packets at a position
pub part_length : (ws : List ℕ) (pos n : ℕ) → pos + n * 4 ≤ length ws → length (part ws pos n) ≡ n * 4
part_length ws pos n h = simp (length-take, length-drop) (omega arith)

-- ---- a packet's first word, in the part and in the stream
pub part_head : (ws : List ℕ) (pos n p : ℕ) → p < n → head_at (part ws pos n) p ≡ get_or ws (pos + p * 4) 0
part_head ws pos n p h = let l : p * 4 < n * 4 = omega arith in rw (get_or-take, get_or-drop)

-- ---- the chain rule accepts the due format of each packet
due_ends : (n p : ℕ) → p + 1 ≡ n → Ends ≡ step_of p (due_format n p)
unfolding due_format step_of
due_ends n zero e = let q : n ≡ 1 = omega arith in rw q
due_ends n (suc p) e =
    let a : leb n 1 ≡ false = lt-leb n 1 (omega arith) in
    let b : ltb (suc p) (n - 1) ≡ false = le-ltb (suc p) (n - 1) (omega arith) in
    let z : eqb (suc p) 0 ≡ false = ne_eqb (suc p) 0 (λ q. omega arith) in
    rw (a, z, b)

due_goes : (n p : ℕ) → p + 1 < n → Goes ≡ step_of p (due_format n p)
unfolding due_format step_of
due_goes n zero e = let a : leb n 1 ≡ false = lt-leb n 1 (omega arith) in rw a
due_goes n (suc p) e =
    let a : leb n 1 ≡ false = lt-leb n 1 (omega arith) in
    let b : ltb (suc p) (n - 1) ≡ true = lt-ltb (suc p) (n - 1) (omega arith) in
    let z : eqb (suc p) 0 ≡ false = ne_eqb (suc p) 0 (λ q. omega arith) in
    rw (a, z, b)

-- ---- framing takes exactly the packets of a message
module _ (m : Message) (t ws : List ℕ) (pos : ℕ) (room : pos + packets_in m * 4 ≤ length ws) (f : Formed m t (part ws pos (packets_in m))) where
  most : packets_in m ≤ 64
  most = omega (arith, f.most, most_64 (layout (kind_in m)).body)

  first : get_or ws pos 0 ≡ head_at (part ws pos (packets_in m)) 0
  first = let z : pos + 0 * 4 ≡ pos = omega arith in sym (rw z at (part_head ws pos (packets_in m) 0 f.some))

  open_packet : (p at : ℕ) (rest : Framed) → p < packets_in m → at ≡ pos + p * 4 → after_step (step_of p (due_format (packets_in m) p)) p rest ≡ frame_packet ws (layout (kind_in m)).status p at rest
  unfolding frame_packet
  open_packet p at rest l e =
      let q : get_or ws at 0 ≡ head_at (part ws pos (packets_in m)) p = rw e (sym (part_head ws pos (packets_in m) p l)) in
      past _ (le-ltb (length ws - at) 4 (omega arith))
      (rw q
      (past _ (eq_differ _ _ (f.type p l))
      (past _ (eq_differ _ _ (f.status p l)) (rw (f.format p l)))))

  frames : (fuel p at : ℕ) → p + fuel ≡ 64 → p < packets_in m → at ≡ pos + p * 4 → Whole (packet (packets_in m)) ≡ frame_from fuel ws (layout (kind_in m)).status p at
  unfolding frame_from
  frames zero p at q l e = absurd (omega (arith, most))
  frames (suc fuel) p at q l e = go (dec_lt (p + 1) (packets_in m)) (λ r. frames fuel (suc p) (at + 4) (omega arith) r (omega arith))
    where
      go : Dec (p + 1 < packets_in m) → (suc p < packets_in m → Whole (packet (packets_in m)) ≡ frame_from fuel ws (layout (kind_in m)).status (suc p) (at + 4)) → Whole (packet (packets_in m)) ≡ frame_packet ws (layout (kind_in m)).status p at (frame_from fuel ws (layout (kind_in m)).status (suc p) (at + 4))
      go (yes r) more = (rw (← due_goes (packets_in m) p r) (more (omega arith))) ∙ open_packet p at _ l e
      go (no r) more =
          let a : p + 1 ≡ packets_in m = omega arith in
          let b : suc p ≡ packets_in m = omega arith in
          (rw (← due_ends (packets_in m) p a, b)) ∙ open_packet p at _ l e

  formed_frames : frame_of ws pos ≡ Whole (packet (packets_in m))
  unfolding frame_of
  formed_frames = rw (first, f.status 0 f.some) (sym (frames 64 0 pos refl f.some (omega arith)))

  -- A WELL-FORMED MESSAGE AT A POSITION IS ANSWERED, with the position after it
  pub formed_walk : walk_of ws pos ≡ W.Message m (word (pos + packets_in m * 4))
  unfolding walk_of framed_of
  formed_walk =
      let some = f.some in
      let is : type_of (get_or ws pos 0) ≡ stream_type = rw first (f.type 0 some) in
      sym
      (past _ (lt-leb (length ws) pos (omega arith))
      (past _ (eq_differ (type_of (get_or ws pos 0)) stream_type is)
      (rw (formed_frames, formed_read m t (part ws pos (packets_in m)) f))))
