-- What framing found of each packet of a message: its type, its status and its format. Closed by opening one packet of the framing at a time.
use Prim.Native.Nat.{ℕ, zero, suc, ◌+◌, ◌-◌, ◌*◌, ◌%◌, ◌≤◌, ◌<◌}
use mathlib.Core.Path.{◌≡◌, refl, sym, ap, ◌∙◌}
use mathlib.Core.Bool.{Bool, true, false}
use mathlib.Core.List.{List}
use native.Mathlib.Omega.{arith}
use native.Mathlib.Decide.{dec_lt}
use lib.ListN.{length, get_or}
use lib.Dec.{ltb, leb, eqb}
use borrow.Author.Tests.{lt-ltb, le-ltb, lt-leb, ne_eqb, eqb-true}
use Rattle.laws.specs.Pick.{pick, differ}
use Rattle.laws.proofs.Pick.{never, passed, eq_differ, differ_false}
use Rattle.counts.specs.Counts.{packet}
use Rattle.counts.specs.declared.PacketNumber.{PacketNumber}
use Rattle.text.specs.Octets.{due_format}
use Rattle.kinds.specs.declared.refusal.Refusal.TheVariants.{WrongType, StatusDiffers}
use Rattle.standard.specs.declared.Step.{Step}
use Rattle.standard.specs.declared.Step.TheVariants.{Ends, Goes, Wrong}
use Rattle.standard.specs.declared.Framed.{Framed}
use Rattle.standard.specs.declared.Framed.TheVariants.{Whole, Short, Broken}
use Rattle.standard.specs.Heads.{type_of, format_of, status_of, stream_type, packets_of, head_at}
use Rattle.standard.specs.Reading.{other_type, other_status, other_format}
use Rattle.standard.specs.Walk.{step_of, after_step, frame_packet, frame_from, frame_of, part}
use Rattle.standard.proofs.Rules.{Keeps}
use Rattle.standard.proofs.Walks.{part_length, part_head}
use Rattle.standard.proofs.Next.{whole_room}

-- ---- the chain rule takes no format but the one due
picked_ends : (a b : Bool) → pick a Ends (pick b Goes Wrong) ≡ Ends → a ≡ true
picked_ends true b e = refl
picked_ends false true e = never (cc)
picked_ends false false e = never (cc)

picked_goes : (a b : Bool) → pick a Ends (pick b Goes Wrong) ≡ Goes → b ≡ true
picked_goes true b e = never (cc)
picked_goes false true e = refl
picked_goes false false e = never (cc)

ends_due : (n p f : ℕ) → p + 1 ≡ n → step_of p f ≡ Ends → f ≡ due_format n p
unfolding step_of due_format
ends_due n zero f e s = let q : n ≡ 1 = omega arith in rw q (eqb-true f 0 (picked_ends (eqb f 0) (eqb f 1) s))
ends_due n (suc p) f e s =
    let a : leb n 1 ≡ false = lt-leb n 1 (omega arith) in
    let b : ltb (suc p) (n - 1) ≡ false = le-ltb (suc p) (n - 1) (omega arith) in
    let z : eqb (suc p) 0 ≡ false = ne_eqb (suc p) 0 (λ q. omega arith) in
    rw (a, z, b) (eqb-true f 3 (picked_ends (eqb f 3) (eqb f 2) (rw z at s)))

goes_due : (n p f : ℕ) → p + 1 < n → step_of p f ≡ Goes → f ≡ due_format n p
unfolding step_of due_format
goes_due n zero f e s = let a : leb n 1 ≡ false = lt-leb n 1 (omega arith) in rw a (eqb-true f 1 (picked_goes (eqb f 0) (eqb f 1) s))
goes_due n (suc p) f e s =
    let a : leb n 1 ≡ false = lt-leb n 1 (omega arith) in
    let b : ltb (suc p) (n - 1) ≡ true = lt-ltb (suc p) (n - 1) (omega arith) in
    let z : eqb (suc p) 0 ≡ false = ne_eqb (suc p) 0 (λ q. omega arith) in
    rw (a, z, b) (eqb-true f 2 (picked_goes (eqb f 3) (eqb f 2) (rw z at s)))

-- ---- packet by packet
module _ (ws : List ℕ) (s pos : ℕ) where
  -- packet p of a message of n
  record Seen (n p : ℕ) : Type 0 where
    type : type_of (get_or ws (pos + p * 4) 0) ≡ stream_type
    status : status_of (get_or ws (pos + p * 4) 0) ≡ s
    format : format_of (get_or ws (pos + p * 4) 0) ≡ due_format n p

  -- its packets from p on
  record From (p : ℕ) (n : PacketNumber) : Type 0 where
    some : p < n.0
    each : (i : ℕ) → p ≤ i → i < n.0 → Seen n.0 i

  step_from : (t : Step) (p : ℕ) (n : PacketNumber) (rest : Framed) → type_of (get_or ws (pos + p * 4) 0) ≡ stream_type → status_of (get_or ws (pos + p * 4) 0) ≡ s → step_of p (format_of (get_or ws (pos + p * 4) 0)) ≡ t → after_step t p rest ≡ Whole n → (rest ≡ Whole n → From (suc p) n) → From p n
  step_from Wrong p n rest a b f e more = never (cc)
  step_from Ends p n rest a b f e more =
      let w : packet (suc p) ≡ n = cc in
      let z : suc p ≡ n.0 = ap (λ (x : PacketNumber). x.0) w in
      record {
        some = omega arith;
        each = λ i l m. let q : i ≡ p = omega arith in rw q (record { type = a; status = b; format = ends_due n.0 p _ (omega arith) f });
      }
  step_from Goes p n rest a b f e more = let long = (more e).some in record { some = omega arith; each = λ i l m. at i l m (dec_lt p i) }
    where
      at : (i : ℕ) → p ≤ i → i < n.0 → Dec (p < i) → Seen n.0 i
      at i l m (yes k) = (more e).each i k m
      at i l m (no k) =
          let q : i ≡ p = omega arith in
          let long = (more e).some in
          rw q (record { type = a; status = b; format = goes_due n.0 p _ (omega arith) f })

  from : (left p : ℕ) (n : PacketNumber) → frame_from left ws s p (pos + p * 4) ≡ Whole n → From p n
  unfolding frame_from frame_packet
  from zero p n e = never (cc)
  from (suc left) p n e =
      let w = get_or ws (pos + p * 4) 0 in
      let a = passed (ltb (length ws - (pos + p * 4)) 4) Short _ (Whole n) (λ q. never (cc)) e in
      let b = passed (differ (type_of w) stream_type) (Broken (WrongType (packet p))) _ (Whole n) (λ q. never (cc)) a.1 in
      let d = passed (differ (status_of w) s) (Broken (StatusDiffers (packet p))) _ (Whole n) (λ q. never (cc)) b.1 in
      let next : pos + p * 4 + 4 ≡ pos + suc p * 4 = omega arith in
      step_from (step_of p (format_of w)) p n _ (differ_false _ _ b.0) (differ_false _ _ d.0) refl d.1 (λ r. from left (suc p) n (rw next at r))

-- ---- what reading has no need to look at again
pub record Framed-heads (ws : List ℕ) : Type 0 where
  pub long : 4 ≤ length ws
  pub whole : length ws % 4 ≡ 0
  pub few : packets_of ws ≤ 64
  pub type : Keeps (other_type ws) (packets_of ws)
  pub status : Keeps (other_status ws) (packets_of ws)
  pub format : Keeps (other_format ws) (packets_of ws)

-- A FRAMED MESSAGE IS OF WHOLE PACKETS, AT MOST 64, AND THEIR HEADS ARE RIGHT
pub framed_heads : (ws : List ℕ) (pos : ℕ) (n : PacketNumber) → frame_of ws pos ≡ Whole n → Framed-heads (part ws pos n.0)
unfolding frame_of
framed_heads ws pos n e =
    let r = whole_room ws pos (sym e) refl in
    let l = part_length ws pos n.0 r.2 in
    let z : pos + 0 * 4 ≡ pos = omega arith in
    let all = from ws (status_of (get_or ws pos 0)) pos 64 0 n (rw z e) in
    let count : packets_of (part ws pos n.0) ≡ n.0 = omega arith in
    let first : head_at (part ws pos n.0) 0 ≡ get_or ws pos 0 = rw z at (part_head ws pos n.0 0 all.some) in
    let head : (p : ℕ) → p < n.0 → head_at (part ws pos n.0) p ≡ get_or ws (pos + p * 4) 0 = λ p h. part_head ws pos n.0 p h in
    let below : (p : ℕ) → p < packets_of (part ws pos n.0) → p < n.0 = λ p h. omega arith in
    record {
      long = omega (arith, r.0);
      whole = omega arith;
      few = omega (arith, r.1);
      type = λ p h. eq_differ _ _ (ap type_of (head p (below p h)) ∙ (all.each p (omega arith) (below p h)).type);
      status = λ p h. eq_differ _ _ (ap status_of (head p (below p h)) ∙ (all.each p (omega arith) (below p h)).status ∙ ap status_of (sym first));
      format = λ p h. eq_differ _ _ (ap format_of (head p (below p h)) ∙ (all.each p (omega arith) (below p h)).format ∙ ap (λ (i : ℕ). due_format i p) (sym count));
    }
