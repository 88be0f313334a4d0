-- The text place, for any capacity: what one step does at each kind of place, and which bytes the steps from a place return. By induction on the remaining bytes, from `step_past`, `step_zero` and `step_byte`.
use Rattle.std.specs.Prelude.{Some, None}
use Prim.Native.Nat.{ℕ, zero, suc, ◌+◌, ◌-◌, ◌*◌, ◌/◌, ◌<◌, ◌≤◌}
use mathlib.Core.Path.{◌≡◌, refl, sym, ap, subst, ◌∙◌}
use mathlib.Core.Logic.{⊎_elim}
use mathlib.Core.List.{List, [], ◌∷◌}
use native.Mathlib.Omega.{arith}
use native.Mathlib.Numerals.{add-one}
use native.Mathlib.Nat.{div-add-mod', mod-lt, mul-le-mul_right, add-mul, mul-div_cancel, mul-mod_left}
use lib.Arith.{digits_lt, digits_div, digits_mod}
use lib.ListN.{length, get_or, drop, drop_of_length-le, length-drop}
use lib.Seq.{drop-cons, drop-drop}
use lib.Dec.{eqb}
use borrow.Author.Tests.{le-leb, lt-leb, eq-eqb, ne_eqb, eqb-true, eqb-false}
use Rattle.laws.specs.Lists.{nonzero}
use Rattle.laws.proofs.Pick.{never, here, past, below, split}
use Rattle.laws.proofs.Lists.{length-tabulate, get_or-tabulate, nonzero_zero, nonzero_kept, nonzero-length, nonzero-none}
use Rattle.counts.specs.Counts.{packet, byte}
use Rattle.text.specs.Bytes.{text_byte, all_bytes, text_of}
use Rattle.text.specs.Place.{text_place_at, byte_from, byte_at, stepped, seek, step_at}
use Rattle.text.specs.Handed.{start_place, end_place, next_place, handed, place_after, HandsOut, none, more}
use Rattle.text.specs.declared.TextPlace.{TextPlace}
use Rattle.text.specs.declared.Stepped.{Stepped}

-- the text bytes of all whole packets
abbrev bytes_in : List ℕ → ℕ → List ℕ
bytes_in ws cap = all_bytes ws cap (length ws / 4)

-- the byte at a place inside the text of a whole packet
pub byte_in : (ws : List ℕ) (cap : ℕ) (at : TextPlace) → at.packet.0 < length ws / 4 → at.byte.0 < cap → byte_at ws cap at ≡ text_byte ws cap at.packet.0 at.byte.0
unfolding byte_at
byte_in ws cap at hp hb = simp (lt-leb (length ws / 4) at.packet.0 hp, lt-leb cap at.byte.0 hb)

-- ---- places, and byte numbers counted over all packets
module _ (cap : ℕ) where
  -- from a byte number to its place and back
  pub place_back : (m : ℕ) → byte_from cap (text_place_at cap m) ≡ m
  place_back m = div-add-mod' m cap

  pub place_low : 0 < cap → (m : ℕ) → (text_place_at cap m).byte.0 < cap
  place_low pos m = mod-lt m pos

  module _ (at : TextPlace) (hb : at.byte.0 < cap) where
    -- from a place to its byte number and back, if the byte is below the capacity
    pub place_is : text_place_at cap (byte_from cap at) ≡ at
    place_is = rw (digits_div at.packet.0 hb, digits_mod at.packet.0 hb)

    -- a place in one of n packets has a byte number below n times the capacity
    pub place_inside : (n : ℕ) → at.packet.0 < n → byte_from cap at < n * cap
    place_inside n hp = digits_lt hp hb

    pub place_outside : (n : ℕ) → n ≤ at.packet.0 → n * cap ≤ byte_from cap at
    place_outside n hp = omega (arith, mul-le-mul_right cap hp)

pub next_back : (cap : ℕ) (at : TextPlace) → byte_from cap (next_place cap at) ≡ suc (byte_from cap at)
next_back cap at = place_back cap (suc (byte_from cap at))

pub next_low : (cap : ℕ) (at : TextPlace) → 0 < cap → (next_place cap at).byte.0 < cap
next_low cap at pos = place_low cap pos (suc (byte_from cap at))

-- the place after all bytes: packet count, byte 0
pub end_is : (ws : List ℕ) (cap : ℕ) → 0 < cap → text_place_at cap (length ws / 4 * cap) ≡ end_place ws
end_is ws cap pos = rw (mul-div_cancel (length ws / 4) pos, mul-mod_left)

-- the next place, as the code computes it: after a packet's last byte comes the next packet
pub next_packet : (cap : ℕ) (at : TextPlace) → at.byte.0 + 1 ≡ cap → record { packet = packet (at.packet.0 + 1); byte = byte 0 } ≡ next_place cap at
next_packet cap at e =
    let q : (at.packet.0 + 1) * cap + 0 ≡ suc (byte_from cap at) = omega (arith, add-mul at.packet.0 1 cap) in
    sym (place_is cap (record { packet = packet (at.packet.0 + 1); byte = byte 0 }) (omega arith)) ∙ ap (text_place_at cap) q

pub next_byte : (cap : ℕ) (at : TextPlace) → at.byte.0 + 1 < cap → record { packet = packet at.packet.0; byte = byte (at.byte.0 + 1) } ≡ next_place cap at
next_byte cap at h =
    let q : at.packet.0 * cap + (at.byte.0 + 1) ≡ suc (byte_from cap at) = omega arith in
    sym (place_is cap (record { packet = packet at.packet.0; byte = byte (at.byte.0 + 1) }) h) ∙ ap (text_place_at cap) q

pub length_all : (ws : List ℕ) (cap n : ℕ) → length (all_bytes ws cap n) ≡ n * cap
unfolding all_bytes
length_all ws cap n = length-tabulate (n * cap) _

pub all_at : (ws : List ℕ) (cap n : ℕ) (at : TextPlace) → at.packet.0 < n → at.byte.0 < cap → get_or (all_bytes ws cap n) (byte_from cap at) 0 ≡ text_byte ws cap at.packet.0 at.byte.0
unfolding all_bytes
all_at ws cap n at hp hb =
    get_or-tabulate (n * cap) _ (byte_from cap at) (digits_lt hp hb) ∙ rw (digits_div at.packet.0 hb, digits_mod at.packet.0 hb)

-- ---- seeking
pub seek_zero : (cap x : ℕ) (xs : List ℕ) (m : ℕ) → x ≡ 0 → seek cap (x ∷ xs) m ≡ seek cap xs (suc m)
unfolding seek
seek_zero cap x xs m e = rw (eq-eqb x 0 e)

pub seek-byte : (cap x : ℕ) (xs : List ℕ) (m : ℕ) → (x ≡ 0 → ⊥) → seek cap (x ∷ xs) m ≡ stepped (Some x) (text_place_at cap (suc m))
unfolding seek
seek-byte cap x xs m n = rw (ne_eqb x 0 n)

pub seek_end : (cap m : ℕ) → seek cap [] m ≡ stepped None (text_place_at cap m)
unfolding seek
seek_end cap m = refl

module _ (ws : List ℕ) (cap : ℕ) where
  -- A PLACE AT OR PAST THE PACKET COUNT OR THE CAPACITY is the end and does not move
  pub step_past : (at : TextPlace) → length ws / 4 ≤ at.packet.0 → step_at ws cap at ≡ stepped None at
  unfolding step_at
  step_past at hp = sym (here _ (le-leb _ _ hp) refl)

  pub step_over : (at : TextPlace) → cap ≤ at.byte.0 → step_at ws cap at ≡ stepped None at
  unfolding step_at
  step_over at hb = ⊎_elim (λ h. sym (past _ (lt-leb _ _ h) (here _ (le-leb _ _ hb) refl))) (λ h. sym (here _ (le-leb _ _ h) refl)) (below at.packet.0 (length ws / 4))

  step_in : (at : TextPlace) → at.packet.0 < length ws / 4 → at.byte.0 < cap → step_at ws cap at ≡ seek cap (drop (byte_from cap at) (bytes_in ws cap)) (byte_from cap at)
  unfolding step_at
  step_in at hp hb = sym (past _ (lt-leb _ _ hp) (past _ (lt-leb _ _ hb) refl))

  -- at any place below the capacity, a step seeks from its byte on
  step_seek : (at : TextPlace) → at.byte.0 < cap → step_at ws cap at ≡ seek cap (drop (byte_from cap at) (bytes_in ws cap)) (byte_from cap at)
  step_seek at hb = ⊎_elim (λ h. step_in at h hb) outside (below at.packet.0 (length ws / 4))
    where
      outside : length ws / 4 ≤ at.packet.0 → step_at ws cap at ≡ seek cap (drop (byte_from cap at) (bytes_in ws cap)) (byte_from cap at)
      outside h =
          let l : length (bytes_in ws cap) ≤ byte_from cap at = rw length_all (place_outside cap at hb (length ws / 4) h) in
          step_past at h ∙ sym (rw (drop_of_length-le (bytes_in ws cap) l) (seek_end cap (byte_from cap at) ∙ ap (stepped None) (place_is cap at hb)))

  -- the step from byte number m
  step_from : 0 < cap → (m : ℕ) → step_at ws cap (text_place_at cap m) ≡ seek cap (drop m (bytes_in ws cap)) m
  step_from pos m = step_seek (text_place_at cap m) (place_low cap pos m) ∙ rw (place_back cap m)

  -- inside the text: a zero is passed over, any other byte is returned with the place after it
  module _ (at : TextPlace) (hp : at.packet.0 < length ws / 4) (hb : at.byte.0 < cap) where
    opened : drop (byte_from cap at) (bytes_in ws cap) ≡ text_byte ws cap at.packet.0 at.byte.0 ∷ drop (suc (byte_from cap at)) (bytes_in ws cap)
    opened =
        let l : byte_from cap at < length (bytes_in ws cap) = rw length_all (digits_lt hp hb) in
        drop-cons (bytes_in ws cap) (byte_from cap at) 0 l ∙ rw (all_at ws cap (length ws / 4) at hp hb)

    pub step_zero : text_byte ws cap at.packet.0 at.byte.0 ≡ 0 → step_at ws cap at ≡ step_at ws cap (next_place cap at)
    step_zero e = step_in at hp hb ∙ rw opened (seek_zero cap _ _ _ e) ∙ sym (step_from (omega arith) (suc (byte_from cap at)))

    pub step_byte : (text_byte ws cap at.packet.0 at.byte.0 ≡ 0 → ⊥) → step_at ws cap at ≡ stepped (Some (text_byte ws cap at.packet.0 at.byte.0)) (next_place cap at)
    step_byte n = step_in at hp hb ∙ rw opened (seek-byte cap _ _ _ n)

  -- the step from byte number m, if the bytes from there on are xs
  module _ (pos : 0 < cap) (m : ℕ) where
    step_rest : (xs : List ℕ) → drop m (bytes_in ws cap) ≡ xs → step_at ws cap (text_place_at cap m) ≡ seek cap xs m
    step_rest xs e = step_from pos m ∙ ap (λ (l : List ℕ). seek cap l m) e

    from_end : drop m (bytes_in ws cap) ≡ [] → step_at ws cap (text_place_at cap m) ≡ stepped None (text_place_at cap m)
    from_end e = step_rest [] e ∙ seek_end cap m

    rest : (x : ℕ) (xs : List ℕ) → drop m (bytes_in ws cap) ≡ x ∷ xs → drop (suc m) (bytes_in ws cap) ≡ xs
    rest x xs e = rw (← (add-one m)) (sym (drop-drop 1 m (bytes_in ws cap)) ∙ ap (drop 1) e)

    from_byte : (x : ℕ) (xs : List ℕ) → drop m (bytes_in ws cap) ≡ x ∷ xs → (x ≡ 0 → ⊥) → step_at ws cap (text_place_at cap m) ≡ stepped (Some x) (text_place_at cap (suc m))
    from_byte x xs e n = step_rest (x ∷ xs) e ∙ seek-byte cap x xs m n

  from_zero : (pos : 0 < cap) (m x : ℕ) (xs : List ℕ) → drop m (bytes_in ws cap) ≡ x ∷ xs → x ≡ 0 → step_at ws cap (text_place_at cap m) ≡ step_at ws cap (text_place_at cap (suc m))
  from_zero pos m x xs e z = step_rest pos m (x ∷ xs) e ∙ seek_zero cap x xs m z ∙ sym (step_rest pos (suc m) xs (rest pos m x xs e))

  -- a place that is the end stays there, step after step
  pub stays : (k : ℕ) (at : TextPlace) → step_at ws cap at ≡ stepped None at → place_after k ws cap at ≡ at
  unfolding place_after
  stays zero at e = refl
  stays (suc k) at e = rw e (stays k at e)

  -- places with the same step return the same bytes
  hands_same : {at to : TextPlace} {xs : List ℕ} → step_at ws cap at ≡ step_at ws cap to → HandsOut ws cap to xs → HandsOut ws cap at xs
  hands_same e (none f) = none (e ∙ f)
  hands_same e (more f r) = more (e ∙ f) r

  -- xs are the bytes from byte number m on
  hands_from : 0 < cap → (xs : List ℕ) (m : ℕ) → m + length xs ≡ length ws / 4 * cap → drop m (bytes_in ws cap) ≡ xs → HandsOut ws cap (text_place_at cap m) (nonzero xs)
  hands_from pos [] m l e =
      let q : length ws / 4 * cap ≡ m = omega arith in
      rw nonzero-none (none (from_end pos m e ∙ ap (stepped None) (ap (text_place_at cap) (sym q) ∙ end_is ws cap pos)))
  hands_from pos (x ∷ xs) m l e = go (hands_from pos xs (suc m) (omega arith) (rest pos m x xs e))
    where
      go : HandsOut ws cap (text_place_at cap (suc m)) (nonzero xs) → HandsOut ws cap (text_place_at cap m) (nonzero (x ∷ xs))
      go ih =
          split (eqb x 0) (λ t. let z : x ≡ 0 = eqb-true x 0 t in rw (nonzero_zero x xs z) (hands_same (from_zero pos m x xs e z) ih))
          (λ t. let z : x ≡ 0 → ⊥ = eqb-false x 0 t in rw (nonzero_kept x xs z) (more (from_byte pos m x xs e z) ih))

  -- FROM ANY PLACE INSIDE THE TEXT, steps return the remaining bytes without zeros
  pub hands_rest : (at : TextPlace) → at.packet.0 < length ws / 4 → at.byte.0 < cap → HandsOut ws cap at (nonzero (drop (byte_from cap at) (bytes_in ws cap)))
  hands_rest at hp hb =
      let l : byte_from cap at < length ws / 4 * cap = digits_lt hp hb in
      let n : length (drop (byte_from cap at) (bytes_in ws cap)) ≡ length ws / 4 * cap - byte_from cap at = length-drop (byte_from cap at) (bytes_in ws cap) ∙ rw length_all in
      subst (λ (p : TextPlace). HandsOut ws cap p (nonzero (drop (byte_from cap at) (bytes_in ws cap)))) (place_is cap at hb)
      (hands_from (omega arith) (drop (byte_from cap at) (bytes_in ws cap)) (byte_from cap at) (omega arith) refl)

  -- FROM THE START, steps return the whole text
  pub hands_all : 0 < cap → HandsOut ws cap start_place (text_of ws cap (length ws / 4))
  hands_all pos =
      let q : 0 ≡ byte_from cap start_place = omega arith in
      let l = length_all ws cap (length ws / 4) in
      subst (λ (p : TextPlace). HandsOut ws cap p (text_of ws cap (length ws / 4))) (ap (text_place_at cap) q ∙ place_is cap start_place pos)
      (hands_from pos (bytes_in ws cap) 0 (omega arith) refl)

-- ---- what follows if the steps from a place return xs
module _ {ws : List ℕ} {cap : ℕ} where
  -- at least as many steps as there are bytes return them all
  pub handed_is : {at : TextPlace} {xs : List ℕ} → HandsOut ws cap at xs → (n : ℕ) → length xs ≤ n → handed n ws cap at ≡ xs
  unfolding handed
  handed_is (none e) zero h = refl
  handed_is (none e) (suc n) h = rw e
  handed_is (more e r) zero h = absurd (omega arith)
  handed_is (more e r) (suc n) h = rw (e, handed_is r n (omega arith))

  -- step k returns byte k
  pub step_number : {at : TextPlace} {xs : List ℕ} → HandsOut ws cap at xs → (k : ℕ) → k < length xs → (step_at ws cap (place_after k ws cap at)).step ≡ Some (get_or xs k 0)
  unfolding place_after
  step_number (none e) k h = absurd (omega arith)
  step_number (more e r) zero h = rw e
  step_number (more e r) (suc k) h = rw e (step_number r k (omega arith))

  -- every step after the last byte is the end, at packet count, byte 0
  pub end_after : {at : TextPlace} {xs : List ℕ} → HandsOut ws cap at xs → (k : ℕ) → length xs ≤ k → step_at ws cap (place_after k ws cap at) ≡ stepped None (end_place ws)
  unfolding place_after
  end_after (none e) zero h = e
  end_after (none e) (suc k) h =
      let p = step_past ws cap (end_place ws) (omega arith) in
      rw (e, stays ws cap k (end_place ws) p) p
  end_after (more e r) zero h = absurd (omega arith)
  end_after (more e r) (suc k) h = rw e (end_after r k (omega arith))

  -- a step that is the end means that no byte is left
  ended_of : {at : TextPlace} {xs : List ℕ} → HandsOut ws cap at xs → (step_at ws cap at).step ≡ None → step_at ws cap at ≡ stepped None (end_place ws)
  ended_of (none e) t = e
  ended_of (more e r) t = never (let q = ap (λ (s : Stepped). s.step) e in cc)

module _ (ws : List ℕ) (cap : ℕ) where
  -- INSIDE THE TEXT, a step that is the end leaves the place at packet count, byte 0
  pub end_within : (at : TextPlace) → at.packet.0 < length ws / 4 → at.byte.0 < cap → (step_at ws cap at).step ≡ None → step_at ws cap at ≡ stepped None (end_place ws)
  end_within at hp hb t = ended_of (hands_rest ws cap at hp hb) t

  -- AFTER ANY END, wherever the place was, the next step is the end and does not move
  pub end_stays : (at : TextPlace) → (step_at ws cap at).step ≡ None → step_at ws cap (step_at ws cap at).place ≡ stepped None (step_at ws cap at).place
  end_stays at t =
      ⊎_elim (λ hb. ⊎_elim (λ hp. at_end (end_within at hp hb t) (step_past ws cap (end_place ws) (omega arith))) (λ h. let e = step_past ws cap at h in at_end e e) (below at.packet.0 (length ws / 4)))
      (λ h. let e = step_over ws cap at h in at_end e e) (below at.byte.0 cap)
    where
      at_end : {to : TextPlace} → step_at ws cap at ≡ stepped None to → step_at ws cap to ≡ stepped None to → step_at ws cap (step_at ws cap at).place ≡ stepped None (step_at ws cap at).place
      at_end e f = rw e f

  module _ (pos : 0 < cap) where
    -- STEPS FROM THE START return the text: all nonzero bytes, in order
    pub handed_all : (n : ℕ) → length ws / 4 * cap ≤ n → handed n ws cap start_place ≡ text_of ws cap (length ws / 4)
    handed_all n h = handed_is (hands_all ws cap pos) n (omega (arith, nonzero-length (bytes_in ws cap), length_all ws cap (length ws / 4)))

    -- AFTER THE LAST NONZERO BYTE, the next step is the end and leaves the place at packet count, byte 0
    pub end_next : step_at ws cap (place_after (length (text_of ws cap (length ws / 4))) ws cap start_place) ≡ stepped None (end_place ws)
    end_next = end_after (hands_all ws cap pos) _ (omega arith)
