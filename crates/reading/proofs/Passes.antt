-- One pass over the heads of a message: its turns, and that what it finds is what the rules give. Closed by the laws of a field, and packet by packet.
use Rattle.std.specs.Prelude.{Option, Some, None}
use Prim.Native.Nat.{ℕ, zero, suc, ◌+◌, ◌-◌, ◌*◌, ◌≤◌, ◌<◌}
use mathlib.Core.Path.{◌≡◌, refl, sym, ap, ◌∙◌}
use mathlib.Core.Bool.{Bool, true, false}
use mathlib.Core.List.{List}
use native.Mathlib.Omega.{arith}
use native.Mathlib.Decide.{dec_lt}
use lib.ListN.{length, get_or, take, get_or-eq_default}
use lib.Seq.{get_or-take, length-take-le}
use lib.Dec.{leb, ltb, eqb}
use Rattle.laws.specs.Pick.{pick, differ}
use borrow.Author.Tests.{leb-false, lt-leb, lt-ltb, le-ltb, ne_eqb, eqb-true}
use Rattle.laws.proofs.Pick.{true_false, split, here, past, passed, eq_differ, ne_differ, differ_false}
use Rattle.counts.specs.Counts.{packet, first_word, wrapped}
use Rattle.counts.specs.declared.PacketNumber.{PacketNumber}
use Rattle.counts.specs.declared.WordNumber.{WordNumber}
use Rattle.utf8.specs.Utf8.{first_bad}
use Rattle.text.specs.Octets.{due_format}
use Rattle.text.specs.Bytes.{text_of}
use Rattle.text_check.specs.FastCheck.{is_good}
use Rattle.kinds.specs.declared.kind.Kind.{Kind}
use Rattle.kinds.specs.Layout.{layout, most_of, has_text}
use Rattle.standard.specs.Heads.{type_of, format_of, stream_type, head_at, packets_of}
use Rattle.reading.specs.Bodies.{offset_of}
use Rattle.reading.specs.OnePass.{head_bits, like_first, ends_at, headed_from, headed_packets, seen_text, text_packets, number_in, heads_right}

-- ---- the turns of the loop
module _ (ws : List ℕ) (offset p : ℕ) (more : p < 64) where
  left : 64 - p ≡ suc (64 - (p + 1))
  left = omega arith

  pub turn_goes : like_first ws offset p ≡ true → eqb (format_of (head_at ws p)) (due_format (p + 2) p) ≡ true → headed_from (64 - p) ws offset p ≡ headed_from (64 - (p + 1)) ws offset (p + 1)
  unfolding headed_from
  turn_goes l f = rw (left, l, f)

  pub turn_ends : like_first ws offset p ≡ true → eqb (format_of (head_at ws p)) (due_format (p + 2) p) ≡ false → headed_from (64 - p) ws offset p ≡ ends_at (format_of (head_at ws p)) p
  unfolding headed_from
  turn_ends l f = rw (left, l, f)

  pub turn_none : like_first ws offset p ≡ false → headed_from (64 - p) ws offset p ≡ None
  unfolding headed_from
  turn_none l = rw (left, l)

pub turn_over : (ws : List ℕ) (offset p : ℕ) → 64 ≤ p → headed_from (64 - p) ws offset p ≡ None
unfolding headed_from
turn_over ws offset p h = let z : 64 - p ≡ 0 = omega arith in rw z

module _ (ws : List ℕ) (offset : ℕ) where
  pub no_words : length ws ≡ 0 → None ≡ headed_packets ws offset
  unfolding headed_packets
  no_words e = let z : get_or ws 0 0 ≡ 0 = get_or-eq_default ws 0 (omega arith) in rw z

  pub other_type : (type_of (head_at ws 0) ≡ stream_type → ⊥) → None ≡ headed_packets ws offset
  unfolding headed_packets
  other_type h = here _ (ne_differ _ _ h) refl

  pub same_type : (n : Option PacketNumber) → type_of (head_at ws 0) ≡ stream_type → n ≡ headed_from 64 ws offset 0 → n ≡ headed_packets ws offset
  unfolding headed_packets
  same_type n h e = past _ (eq_differ _ _ h) e

-- ---- what the pass saw of a packet
pub record Like (ws : List ℕ) (offset p : ℕ) : Type 0 where
  pub there : p < packets_of ws
  pub head : head_bits (head_at ws p) offset ≡ head_bits (head_at ws 0) offset

like : (ws : List ℕ) (offset p : ℕ) → like_first ws offset p ≡ true → Like ws offset p
unfolding like_first
like ws offset p e =
    let a = passed (leb (packets_of ws) p) false (eqb (head_bits (head_at ws p) offset) (head_bits (head_at ws 0) offset)) true (λ q. true_false (sym q)) e in
    record { there = leb-false _ _ a.0; head = eqb-true _ _ a.1 }

pub like_there : (ws : List ℕ) (offset p : ℕ) → like_first ws offset p ≡ true → p < packets_of ws
like_there ws offset p e = (like ws offset p e).there

-- the format of a packet before another is the one due, however many come
due_more : (n i : ℕ) → i + 1 < n → due_format (i + 2) i ≡ due_format n i
unfolding due_format
due_more n zero h = let a : leb n 1 ≡ false = lt-leb n 1 (omega arith) in rw a
due_more n (suc i) h =
    let a : leb n 1 ≡ false = lt-leb n 1 (omega arith) in
    let b : leb (suc i + 2) 1 ≡ false = lt-leb (suc i + 2) 1 (omega arith) in
    let z : eqb (suc i) 0 ≡ false = ne_eqb (suc i) 0 (λ q. omega arith) in
    let x : ltb (suc i) (suc i + 2 - 1) ≡ true = lt-ltb (suc i) (suc i + 2 - 1) (omega arith) in
    let y : ltb (suc i) (n - 1) ≡ true = lt-ltb (suc i) (n - 1) (omega arith) in
    rw (a, b, z, x, y)

-- packets from p to n, as the pass saw them
record From (ws : List ℕ) (offset n p : ℕ) : Type 0 where
  some : p < n
  each : (i : ℕ) → p ≤ i → i < n → Like ws offset i
  format : (i : ℕ) → p ≤ i → i < n → format_of (head_at ws i) ≡ due_format n i

-- one packet more, in front of them or alone
module _ (ws : List ℕ) (offset n p : ℕ) (l : Like ws offset p) (f : format_of (head_at ws p) ≡ due_format n p) (room : p < n) where
  from_more : ((i : ℕ) → p < i → i < n → Like ws offset i × (format_of (head_at ws i) ≡ due_format n i)) → From ws offset n p
  from_more rest = record { some = room; each = λ i a b. (go i (dec_lt p i) a b).0; format = λ i a b. (go i (dec_lt p i) a b).1 }
    where
      go : (i : ℕ) → Dec (p < i) → p ≤ i → i < n → Like ws offset i × (format_of (head_at ws i) ≡ due_format n i)
      go i (yes h) a b = rest i h b
      go i (no h) a b = let e : i ≡ p = omega arith in rw e (l, f)

saw : (ws : List ℕ) (offset left p : ℕ) (n : PacketNumber) → headed_from left ws offset p ≡ Some n → From ws offset n.0 p × (n.0 ≤ p + left)
unfolding headed_from ends_at
saw ws offset zero p n e = absurd (cc)
saw ws offset (suc left) p n e = split (like_first ws offset p) (some (λ q. saw ws offset left (p + 1) n q)) none
  where
    f : ℕ
    f = format_of (head_at ws p)

    goes : (headed_from left ws offset (p + 1) ≡ Some n → From ws offset n.0 (p + 1) × (n.0 ≤ p + 1 + left)) → like_first ws offset p ≡ true → eqb f (due_format (p + 2) p) ≡ true → From ws offset n.0 p × (n.0 ≤ p + suc left)
    goes next l g =
        let r = next (rw (l, g) at e) in
        let a = r.0.some in
        (from_more ws offset n.0 p (like ws offset p l) (eqb-true _ _ g ∙ due_more n.0 p (omega arith)) (omega arith) (λ i x y. (r.0.each i (omega arith) y, r.0.format i (omega arith) y)), omega (arith, r.1))

    ends : like_first ws offset p ≡ true → eqb f (due_format (p + 2) p) ≡ false → From ws offset n.0 p × (n.0 ≤ p + suc left)
    ends l g = split (eqb f (due_format (p + 1) p))
        (λ t. let s : Some (packet (p + 1)) ≡ Some n = rw (l, g, t) at e in let r : packet (p + 1) ≡ n = cc in let q : p + 1 ≡ n.0 = ap (λ (x : PacketNumber). x.0) r in (from_more ws offset n.0 p (like ws offset p l) (eqb-true _ _ t ∙ ap (λ (k : ℕ). due_format k p) q) (omega arith) (λ i x y. absurd (omega arith)), omega arith))
        (λ t. let q : None ≡ Some n = rw (l, g, t) at e in absurd (cc))

    some : (headed_from left ws offset (p + 1) ≡ Some n → From ws offset n.0 (p + 1) × (n.0 ≤ p + 1 + left)) → like_first ws offset p ≡ true → From ws offset n.0 p × (n.0 ≤ p + suc left)
    some next l = split (eqb f (due_format (p + 2) p)) (goes next l) (ends l)

    none : like_first ws offset p ≡ false → From ws offset n.0 p × (n.0 ≤ p + suc left)
    none l = let q : None ≡ Some n = rw l at e in absurd (cc)

-- a message of n packets at the start of the words, as the pass saw it
pub record Headed (ws : List ℕ) (offset n : ℕ) : Type 0 where
  pub some : 0 < n
  pub most : n ≤ 64
  pub type : type_of (head_at ws 0) ≡ stream_type
  pub each : (p : ℕ) → p < n → Like ws offset p
  pub format : (p : ℕ) → p < n → format_of (head_at ws p) ≡ due_format n p

pub headed_seen : (ws : List ℕ) (offset : ℕ) {n : PacketNumber} → headed_packets ws offset ≡ Some n → Headed ws offset n.0
unfolding headed_packets
headed_seen ws offset {n} e = split (differ (type_of (head_at ws 0)) stream_type)
    (λ t. let q : None ≡ Some n = rw t at e in absurd (cc))
    (λ t. let s = saw ws offset 64 0 n (rw t at e) in record { some = s.0.some; most = omega (arith, s.1); type = differ_false _ _ t; each = λ p l. s.0.each p (omega arith) l; format = λ p l. s.0.format p (omega arith) l })

-- it is seen by its own words alone
module _ (ws : List ℕ) (offset n : ℕ) (s : Headed ws offset n) where
  pub headed_room : n * 4 ≤ length ws
  headed_room = let h = s.some in let l = (s.each (n - 1) (omega arith)).there in omega (arith, l)

  front : (i : ℕ) → i < n * 4 → get_or (take (n * 4) ws) i 0 ≡ get_or ws i 0
  front i h = get_or-take (n * 4) ws i 0 h

  count : packets_of (take (n * 4) ws) ≡ n
  count = let e = length-take-le (n * 4) ws headed_room in omega (arith, e)

  like_front : (p : ℕ) → p < n → Like (take (n * 4) ws) offset p
  like_front p h = record { there = rw count h; head = rw (front (p * 4) (omega arith), front 0 (omega arith)) (s.each p h).head }

  pub headed_front : Headed (take (n * 4) ws) offset n
  headed_front = record {
    some = s.some;
    most = s.most;
    type = let h = s.some in rw (front 0 (omega arith)) s.type;
    each = like_front;
    format = λ p h. rw (front (p * 4) (omega arith)) (s.format p h);
  }

-- its packets are all there, and few
pub headed_within : (ws : List ℕ) (offset : ℕ) {n : PacketNumber} → headed_packets ws offset ≡ Some n → (n.0 * 4 ≤ length ws) × (n.0 ≤ 64)
headed_within ws offset {n} e = let s = headed_seen ws offset e in (headed_room ws offset n.0 s, s.most)

-- the word after them
pub headed_to : (ws : List ℕ) (offset : ℕ) {n : PacketNumber} {k : WordNumber} → headed_packets ws offset ≡ Some n → k ≡ wrapped (first_word n) → k.0 ≡ n.0 * 4
headed_to ws offset e t =
    let h = (headed_within ws offset e).1 in
    let f = ap (λ (x : WordNumber). x.0) t in
    omega (arith, h, f)

-- ---- the heads by the packets that a kind may have
module _ (k : Kind) (ws : List ℕ) (n : ℕ) where
  pub too_many : most_of k < n → false ≡ heads_right k ws n
  unfolding heads_right
  too_many h = here _ (lt-ltb (most_of k) n h) refl

  pub not_many : {m : Option PacketNumber} {offset : ℕ} → n ≤ most_of k → offset ≡ offset_of k → m ≡ headed_packets ws offset → eqb (number_in m) n ≡ heads_right k ws n
  unfolding heads_right
  not_many h o e = past _ (le-ltb (most_of k) n h) (rw (e, o))

-- ---- their text
pub text_seen : (k : Kind) (ws : List ℕ) {offset : ℕ} → has_text (layout k).body ≡ true → offset ≡ offset_of k → seen_text ws offset ≡ text_packets k ws
text_seen k ws h o = rw (h, o)

pub none_seen : (ws : List ℕ) (offset : ℕ) → headed_packets ws offset ≡ None → None ≡ seen_text ws offset
unfolding seen_text
none_seen ws offset e = rw e

module _ (ws : List ℕ) (offset : ℕ) {n : PacketNumber} (e : headed_packets ws offset ≡ Some n) where
  pub headed_words : n.0 * 4 ≡ length (take (n.0 * 4) ws)
  headed_words = sym (length-take-le (n.0 * 4) ws (headed_within ws offset e).0)

  verdict : (b : Bool) → is_good (first_bad (text_of (take (n.0 * 4) ws) (14 - offset) (packets_of (take (n.0 * 4) ws)))) ≡ b → pick b (Some n) None ≡ seen_text ws offset
  unfolding seen_text
  verdict b g =
      let w = headed_words in
      let q : packets_of (take (n.0 * 4) ws) ≡ n.0 = omega arith in
      rw (e, rw q at g)

  pub seen_good : is_good (first_bad (text_of (take (n.0 * 4) ws) (14 - offset) (packets_of (take (n.0 * 4) ws)))) ≡ true → Some n ≡ seen_text ws offset
  seen_good g = verdict true g

  pub seen_bad : is_good (first_bad (text_of (take (n.0 * 4) ws) (14 - offset) (packets_of (take (n.0 * 4) ws)))) ≡ false → None ≡ seen_text ws offset
  seen_bad g = verdict false g
