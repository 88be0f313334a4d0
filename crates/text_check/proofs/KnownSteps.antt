-- Steps whose result a look tells: ASCII bytes and simple three-byte characters. Proved by computing a test for all 256 bytes.
use Prim.Native.Nat.{ℕ, ◌+◌, ◌-◌, ◌/◌, ◌%◌, ◌<◌}
use mathlib.Core.Path.{◌≡◌, refl, sym, ap, ◌∙◌}
use mathlib.Core.Bool.{Bool, true, false, ◌&&◌}
use native.Mathlib.Omega.{arith}
use lib.Dec.{T, eqb, eqb→eq, ltb}
use borrow.Author.Tests.{eqb-true}
use Rattle.laws.specs.Pick.{pick}
use Rattle.laws.proofs.Pick.{true_false, split, picked}
use Rattle.counts.specs.declared.TextByteNumber.{TextByteNumber}
use Rattle.laws.proofs.EachBelow.{each_below, each_at, and_left, and_right, and_l, and_r, three_hold, four_hold, five_hold, six_hold, implied, implied_holds}
use Rattle.counts.specs.Counts.{byte}
use Rattle.std.specs.Prelude.{Ok, Err}
use Rattle.utf8.specs.Scan.{Scan, leading_ones, length_by_ones, char_length, second_low, second_high, tails_due, after_first_byte, after_byte}
use Rattle.text.specs.Octets.{octet_of}
use Rattle.text.proofs.Back.{octet_small}
use Rattle.text_check.specs.FastCheck.{after_text_byte, character_of, scan_of, number_of, is_e0_to_ef, not_e0_or_ed, simple_first, is_tail, run_of_one, run_of_two, simple_character, run_none_due, run_one_due, run_two_due, run_of_four, run_of_twelve, after_octets, after_word, ascii_word}

-- ---- one byte, with zeros dropped or kept

-- so many tails are due
abbrev pub tails : ℕ → Scan
tails n = Ok (tails_due n (byte 0))

is_tails : ℕ → Scan → Bool
is_tails n (Err m) = false
is_tails n (Ok c) = (eqb c.due n && eqb c.low 0x80) && (eqb c.high 0xBF && eqb c.start.0 0)

is_tails_lem : (n : ℕ) (k : Scan) → T (is_tails n k) → k ≡ tails n
unfolding is_tails
is_tails_lem n (Err m) t = absurd t
is_tails_lem n (Ok c) t =
    let front = and_left (eqb c.due n && eqb c.low 0x80) (eqb c.high 0xBF && eqb c.start.0 0) t in
    let back = and_right (eqb c.due n && eqb c.low 0x80) (eqb c.high 0xBF && eqb c.start.0 0) t in
    same_fields c.due c.low c.high c.start.0 (eqb→eq c.due n (and_left (eqb c.due n) (eqb c.low 0x80) front)) (eqb→eq c.low 0x80 (and_right (eqb c.due n) (eqb c.low 0x80) front)) (eqb→eq c.high 0xBF (and_left (eqb c.high 0xBF) (eqb c.start.0 0) back)) (eqb→eq c.start.0 0 (and_right (eqb c.high 0xBF) (eqb c.start.0 0) back))
  where
    same_fields : (due low high start : ℕ) → due ≡ n → low ≡ 0x80 → high ≡ 0xBF → start ≡ 0 → Ok (record { due = due; low = low; high = high; start = byte start }) ≡ tails n
    same_fields due low high start d l h s = rw (d, l, h, s)

-- byte b leads from `s` tails due to `next`, whether zeros are dropped or kept
pub record Leads (s b next : ℕ) : Type 0 where
  pub dropping : after_text_byte (tails s) b ≡ tails next
  pub keeping : after_byte (tails s) (byte 0) b ≡ tails next

-- if the condition holds for b, both kinds of step lead from s to `next`
lead_test : (ℕ → Bool) → ℕ → ℕ → ℕ → Bool
lead_test cond s next b = implied (cond b) (is_tails next (after_text_byte (tails s) b) && is_tails next (after_byte (tails s) (byte 0) b))

leads : (cond : ℕ → Bool) (s next : ℕ) → T (each_below (lead_test cond s next) 256) → (b : ℕ) → b < 256 → cond b ≡ true → Leads s b next
unfolding lead_test
leads cond s next all b l e =
    let f = is_tails next (after_text_byte (tails s) b) in
    let g = is_tails next (after_byte (tails s) (byte 0) b) in
    let t = implied_holds (cond b) (f && g) e (each_at (lead_test cond s next) 256 all b l) in
    record { dropping = is_tails_lem next (after_text_byte (tails s) b) (and_left f g t); keeping = is_tails_lem next (after_byte (tails s) (byte 0) b) (and_right f g t) }

-- an ASCII byte leaves no tail due
ascii_stays : (b : ℕ) → b < 256 → ltb b 128 ≡ true → Leads 0 b 0
unfolding lead_test is_tails after_text_byte after_byte after_first_byte char_length length_by_ones leading_ones second_low second_high
ascii_stays = leads (λ b. ltb b 128) 0 0 tt

-- a simple three-byte character: two tails are due after its first byte, then one, then none
opens : (b : ℕ) → b < 256 → simple_first b ≡ true → Leads 0 b 2
unfolding lead_test is_tails after_text_byte after_byte after_first_byte char_length length_by_ones leading_ones second_low second_high
opens = leads simple_first 0 2 tt

tail-first : (b : ℕ) → b < 256 → is_tail b ≡ true → Leads 2 b 1
unfolding lead_test is_tails after_text_byte after_byte after_first_byte char_length length_by_ones leading_ones second_low second_high
tail-first = leads is_tail 2 1 tt

tail_last : (b : ℕ) → b < 256 → is_tail b ≡ true → Leads 1 b 0
unfolding lead_test is_tails after_text_byte after_byte after_first_byte char_length length_by_ones leading_ones second_low second_high
tail_last = leads is_tail 1 0 tt

-- ---- the octets of a word

module _ (w : ℕ) where
  -- the same for octet j of a word
  octet_ascii : (j : ℕ) → ltb (octet_of w j) 128 ≡ true → Leads 0 (octet_of w j) 0
  octet_ascii j e = ascii_stays (octet_of w j) (octet_small w j) e

  octet_opens : (j : ℕ) → is_e0_to_ef (octet_of w j) ≡ true → not_e0_or_ed (octet_of w j) ≡ true → Leads 0 (octet_of w j) 2
  octet_opens j e f = opens (octet_of w j) (octet_small w j) (rw (e, f))

  octet_first : (j : ℕ) → is_tail (octet_of w j) ≡ true → Leads 2 (octet_of w j) 1
  octet_first j e = tail-first (octet_of w j) (octet_small w j) e

  octet_last : (j : ℕ) → is_tail (octet_of w j) ≡ true → Leads 1 (octet_of w j) 0
  octet_last j e = tail_last (octet_of w j) (octet_small w j) e

-- the tails due before and after each of the four octets
pub record WordSteps (w s₀ s₁ s₂ s₃ s₄ : ℕ) : Type 0 where
  pub first : Leads s₀ (octet_of w 0) s₁
  pub second : Leads s₁ (octet_of w 1) s₂
  pub third : Leads s₂ (octet_of w 2) s₃
  pub fourth : Leads s₃ (octet_of w 3) s₄

word_steps : {w s₀ s₁ s₂ s₃ s₄ : ℕ} → WordSteps w s₀ s₁ s₂ s₃ s₄ → after_octets (tails s₀) w ≡ tails s₄
word_steps k = rw (k.first.dropping, k.second.dropping, k.third.dropping) k.fourth.dropping

module _ (w : ℕ) where
  pub ascii_steps : ascii_word w ≡ true → WordSteps w 0 0 0 0 0
  unfolding ascii_word
  ascii_steps e =
      let t = four_hold (ltb (octet_of w 0) 128) (ltb (octet_of w 1) 128) (ltb (octet_of w 2) 128) (ltb (octet_of w 3) 128) e in
      record { first = octet_ascii w 0 t.0; second = octet_ascii w 1 t.1; third = octet_ascii w 2 t.2; fourth = octet_ascii w 3 t.3 }

  pub none_due_steps : run_none_due w ≡ true → WordSteps w 0 2 1 0 2
  unfolding run_none_due
  none_due_steps e =
      let t = six_hold (is_e0_to_ef (octet_of w 0)) (is_tail (octet_of w 1)) (is_tail (octet_of w 2)) (is_e0_to_ef (octet_of w 3)) (not_e0_or_ed (octet_of w 0)) (not_e0_or_ed (octet_of w 3)) e in
      record { first = octet_opens w 0 t.0 t.4; second = octet_first w 1 t.1; third = octet_last w 2 t.2; fourth = octet_opens w 3 t.3 t.5 }

  pub one_due_steps : run_one_due w ≡ true → WordSteps w 1 0 2 1 0
  unfolding run_one_due
  one_due_steps e =
      let t = five_hold (is_tail (octet_of w 0)) (is_e0_to_ef (octet_of w 1)) (is_tail (octet_of w 2)) (is_tail (octet_of w 3)) (not_e0_or_ed (octet_of w 1)) e in
      record { first = octet_last w 0 t.0; second = octet_opens w 1 t.1 t.4; third = octet_first w 2 t.2; fourth = octet_last w 3 t.3 }

  pub two_due_steps : run_two_due w ≡ true → WordSteps w 2 1 0 2 1
  unfolding run_two_due
  two_due_steps e =
      let t = five_hold (is_tail (octet_of w 0)) (is_tail (octet_of w 1)) (is_e0_to_ef (octet_of w 2)) (is_tail (octet_of w 3)) (not_e0_or_ed (octet_of w 2)) e in
      record { first = octet_first w 0 t.0; second = octet_last w 1 t.1; third = octet_opens w 2 t.2 t.4; fourth = octet_first w 3 t.3 }

  -- a simple three-byte character in the first three octets, or in the last three
  pub simple_steps : (j : ℕ) → simple_character (octet_of w j) (octet_of w (j + 1)) (octet_of w (j + 2)) ≡ true → Leads 0 (octet_of w j) 2 × Leads 2 (octet_of w (j + 1)) 1 × Leads 1 (octet_of w (j + 2)) 0
  simple_steps j e =
      let t = four_hold _ _ _ _ e in
      (octet_opens w j t.0 t.3, octet_first w (j + 1) t.1, octet_last w (j + 2) t.2)

-- ---- where none, one or two tails are due

-- case analysis for a test that holds only there
from_three : {A : Type 0} (s : ℕ) (a b c : Bool) → pick (eqb s 0) a (pick (eqb s 1) b (pick (eqb s 2) c false)) ≡ true → (s ≡ 0 → a ≡ true → A) → (s ≡ 1 → b ≡ true → A) → (s ≡ 2 → c ≡ true → A) → A
from_three s a b c e none one two =
    split (eqb s 0) (λ x. none (eqb-true s 0 x) (rw x at e))
    (λ x. split (eqb s 1) (λ y. one (eqb-true s 1 y) (rw (x, y) at e))
    (λ y. split (eqb s 2) (λ z. two (eqb-true s 2 z) (rw (x, y, z) at e)) (λ z. true_false (sym (rw (x, y, z) at e)))))

-- such a byte is below 256
first_small : (b : ℕ) → simple_first b ≡ true → b < 256
first_small b e = let h = eqb-true (b / 16) 14 (and_l (is_e0_to_ef b) (not_e0_or_ed b) e) in omega arith

tail_small : (b : ℕ) → is_tail b ≡ true → b < 256
tail_small b e = let h = eqb-true (b / 64) 2 e in omega arith

-- a byte of a run
record OneStep (s b : ℕ) : Type 0 where
  few : s < 3
  small : b < 256
  one : after_text_byte (tails s) b ≡ tails ((s + 2) % 3)

one_step : (s b : ℕ) → run_of_one s b ≡ true → OneStep s b
unfolding run_of_one
one_step s b e =
    from_three s (simple_first b) (is_tail b) (is_tail b) e
    (λ x t. record { few = omega arith; small = first_small b t; one = rw x (opens b (first_small b t) t).dropping })
    (λ x t. record { few = omega arith; small = tail_small b t; one = rw x (tail_last b (tail_small b t) t).dropping })
    (λ x t. record { few = omega arith; small = tail_small b t; one = rw x (tail-first b (tail_small b t) t).dropping })

-- two bytes of a run are one and another
two_ones : (s a b : ℕ) → run_of_two s a b ≡ true → (run_of_one s a ≡ true) × (run_of_one ((s + 2) % 3) b ≡ true)
unfolding run_of_two run_of_one
two_ones s a b e =
    from_three s (simple_first a && is_tail b) (is_tail a && simple_first b) (is_tail a && is_tail b) e
    (λ x t. rw x (and_l (simple_first a) (is_tail b) t, and_r (simple_first a) (is_tail b) t))
    (λ x t. rw x (and_l (is_tail a) (simple_first b) t, and_r (is_tail a) (simple_first b) t))
    (λ x t. rw x (and_l (is_tail a) (is_tail b) t, and_r (is_tail a) (is_tail b) t))

record TwoSteps (s a b : ℕ) : Type 0 where
  few : s < 3
  first_below : a < 256
  two : after_text_byte (after_text_byte (tails s) a) b ≡ tails ((s + 1) % 3)

two_steps : (s a b : ℕ) → run_of_two s a b ≡ true → TwoSteps s a b
two_steps s a b e =
    let r = two_ones s a b e in
    let k = one_step s a r.0 in
    let l = one_step ((s + 2) % 3) b r.1 in
    let m : ((s + 2) % 3 + 2) % 3 ≡ (s + 1) % 3 = omega arith in
    record { few = k.few; first_below = k.small; two = rw (k.one, sym m) l.one }

-- ---- the same, from number to number

few_scan : (s : ℕ) → s < 3 → scan_of s ≡ tails s
unfolding character_of
few_scan s h =
    let d : s % 0x100 ≡ s = omega arith in
    let l : 0x80 + s / 0x100 % 0x80 ≡ 0x80 = omega arith in
    let g : 0xBF - s / 0x10000 % 0x40 ≡ 0xBF = omega arith in
    rw (d, l, g)

tails_number : (n : ℕ) → number_of (tails n) ≡ n
unfolding number_of
tails_number n = omega arith

-- a word whose result a look tells: few tails were due, and t are due after it
pub record Known (s w t : ℕ) : Type 0 where
  pub few : s < 3
  pub after : after_word s w ≡ t

known : {s w t : ℕ} → s < 3 → after_octets (tails s) w ≡ tails t → Known s w t
unfolding after_word
known {s} {w} {t} h e = record { few = h; after = ap (λ (k : Scan). number_of (after_octets k w)) (few_scan s h) ∙ ap number_of e ∙ tails_number t }

pub ascii_word_stays : (w : ℕ) → ascii_word w ≡ true → after_word 0 w ≡ 0
ascii_word_stays w e = (known {s = 0} {w = w} {t = 0} (omega arith) (word_steps (ascii_steps w e))).after

-- a scan that has stopped stays so
pub stopped_stays : (n : TextByteNumber) (b : ℕ) → after_text_byte (Err n) b ≡ Err n
unfolding after_text_byte after_byte
stopped_stays n b = picked (λ (k : Scan). k ≡ Err n) (eqb b 0) (Err n) (Err n) (λ e. refl) (λ e. refl)

zero_dropped : (k : Scan) (b : ℕ) → b ≡ 0 → after_text_byte k b ≡ k
unfolding after_text_byte
zero_dropped k b e = rw e

-- two bytes of a run in the second half of a word, where the first is zero
second_half : (w : ℕ) → w / 0x100 < 256 → (octet_of w 0 ≡ 0) × (octet_of w 1 ≡ 0) × (octet_of w 2 ≡ w / 0x100) × (octet_of w 3 ≡ w % 0x100)
unfolding octet_of
second_half w h = (omega arith, omega arith, omega arith, omega arith)

pub second_half_known : (s w : ℕ) → run_of_two s (w / 0x100) (w % 0x100) ≡ true → Known s w ((s + 1) % 3)
second_half_known s w e =
    let k = two_steps s (w / 0x100) (w % 0x100) e in
    let z = second_half w k.first_below in
    known k.few (rw (zero_dropped (tails s) (octet_of w 0) z.0, zero_dropped (tails s) (octet_of w 1) z.1, z.2, z.3) k.two)

-- one byte of a run in the last octet of a word, where the others are zero
last_octet : (w : ℕ) → w < 256 → (octet_of w 0 ≡ 0) × (octet_of w 1 ≡ 0) × (octet_of w 2 ≡ 0) × (octet_of w 3 ≡ w)
unfolding octet_of
last_octet w h = (omega arith, omega arith, omega arith, omega arith)

pub last_octet_known : (s w : ℕ) → run_of_one s w ≡ true → Known s w ((s + 2) % 3)
last_octet_known s w e =
    let k = one_step s w e in
    let z = last_octet w k.small in
    known k.few (rw (zero_dropped (tails s) (octet_of w 0) z.0, zero_dropped (tails s) (octet_of w 1) z.1, zero_dropped (tails s) (octet_of w 2) z.2, z.3) k.one)

-- two bytes of a run in the first half of a word, where the second is zero
first_half : (w : ℕ) → w % 0x10000 ≡ 0 → (octet_of w 2 ≡ 0) × (octet_of w 3 ≡ 0)
unfolding octet_of
first_half w h = (omega arith, omega arith)

pub first_half_known : (s w : ℕ) → w % 0x10000 ≡ 0 → run_of_two s (octet_of w 0) (octet_of w 1) ≡ true → Known s w ((s + 1) % 3)
first_half_known s w h e =
    let k = two_steps s (octet_of w 0) (octet_of w 1) e in
    let z = first_half w h in
    known k.few (zero_dropped _ (octet_of w 3) z.1 ∙ zero_dropped _ (octet_of w 2) z.0 ∙ k.two)

-- four bytes of a run
pub four_known : (s w : ℕ) → run_of_four s w ≡ true → Known s w ((s + 2) % 3)
unfolding run_of_four
four_known s w e =
    from_three s (run_none_due w) (run_one_due w) (run_two_due w) e
    (λ x t. rw x (known (omega arith) (word_steps (none_due_steps w t))))
    (λ x t. rw x (known (omega arith) (word_steps (one_due_steps w t))))
    (λ x t. rw x (known (omega arith) (word_steps (two_due_steps w t))))

-- twelve bytes of a run lead back
step : (s t w : ℕ) → s < 3 → after_octets (tails s) w ≡ tails t → after_word s w ≡ t
step s t w h e = (known h e).after

pub twelve_known : (s a b c : ℕ) → run_of_twelve s a b c ≡ true → after_word (after_word (after_word s a) b) c ≡ s
unfolding run_of_twelve
twelve_known s a b c e =
    from_three s (run_none_due a && (run_two_due b && run_one_due c)) (run_one_due a && (run_none_due b && run_two_due c)) (run_two_due a && (run_one_due b && run_none_due c)) e
    (λ x t. let u = three_hold (run_none_due a) (run_two_due b) (run_one_due c) t in rw (x, step 0 2 a (omega arith) (word_steps (none_due_steps a u.0)), step 2 1 b (omega arith) (word_steps (two_due_steps b u.1)), step 1 0 c (omega arith) (word_steps (one_due_steps c u.2))))
    (λ x t. let u = three_hold (run_one_due a) (run_none_due b) (run_two_due c) t in rw (x, step 1 0 a (omega arith) (word_steps (one_due_steps a u.0)), step 0 2 b (omega arith) (word_steps (none_due_steps b u.1)), step 2 1 c (omega arith) (word_steps (two_due_steps c u.2))))
    (λ x t. let u = three_hold (run_two_due a) (run_one_due b) (run_none_due c) t in rw (x, step 2 1 a (omega arith) (word_steps (two_due_steps a u.0)), step 1 0 b (omega arith) (word_steps (one_due_steps b u.1)), step 0 2 c (omega arith) (word_steps (none_due_steps c u.2))))
