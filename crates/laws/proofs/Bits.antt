-- Laws of reading and writing a field of a word, given by its lowest bit and its width, and of the octets of a word. Most follow from `put_sum` by linear arithmetic.
use Prim.Native.Nat.{ℕ, ◌+◌, ◌-◌, ◌*◌, ◌/◌, ◌%◌, ◌^◌, ◌<◌, ◌≤◌}
use mathlib.Core.Path.{◌≡◌, sym, ap, subst, ◌∙◌}
use mathlib.Core.Logic.{◌⊎◌, inl, inr}
use native.Mathlib.Omega.{arith}
use native.Mathlib.Nat.{one-mul, mod-eq_of_lt, mul_assoc, add_comm, add-mul, mod-lt, mul_comm}
use lib.Pow.{pow_pos, pow-lt, pow-add, shr_lt, shr-shr, field, mod-mod-pow, split}
use lib.Arith.{digits_lt, digits_div, digits_mod}
use Rattle.laws.specs.Bits.{field_of, put_field}

-- 1 << k in n bits
pub one_shl : {k : ℕ} (n : ℕ) → k < n → 1 * 2 ^ k % 2 ^ n ≡ 2 ^ k
one_shl n h = rw one-mul (mod-eq_of_lt (pow-lt {j = n} h))

-- the field and the bits below it stay below the next bit
under : (w at span v : ℕ) → v < 2 ^ span → v * 2 ^ at + w % 2 ^ at < 2 ^ (at + span)
under w at span v h = rw (add_comm at span, pow-add) (digits_lt h (mod-lt w (pow_pos at)))

pub put_lt : (w at span v : ℕ) → w < 2 ^ 32 → at + span ≤ 32 → v < 2 ^ span → put_field w at span v < 2 ^ 32
put_lt w at span v hw ha hv =
    let m : ℕ = 32 - (at + span) in
    let e : m + (at + span) ≡ 32 = omega arith in
    let q : w / 2 ^ (at + span) < 2 ^ m = shr_lt m (at + span) (rw e hw) in
    let b : w / 2 ^ (at + span) * 2 ^ (at + span) + (v * 2 ^ at + w % 2 ^ at) < 2 ^ 32 = subst (λ (k : ℕ). w / 2 ^ (at + span) * 2 ^ (at + span) + (v * 2 ^ at + w % 2 ^ at) < k) (sym (pow-add 2 m (at + span)) ∙ ap (λ (k : ℕ). 2 ^ k) e) (digits_lt q (under w at span v hv)) in
    omega arith

regroup : (q u s v r : ℕ) → q * (u * s) + v * u + r ≡ (q * s + v) * u + r
regroup q u s v r = rw (add-mul, mul_comm u s, mul_assoc)

-- the field and the bits above it, after a put
put_top : (w at span v : ℕ) → put_field w at span v / 2 ^ at ≡ w / 2 ^ (at + span) * 2 ^ span + v
put_top w at span v =
    ap (λ (t : ℕ). (w / 2 ^ (at + span) * t + v * 2 ^ at + w % 2 ^ at) / 2 ^ at) (pow-add 2 at span) ∙ ap (λ (t : ℕ). t / 2 ^ at) (regroup (w / 2 ^ (at + span)) (2 ^ at) (2 ^ span) v (w % 2 ^ at)) ∙ digits_div _ (mod-lt w (pow_pos at))

-- reading a field gives what was put there
pub get_put : (w at span v : ℕ) → v < 2 ^ span → field_of (put_field w at span v) at span ≡ v
get_put w at span v hv = rw (put_top w at span v) (digits_mod _ hv)

-- a field above is unchanged
put_high : (w at span v : ℕ) → v < 2 ^ span → put_field w at span v / 2 ^ (at + span) ≡ w / 2 ^ (at + span)
put_high w at span v hv = sym (shr-shr (put_field w at span v) at span) ∙ ap (λ (t : ℕ). t / 2 ^ span) (put_top w at span v) ∙ digits_div _ hv

pub get_above : (w at span v at' span' : ℕ) → v < 2 ^ span → at + span ≤ at' → field_of (put_field w at span v) at' span' ≡ field_of w at' span'
get_above w at span v at' span' hv ha =
    let e : at + span + (at' - (at + span)) ≡ at' = omega arith in
    let g : (x : ℕ) → x / 2 ^ at' ≡ x / 2 ^ (at + span) / 2 ^ (at' - (at + span)) = λ x. rw (shr-shr, e) in
    ap (λ (t : ℕ). t % 2 ^ span') (g (put_field w at span v) ∙ ap (λ (t : ℕ). t / 2 ^ (at' - (at + span))) (put_high w at span v hv) ∙ sym (g w))

-- a field below is unchanged
put_low : (w at span v : ℕ) → put_field w at span v % 2 ^ at ≡ w % 2 ^ at
put_low w at span v =
    ap (λ (t : ℕ). (w / 2 ^ (at + span) * t + v * 2 ^ at + w % 2 ^ at) % 2 ^ at) (pow-add 2 at span) ∙ ap (λ (t : ℕ). t % 2 ^ at) (regroup (w / 2 ^ (at + span)) (2 ^ at) (2 ^ span) v (w % 2 ^ at)) ∙ digits_mod _ (mod-lt w (pow_pos at))

pub get_below : (w at span v at' span' : ℕ) → at' + span' ≤ at → field_of (put_field w at span v) at' span' ≡ field_of w at' span'
get_below w at span v at' span' ha =
    let e : at - (span' + at') + (span' + at') ≡ at = omega arith in
    let g : (x : ℕ) → x / 2 ^ at' % 2 ^ span' ≡ x % 2 ^ at % 2 ^ (span' + at') / 2 ^ at' = λ x. sym (field x span' at') ∙ ap (λ (t : ℕ). t / 2 ^ at') (sym (mod-mod-pow x (at - (span' + at')) (span' + at')) ∙ ap (λ (t : ℕ). x % 2 ^ t % 2 ^ (span' + at')) e) in
    g (put_field w at span v) ∙ ap (λ (t : ℕ). t % 2 ^ (span' + at') / 2 ^ at') (put_low w at span v) ∙ sym (g w)

-- ---- a put as a sum: the laws below follow from it by linear arithmetic
sum_of : (q a s f r v : ℕ) → q * (a * s) + v * a + r + f * a ≡ (q * s + f) * a + r + v * a
sum_of q a s f r v = omega arith

pub put_sum : (w at span v : ℕ) → put_field w at span v + field_of w at span * 2 ^ at ≡ w + v * 2 ^ at
put_sum w at span v =
    let h : w / 2 ^ (at + span) * 2 ^ span + field_of w at span ≡ w / 2 ^ at = ap (λ (t : ℕ). t * 2 ^ span + field_of w at span) (sym (shr-shr w at span)) ∙ split (w / 2 ^ at) span in
    ap (λ (t : ℕ). w / 2 ^ (at + span) * t + v * 2 ^ at + w % 2 ^ at + field_of w at span * 2 ^ at) (pow-add 2 at span) ∙ sum_of (w / 2 ^ (at + span)) (2 ^ at) (2 ^ span) (field_of w at span) (w % 2 ^ at) v ∙ ap (λ (t : ℕ). t * 2 ^ at + w % 2 ^ at + v * 2 ^ at) h ∙ ap (λ (t : ℕ). t + v * 2 ^ at) (split w at)

-- putting back what a field holds changes nothing
pub put_back : (w at span v : ℕ) → field_of w at span ≡ v → put_field w at span v ≡ w
put_back w at span v e =
    let s : put_field w at span v + v * 2 ^ at ≡ w + v * 2 ^ at = ap (λ (t : ℕ). put_field w at span v + t * 2 ^ at) (sym e) ∙ put_sum w at span v in
    omega arith

-- the last put into a field wins
pub put_over : (w at span u v : ℕ) → u < 2 ^ span → put_field (put_field w at span u) at span v ≡ put_field w at span v
put_over w at span u v hu =
    let s : put_field (put_field w at span u) at span v + u * 2 ^ at ≡ put_field w at span u + v * 2 ^ at = ap (λ (t : ℕ). put_field (put_field w at span u) at span v + t * 2 ^ at) (sym (get_put w at span u hu)) ∙ put_sum (put_field w at span u) at span v in
    sums _ _ _ _ _ _ s (put_sum w at span u) (put_sum w at span v)
  where
    sums : (x y z a b c : ℕ) → x + a ≡ y + b → y + c ≡ w + a → z + c ≡ w + b → x ≡ z
    sums x y z a b c p q r = omega arith

-- two fields that share no bit
abbrev pub Apart : ℕ → ℕ → ℕ → ℕ → Type 0
Apart at span at' span' = (at + span ≤ at') ⊎ (at' + span' ≤ at)

pub get_other : (w at span v at' span' : ℕ) → v < 2 ^ span → Apart at span at' span' → field_of (put_field w at span v) at' span' ≡ field_of w at' span'
get_other w at span v at' span' hv (inl h) = get_above w at span v at' span' hv h
get_other w at span v at' span' hv (inr h) = get_below w at span v at' span' h

pub apart_sym : (at span at' span' : ℕ) → Apart at span at' span' → Apart at' span' at span
apart_sym at span at' span' (inl h) = inr h
apart_sym at span at' span' (inr h) = inl h

-- puts into fields that share no bit may be swapped
pub put_swap : (w at span v at' span' v' : ℕ) → v < 2 ^ span → v' < 2 ^ span' → Apart at span at' span' → put_field (put_field w at span v) at' span' v' ≡ put_field (put_field w at' span' v') at span v
put_swap w at span v at' span' v' h h' d =
    sums _ _ _ _ _ _ _ _
    (ap (λ (t : ℕ). put_field (put_field w at span v) at' span' v' + t * 2 ^ at') (sym (get_other w at span v at' span' h d)) ∙ put_sum (put_field w at span v) at' span' v')
    (put_sum w at span v)
    (ap (λ (t : ℕ). put_field (put_field w at' span' v') at span v + t * 2 ^ at) (sym (get_other w at' span' v' at span h' (apart_sym at span at' span' d))) ∙ put_sum (put_field w at' span' v') at span v)
    (put_sum w at' span' v')
  where
    sums : (x y z u a b c e : ℕ) → x + a ≡ y + b → y + c ≡ w + e → z + c ≡ u + e → u + a ≡ w + b → x ≡ z
    sums x y z u a b c e p q r s = omega arith

-- ---- words that share some bits
-- a field within the low bits of a word can be read from these bits
pub low_field : (w a at span : ℕ) → at + span ≤ a → field_of (w % 2 ^ a) at span ≡ field_of w at span
low_field w a at span h =
    let e : a - (span + at) + (span + at) ≡ a = omega arith in
    sym (field (w % 2 ^ a) span at)
    ∙ ap (λ (t : ℕ). t / 2 ^ at) (ap (λ (t : ℕ). w % 2 ^ t % 2 ^ (span + at)) (sym e) ∙ mod-mod-pow w (a - (span + at)) (span + at))
    ∙ field w span at

-- words that agree from bit b on have the same fields there
pub same_above : (w v b at span : ℕ) → b ≤ at → w / 2 ^ b ≡ v / 2 ^ b → field_of w at span ≡ field_of v at span
same_above w v b at span h e =
    let i : b + (at - b) ≡ at = omega arith in
    let g : (x : ℕ) → x / 2 ^ at ≡ x / 2 ^ b / 2 ^ (at - b) = λ x. rw (shr-shr, i) in
    ap (λ (t : ℕ). t % 2 ^ span) (g w ∙ ap (λ (t : ℕ). t / 2 ^ (at - b)) e ∙ sym (g v))

-- ---- octets of a word
-- nothing is left above the highest octet
pub first_octet : (w : ℕ) → w < 2 ^ 32 → w / 0x1000000 % 256 ≡ w / 0x1000000
first_octet w h = mod-eq_of_lt (let l : w / 0x1000000 < 256 = omega arith in l)
