-- The codes of the choices and the septets of a pair, each from the other. Closed by cases, and division by 128.
use Prim.Native.Nat.{ℕ, zero, suc, ◌+◌, ◌*◌, ◌/◌, ◌%◌, ◌<◌}
use mathlib.Core.Path.{◌≡◌, refl, ap}
use mathlib.Core.Bool.{Bool, true, false}
use mathlib.Core.Logic.{◌≢◌}
use mathlib.Core.List.{[], ◌∷◌}
use native.Mathlib.Omega.{arith}
use lib.Dec.{ltb, eqb}
use Rattle.kinds.specs.declared.choices.UiHint.{UiHint}
use Rattle.kinds.specs.declared.choices.UiHint.TheVariants as H
use Rattle.kinds.specs.declared.choices.Midi1Port.{Midi1Port}
use Rattle.kinds.specs.declared.choices.Midi1Port.TheVariants as P
use Rattle.kinds.specs.declared.choices.Direction.{Direction}
use Rattle.kinds.specs.declared.choices.Direction.TheVariants as D
use Rattle.kinds.specs.Choices.{hint_code, hint_of, port_code, port_of, direction_code, direction_of}
use Rattle.kinds.specs.Fields.{Field, Pair, bit, part_of, joined}

pub bit_flag : (b : Bool) → eqb (bit b) 1 ≡ b
bit_flag true = refl
bit_flag false = refl

pub hint_back : (h : UiHint) → hint_of (hint_code h) ≡ h
hint_back H.Undeclared = refl
hint_back H.Receiver = refl
hint_back H.Sender = refl
hint_back H.SenderReceiver = refl

pub port_back : (p : Midi1Port) → port_of (port_code p) ≡ p
port_back P.None = refl
port_back P.DontRestrictBandwidth = refl
port_back P.RestrictBandwidth = refl

pub direction_back : (d : Direction) → direction_of (direction_code d) ≡ d
direction_back D.Input = refl
direction_back D.Output = refl
direction_back D.Bidirectional = refl

-- ---- a code gives the choice that gives it back, where there is such a choice
pub flag_bit : (x : ℕ) → x < 2 → x ≡ bit (eqb x 1)
flag_bit zero h = refl
flag_bit (suc zero) h = refl
flag_bit (suc (suc x)) h = absurd (omega arith)

pub code_hint : (x : ℕ) → x < 4 → x ≡ hint_code (hint_of x)
code_hint zero h = refl
code_hint (suc zero) h = refl
code_hint (suc (suc zero)) h = refl
code_hint (suc (suc (suc zero))) h = refl
code_hint (suc (suc (suc (suc x)))) h = absurd (omega arith)

pub code_port : (x : ℕ) → x < 4 → x ≢ 3 → x ≡ port_code (port_of x)
code_port zero h n = refl
code_port (suc zero) h n = refl
code_port (suc (suc zero)) h n = refl
code_port (suc (suc (suc zero))) h n = absurd (n refl)
code_port (suc (suc (suc (suc x)))) h n = absurd (omega arith)

pub code_direction : (x : ℕ) → x < 4 → x ≢ 0 → x ≡ direction_code (direction_of x)
code_direction zero h n = absurd (n refl)
code_direction (suc zero) h n = refl
code_direction (suc (suc zero)) h n = refl
code_direction (suc (suc (suc zero))) h n = refl
code_direction (suc (suc (suc (suc x)))) h n = absurd (omega arith)

pub no_code_port : (p : Midi1Port) → port_code p ≢ 3
no_code_port P.None e = omega arith
no_code_port P.DontRestrictBandwidth e = omega arith
no_code_port P.RestrictBandwidth e = omega arith

pub no_code_direction : (d : Direction) → direction_code d ≢ 0
no_code_direction D.Input e = omega arith
no_code_direction D.Output e = omega arith
no_code_direction D.Bidirectional e = omega arith

-- ---- a flag and a code fit their bits
pub bit_fits : (b : Bool) → ltb (bit b) 2 ≡ true
bit_fits true = refl
bit_fits false = refl

pub hint_fits : (h : UiHint) → ltb (hint_code h) 4 ≡ true
hint_fits H.Undeclared = refl
hint_fits H.Receiver = refl
hint_fits H.Sender = refl
hint_fits H.SenderReceiver = refl

pub port_fits : (p : Midi1Port) → ltb (port_code p) 4 ≡ true
port_fits P.None = refl
port_fits P.DontRestrictBandwidth = refl
port_fits P.RestrictBandwidth = refl

pub direction_fits : (d : Direction) → ltb (direction_code d) 4 ≡ true
direction_fits D.Input = refl
direction_fits D.Output = refl
direction_fits D.Bidirectional = refl

-- ---- the septets of a pair
pub pair_low : (lo hi : ℕ) → lo < 128 → lo ≡ (lo + hi * 128) % 128
pair_low lo hi h = omega arith

pub pair_high : (lo hi : ℕ) → lo < 128 → hi ≡ (lo + hi * 128) / 128
pair_high lo hi h = omega arith

pub pair_back : (x : ℕ) → x % 128 + x / 128 * 128 ≡ x
pair_back x = omega arith

-- they are put and read in the same order
pub pair_joined : (p : Pair) (x : ℕ) → joined (Field.pair p) (part_of (Field.pair p) (x ∷ []) 0 ∷ part_of (Field.pair p) (x ∷ []) 1 ∷ []) ≡ x ∷ []
unfolding joined part_of
pair_joined p x = ap (λ (y : ℕ). y ∷ []) (pair_back x)
