-- A TEXT COPIED after a read: what reading refuses is refused, and what it accepts has the kind of its status. Closed case by case.
use Rattle.std.specs.Prelude.{Some, None, Result, Ok, Err}
use Prim.Native.Nat.{ℕ}
use mathlib.Core.Path.{◌≡◌, refl, sym, ap, ◌∙◌}
use mathlib.Core.List.{List}
use native.Mathlib.Omega.{arith}
use Rattle.kinds.specs.declared.kind.Kind.{Kind}
use Rattle.kinds.specs.declared.refusal.Refusal.{Refusal}
use Rattle.kinds.specs.declared.refusal.Refusal.TheVariants.{TooFewWords, NotWholePackets, TooManyPackets, WrongType, UnknownStatus, StatusDiffers, WrongFormat, BlockNumberDiffers, BadPort, BadDirection, NotUtf8, NumberTooLarge, NoSuchField, NoRoom}
use Rattle.kinds.specs.Refusals.{refusal_number}
use Rattle.kinds.specs.Layout.{kind_of}
use Rattle.kinds.proofs.Rows.{status_kind}
use Rattle.laws.proofs.Pick.{never}
use Rattle.records.specs.Records.{kind_in}
use Rattle.standard.specs.Reading.{read_of}
use Rattle.text_copy.specs.Copied.{copy_kind, copy_read, copy_on}
use Rattle.c_structs.specs.declared.answers.RecordAnswer.{RecordAnswer}
use Rattle.c_structs.specs.Crossed.{read_crossed, copy_crossed}
use Rattle.records.specs.declared.message.Message.{Message}

-- no refusal has number 0, which says that nothing was refused
number-some : (r : Refusal) → refusal_number r ≡ 0 → ⊥
number-some TooFewWords e = omega (arith, e)
number-some NotWholePackets e = omega (arith, e)
number-some TooManyPackets e = omega (arith, e)
number-some (WrongType p) e = omega (arith, e)
number-some UnknownStatus e = omega (arith, e)
number-some (StatusDiffers p) e = omega (arith, e)
number-some (WrongFormat p) e = omega (arith, e)
number-some (BlockNumberDiffers p) e = omega (arith, e)
number-some BadPort e = omega (arith, e)
number-some BadDirection e = omega (arith, e)
number-some NotUtf8 e = omega (arith, e)
number-some NumberTooLarge e = omega (arith, e)
number-some NoSuchField e = omega (arith, e)
number-some NoRoom e = omega (arith, e)

-- what a call that reads first answers and leaves, from what was read
abbrev Refuses : Result Message Refusal → List ℕ → List ℕ → Type 0
Refuses x ws out =
    ((read_crossed x).refusal ≡ 0 → ⊥) → ((record { refusal = (read_crossed x).refusal; place = (read_crossed x).place; length = 0 }) ≡ copy_crossed (copy_read x ws out).answer) × (out ≡ (copy_read x ws out).bytes)

read_refused : (x : (Result Message Refusal)) (ws out : List ℕ) → Refuses x ws out
read_refused (Ok m) ws out n = absurd (n refl)
read_refused (Err r) ws out n = (refl, refl)

read_copied : (x : (Result Message Refusal)) (ws out : List ℕ) {k : Kind} → (read_crossed x).refusal ≡ 0 → kind_of (read_crossed x).numbers.status ≡ Some k → copy_kind k ws out ≡ copy_read x ws out
read_copied (Ok m) ws out {k} e q =
    let s : Some k ≡ Some (kind_in m) = sym q ∙ status_kind (kind_in m) in
    let is : k ≡ kind_in m = cc in
    ap (λ (j : Kind). copy_kind j ws out) is
read_copied (Err r) ws out e q = absurd (number-some r e)

read_known : (x : (Result Message Refusal)) → (read_crossed x).refusal ≡ 0 → kind_of (read_crossed x).numbers.status ≡ None → ⊥
read_known (Ok m) e q = never (let s = sym q ∙ status_kind (kind_in m) in cc)
read_known (Err r) e q = number-some r e

module _ (ws : List ℕ) {a : RecordAnswer} (read : a ≡ read_crossed (read_of ws)) where
  pub text_refused : (out : List ℕ) → (a.refusal ≡ 0 → ⊥) → ((record { refusal = a.refusal; place = a.place; length = 0 }) ≡ copy_crossed (copy_on ws out).answer) × (out ≡ (copy_on ws out).bytes)
  unfolding copy_on
  text_refused out = rw read (read_refused (read_of ws) ws out)

  pub text_copied : (out : List ℕ) {k : Kind} → a.refusal ≡ 0 → kind_of a.numbers.status ≡ Some k → copy_kind k ws out ≡ copy_on ws out
  unfolding copy_on
  text_copied out = rw read (read_copied (read_of ws) ws out)

  pub text_known : a.refusal ≡ 0 → kind_of a.numbers.status ≡ None → ⊥
  text_known = rw read (read_known (read_of ws))
