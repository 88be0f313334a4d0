-- What a written text leaves: where it fits it is copied, and where it does not nothing changes.
use Prim.Native.Nat.{ℕ, ◌+◌, ◌-◌, ◌*◌, ◌<◌, ◌≤◌}
use mathlib.Core.Path.{◌≡◌, refl, ap, ◌∙◌}
use mathlib.Core.List.{List, ◌++◌}
use native.Mathlib.Nat.{mul-le-mul_left}
use native.Mathlib.Omega.{arith}
use lib.ListN.{length, drop}
use borrow.Author.Tests.{le-leb, lt-leb}
use Rattle.std.specs.Prelude.{Ok, Err}
use Rattle.laws.proofs.Lists.{nonzero-length}
use Rattle.counts.specs.Counts.{byte}
use Rattle.text.specs.Bytes.{all_bytes, text_of}
use Rattle.text.proofs.Place.{length_all}
use Rattle.ascii_lines.specs.Page.{Wrote}
use Rattle.ascii_lines.proofs.Room.{room}
use Rattle.text_copy.specs.declared.NotCopied.TheVariants as N
use Rattle.text_copy.specs.Copied.{Copying, copy_text}

-- a text is at most as long as its packets are full
pub text_most : (ws : List ℕ) (offset n : ℕ) → length (text_of ws (14 - offset) n) ≤ n * 14
text_most ws offset n =
    let m : n * (14 - offset) ≤ n * 14 = mul-le-mul_left n (omega arith) in
    omega (arith, nonzero-length (all_bytes ws (14 - offset) n), length_all ws (14 - offset) n, m)

module _ (t out : List ℕ) where
  pub copied : {j : ℕ} {after : List ℕ} → length t ≤ length out → Wrote 0 out t j after → (Ok (byte j) ≡ (copy_text t out).answer) × (after ≡ (copy_text t out).bytes)
  copied h w =
      let r = room w (omega arith) in
      let e : 0 + length t ≡ length t = omega arith in
      rw (le-leb (length t) (length out) h)
      (ap (λ (n : ℕ). let a : Copying = Ok (byte n) in a) (r.next ∙ e), r.whole ∙ ap (λ (n : ℕ). t ++ drop n out) e)

  pub no_room : length out < length t → (Err (N.NoRoom (byte (length t))) ≡ (copy_text t out).answer) × (out ≡ (copy_text t out).bytes)
  no_room h = rw (lt-leb (length t) (length out) h) (refl, refl)
