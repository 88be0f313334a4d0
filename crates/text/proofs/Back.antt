-- Text that was written is read back, for any capacity. Proved from the octets of words, and by dividing a byte's number by the capacity.
use Prim.Native.Nat.{ℕ, zero, suc, ◌+◌, ◌-◌, ◌*◌, ◌/◌, ◌%◌, ◌<◌, ◌≤◌}
use mathlib.Core.Path.{◌≡◌, sym, ap, ◌∙◌}
use mathlib.Core.Bool.{Bool, true, false}
use mathlib.Core.Logic.{⊎_elim}
use mathlib.Core.List.{List}
use native.Mathlib.Omega.{arith}
use native.Mathlib.Nat.{div-add-mod', mod-lt, div-lt_iff_lt-mul}
use lib.ListN.{length, get_or}
use lib.Dec.{ltb}
use Rattle.laws.specs.Pick.{pick}
use Rattle.laws.specs.Bits.{word_of}
use Rattle.laws.specs.Lists.{tabulate, nonzero}
use Rattle.laws.proofs.Pick.{below}
use Rattle.laws.proofs.Lists.{length-tabulate, get_or-tabulate, tabulate_ext, pad_dropped}
use Rattle.text.specs.Octets.{octet_of, due_format}
use Rattle.text.specs.Written.{head_octet, octet_at, word_in, written}
use Rattle.text.specs.Bytes.{text_byte, all_bytes, text_of}
use Rattle.text.proofs.Written.{octet_head, octet_text, word_at_lem}

-- ---- octets
pub octet_word : (a b c d : ℕ) → a < 256 → b < 256 → c < 256 → d < 256 → (octet_of (word_of a b c d) 0 ≡ a) × (octet_of (word_of a b c d) 1 ≡ b) × (octet_of (word_of a b c d) 2 ≡ c) × (octet_of (word_of a b c d) 3 ≡ d)
unfolding octet_of
octet_word a b c d ha hb hc hd = (omega arith, omega arith, omega arith, omega arith)

pub octet_of_lem : (f : ℕ → ℕ) (q j : ℕ) → ((i : ℕ) → f i < 256) → j < 4 → octet_of (word_of (f q) (f (q + 1)) (f (q + 2)) (f (q + 3))) j ≡ f (q + j)
octet_of_lem f q j small h = go j h
  where
    all : (octet_of (word_of (f q) (f (q + 1)) (f (q + 2)) (f (q + 3))) 0 ≡ f q) × (octet_of (word_of (f q) (f (q + 1)) (f (q + 2)) (f (q + 3))) 1 ≡ f (q + 1)) × (octet_of (word_of (f q) (f (q + 1)) (f (q + 2)) (f (q + 3))) 2 ≡ f (q + 2)) × (octet_of (word_of (f q) (f (q + 1)) (f (q + 2)) (f (q + 3))) 3 ≡ f (q + 3))
    all = octet_word (f q) (f (q + 1)) (f (q + 2)) (f (q + 3)) (small q) (small (q + 1)) (small (q + 2)) (small (q + 3))

    go : (j : ℕ) → j < 4 → octet_of (word_of (f q) (f (q + 1)) (f (q + 2)) (f (q + 3))) j ≡ f (q + j)
    go zero h = all.0 ∙ ap f (omega arith)
    go (suc zero) h = all.1
    go (suc (suc zero)) h = all.2
    go (suc (suc (suc zero))) h = all.3
    go (suc (suc (suc (suc j)))) h = omega arith

pub octet_small : (w j : ℕ) → octet_of w j < 256
unfolding octet_of
octet_small w j = mod-lt _ (omega arith)

head_small : (head j : ℕ) → head_octet head j < 256
unfolding head_octet
head_small head j = go (ltb j 4)
  where
    go : (b : Bool) → pick b (octet_of head j) 0 < 256
    go true = octet_small head j
    go false = omega arith

module _ (ws text : List ℕ) (head : ℕ → ℕ) (cap n : ℕ) (ht : (k : ℕ) → get_or text k 0 < 256) (hc : cap ≤ 14) (hw : n * 4 ≤ length ws) where
  pub octets_small : (p j : ℕ) → octet_at text head cap n p j < 256
  octets_small p j =
      ⊎_elim (λ (l : j < 16 - cap). rw (octet_head text head cap n p j l) (head_small (head (due_format n p)) j))
      (λ (l : 16 - cap ≤ j). rw (octet_text text head cap n p j l) (ht _)) (below j (16 - cap))

  -- octet j of packet p
  pub octet_back : (p j : ℕ) → p < n → j < 16 → octet_of (get_or (written ws text head cap n) (p * 4 + j / 4) 0) (j % 4) ≡ octet_at text head cap n p j
  unfolding word_in
  octet_back p j hp hj =
      let e : j / 4 * 4 + j % 4 ≡ j = omega arith in
      ap (λ (w : ℕ). octet_of w (j % 4)) (word_at_lem text head cap n ws p (j / 4) hw hp (omega arith)) ∙ octet_of_lem (octet_at text head cap n p) (j / 4 * 4) (j % 4) (octets_small p) (omega arith) ∙ rw e

  -- text byte b of packet p
  pub byte_back : (p b : ℕ) → p < n → b < cap → text_byte (written ws text head cap n) cap p b ≡ get_or text (p * cap + b) 0
  unfolding text_byte
  byte_back p b hp hb =
      let d : 16 - cap + b - (16 - cap) ≡ b = omega arith in
      octet_back p (16 - cap + b) hp (omega arith) ∙ octet_text text head cap n p (16 - cap + b) (omega arith) ∙ rw d

  -- all text bytes: the text, and zeros after it
  pub bytes_back : 0 < cap → all_bytes (written ws text head cap n) cap n ≡ tabulate (n * cap) (λ m. get_or text m 0)
  unfolding all_bytes
  bytes_back pos =
      sym (tabulate_ext (tabulate (n * cap) (λ m. get_or text m 0)) (n * cap) _ (length-tabulate _ _)
      (λ m h. get_or-tabulate (n * cap) (λ i. get_or text i 0) m h ∙ sym (byte_back (m / cap) (m % cap) ((div-lt_iff_lt-mul pos).1 h) (mod-lt m pos) ∙ ap (λ (i : ℕ). get_or text i 0) (div-add-mod' m cap))))

  -- THE TEXT THAT IS READ BACK is the written text without its zeros
  pub text_back : 0 < cap → length text ≤ n * cap → text_of (written ws text head cap n) cap n ≡ nonzero text
  text_back pos l = ap nonzero (bytes_back pos) ∙ pad_dropped text (n * cap) l
