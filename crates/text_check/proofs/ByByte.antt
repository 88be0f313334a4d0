-- The byte-by-byte check of text in packets: one turn of its loop, and its end. Proved by dividing a byte's number by the capacity, and by the laws of a check that skips zeros.
use Rattle.std.specs.Prelude.{◌/◌, length, Result, Ok, Err}
use Prim.Native.Nat.{ℕ, ◌+◌, ◌*◌, ◌^◌, ◌<◌, ◌≤◌}
use mathlib.Core.Path.{◌≡◌, refl, sym, ◌∙◌}
use mathlib.Core.List.{List}
use native.Mathlib.Numerals.{add-one}
use native.Mathlib.Omega.{arith}
use native.Mathlib.Nat.{add-mul, one-mul, mul-zero, zero-mul, mul-le-mul_left}
use lib.Arith.{digits_lt}
use lib.ListN.{get_or}
use Rattle.laws.specs.Lists.{tabulate, nonzero}
use Rattle.utf8.specs.Utf8.{first_bad}
use Rattle.utf8.specs.Scan.{verdict_at_end, new_skipping_scan, after_read}
use Rattle.counts.specs.Counts.{packet, byte}
use Rattle.counts.specs.declared.TextByteNumber.{TextByteNumber}
use Rattle.utf8.specs.declared.skipping_zeros.SkippingScan.{SkippingScan}
use Rattle.utf8.proofs.Steps.{skipping_start, skipping_count, skipping_turn, skipping_finish}
use Rattle.text.specs.Bytes.{text_byte, all_bytes, text_of}
use Rattle.text.proofs.Back.{octet_small}
use Rattle.text.specs.declared.TextPlace.{TextPlace}
use Rattle.text.specs.Place.{byte_at}
use Rattle.text.proofs.Place.{byte_in, length_all, all_at}
use Rattle.laws.proofs.Pick.{never}
use Rattle.text_check.specs.ByByte.{HasRead}

byte_small : (ws : List ℕ) (cap p b : ℕ) → text_byte ws cap p b < 256
unfolding text_byte
byte_small ws cap p b = octet_small _ _

-- with capacity 0 there is no text
pub no_capacity : (ws : List ℕ) (cap n : ℕ) → cap ≡ 0 → Ok tt ≡ first_bad (text_of ws cap n)
unfolding all_bytes tabulate nonzero first_bad
no_capacity ws cap n e = rw (e, mul-zero)

-- ---- the loops over packets p and their bytes b

module _ (ws : List ℕ) (cap n : ℕ) where
  pub read_none : HasRead ws cap n (Ok new_skipping_scan) (0 * cap)
  read_none =
      rw zero-mul (record {
        few = λ c e. let q : c ≡ new_skipping_scan = cc in rw q (omega arith);
        same-verdict = skipping_start (all_bytes ws cap n);
      })

  -- after byte b of packet p was read
  pub read_more : (c : SkippingScan) (r : Result SkippingScan TextByteNumber) (p b : ℕ) → p < n → b < cap → c.at.0 + 1 < 2 ^ 64 → HasRead ws cap n (Ok c) (p * cap + b) → r ≡ after_read (Ok c) (text_byte ws cap p b) → HasRead ws cap n r (p * cap + b + 1)
  read_more c r p b h l k m e =
      let bytes : List ℕ = all_bytes ws cap n in
      let v : get_or bytes (p * cap + b) 0 ≡ text_byte ws cap p b = all_at ws cap n (record { packet = packet p; byte = byte b }) h l in
      let turn = skipping_turn bytes c (p * cap + b) (rw length_all (digits_lt h l)) (rw v (byte_small ws cap p b)) k in
      record {
        few = λ q f. let s = skipping_count c q (text_byte ws cap p b) (sym e ∙ f) in omega (arith, s, m.few c refl);
        same-verdict = rw (add-one, e) ((rw v at turn) ∙ m.same-verdict);
      }

  -- the same for the byte at a place of a text that memory can hold
  pub read_at : (c : SkippingScan) (r : Result SkippingScan TextByteNumber) (at : TextPlace) → length ws < 2 ^ 62 → cap ≤ 14 → at.packet.0 < length ws / 4 → at.packet.0 < n → at.byte.0 < cap → HasRead ws cap n (Ok c) (at.packet.0 * cap + at.byte.0) → r ≡ after_read (Ok c) (byte_at ws cap at) → HasRead ws cap n r (at.packet.0 * cap + (at.byte.0 + 1))
  read_at c r at f g w h l m e =
      let s : at.packet.0 * cap ≤ at.packet.0 * 14 = mul-le-mul_left at.packet.0 g in
      let k : c.at.0 + 1 < 2 ^ 64 = omega (arith, m.few c refl) in
      let q : at.packet.0 * cap + at.byte.0 + 1 ≡ at.packet.0 * cap + (at.byte.0 + 1) = omega arith in
      rw q at (read_more c r at.packet.0 at.byte.0 h l k m (rw byte_in at e))

  -- after the last byte of a packet
  pub packet_end : (r : Result SkippingScan TextByteNumber) (p b : ℕ) → b ≡ cap → HasRead ws cap n r (p * cap + b) → HasRead ws cap n r ((p + 1) * cap)
  packet_end r p b e m = let q : p * cap + b ≡ (p + 1) * cap = rw (e, add-mul, one-mul) in rw q at m

  -- a check that has stopped stays so
  pub read_stopped : (bad : TextByteNumber) (k m : ℕ) → HasRead ws cap n (Err bad) k → HasRead ws cap n (Err bad) m
  read_stopped bad k m h = record { few = λ c e. never (cc); same-verdict = h.same-verdict }

  pub read_all : (c : SkippingScan) (k : ℕ) → n * cap ≤ k → HasRead ws cap n (Ok c) k → verdict_at_end (Ok c.last) ≡ first_bad (text_of ws cap n)
  read_all c k h m = skipping_finish (all_bytes ws cap n) c k (rw length_all h) ∙ m.same-verdict
