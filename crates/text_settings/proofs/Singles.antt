-- A packet that is a whole message of plain text is the target that the walk finds. Closed by its head's fields, and what the pass sees of it.
use Rattle.std.specs.Prelude.{Some, Ok}
use Prim.Native.Nat.{ℕ, ◌+◌, ◌<◌, ◌≤◌}
use mathlib.Core.Path.{◌≡◌, refl, sym, ap, ◌∙◌}
use mathlib.Core.Bool.{true, false}
use mathlib.Core.List.{List}
use native.Mathlib.Omega.{arith}
use lib.ListN.{length, get_or, take}
use lib.Seq.{get_or-take, length-take-le}
use lib.Dec.{leb, ltb, lit≤}
use borrow.Author.Tests.{lt-leb, ltb-false, eq-eqb}
use Rattle.laws.specs.Pick.{pick, differ}
use Rattle.laws.proofs.Pick.{true_false, passed, differ_false}
use Rattle.counts.specs.Counts.{packet}
use Rattle.text.specs.Octets.{due_format}
use Rattle.text_check.specs.FastCheck.{is_good, ascii_packet}
use Rattle.text_check.proofs.AsciiPackets.{ascii_good, ascii-later}
use Rattle.kinds.specs.declared.kind.Kind.{Kind}
use Rattle.kinds.specs.Layout.{layout}
use Rattle.kinds.proofs.Rows.{status_small}
use Rattle.standard.specs.Heads.{type_of, format_of, status_of, stream_type, head_at, packets_of}
use Rattle.standard.specs.Walk.{walk_of}
use Rattle.reading.specs.Bodies.{offset_of}
use Rattle.reading.specs.OnePass.{head_bits, like_first, ends_at, headed_packets, seen_text}
use Rattle.reading.proofs.Passes.{same_type, turn_ends, seen_good}
use Rattle.settings.specs.Target.{target_of}
use Rattle.text_settings.specs.Texts.{upper_of, SingleHead, single_ascii}
use Rattle.text_settings.proofs.Targets.{seen_target}

-- ---- the first word of a whole message
module _ (w status : ℕ) (e : upper_of w ≡ 0xF000 + status) (small : status < 0x400) where
  whole_type : type_of w ≡ stream_type
  whole_type = omega arith

  whole_format : format_of w ≡ 0
  whole_format = omega arith

  whole_status : status_of w ≡ status
  whole_status = omega arith

-- ---- what the pass sees of a first packet that is whole
module _ (ws : List ℕ) (offset : ℕ) (long : 4 ≤ length ws) where
  like_itself : like_first ws offset 0 ≡ true
  unfolding like_first
  like_itself = rw (lt-leb (packets_of ws) 0 (omega arith)) (eq-eqb (head_bits (head_at ws 0) offset) (head_bits (head_at ws 0) offset) refl)

  one_headed : type_of (head_at ws 0) ≡ stream_type → format_of (head_at ws 0) ≡ 0 → Some (packet 1) ≡ headed_packets ws offset
  unfolding ends_at due_format
  one_headed t f = same_type ws offset (Some (packet 1)) t (sym (turn_ends ws offset 0 (lit≤ tt) like_itself (rw f refl) ∙ rw f refl))

  front_plain : ascii_packet ws offset 0 ≡ true → ascii_packet (take 4 ws) offset 0 ≡ true
  unfolding ascii_packet
  front_plain e =
      let l = length-take-le 4 ws long in
      let a : leb (packets_of ws) 0 ≡ false = lt-leb (packets_of ws) 0 (omega arith) in
      let b : leb (packets_of (take 4 ws)) 0 ≡ false = lt-leb (packets_of (take 4 ws)) 0 (omega (arith, l)) in
      rw (b, get_or-take 4 ws 0 0 (lit≤ tt), get_or-take 4 ws 1 0 (lit≤ tt), get_or-take 4 ws 2 0 (lit≤ tt), get_or-take 4 ws 3 0 (lit≤ tt)) (rw a at e)

  one_seen : ascii_packet ws offset 0 ≡ true → headed_packets ws offset ≡ Some (packet 1) → Some (packet 1) ≡ seen_text ws offset
  one_seen e h =
      let l = length-take-le 4 ws long in
      seen_good ws offset h (ap is_good (ascii_good (take 4 ws) offset (packets_of (take 4 ws)) (λ p i. let z : p ≡ 0 = omega (arith, l, i) in rw z (front_plain e))))

-- A LONE PACKET IS THE TARGET
pub single_target : (k : Kind) (ws : List ℕ) (head : ℕ) → SingleHead k head → single_ascii ws head ≡ true → Ok (packet 1) ≡ target_of (layout k).status (walk_of ws 0)
unfolding single_ascii
single_target k ws head own e =
    let other = differ (upper_of (get_or ws 0 0)) (upper_of head) in
    let a = passed (ltb (length ws) 4) false (pick other false (ascii_packet ws 0 0)) true (λ q. true_false (sym q)) e in
    let b = passed other false (ascii_packet ws 0 0) true (λ q. true_false (sym q)) a.1 in
    let long = ltb-false _ _ a.0 in
    let upper : upper_of (get_or ws 0 0) ≡ 0xF000 + (layout k).status = differ_false _ _ b.0 ∙ own.upper in
    let small = status_small k in
    let seen : Some (packet 1) ≡ seen_text ws (offset_of k) = one_seen ws (offset_of k) long (ascii-later ws (offset_of k) 0 b.1) (sym (one_headed ws (offset_of k) long (whole_type _ _ upper small) (whole_format _ _ upper small))) in
    seen_target k ws (packet 1) (whole_status _ _ upper small) (rw own.text (sym seen))
