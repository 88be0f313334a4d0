-- The place of any refusal of the walk is at most 64. Proved by following the cases of reading and framing.
use Rattle.std.specs.Prelude.{Option, Some, None, Result, Ok, Err}
use Prim.Native.Nat.{ℕ, zero, suc, ◌+◌, ◌-◌, ◌%◌, ◌≤◌}
use mathlib.Core.Path.{◌≡◌, refl}
use mathlib.Core.Bool.{Bool, false}
use mathlib.Core.List.{List}
use native.Mathlib.Omega.{arith}
use lib.ListN.{length, get_or}
use lib.Dec.{ltb, eqb, lit≤}
use borrow.Author.Tests.{ltb-false}
use Rattle.laws.specs.Pick.{pick, differ}
use Rattle.laws.specs.First.{first}
use Rattle.laws.proofs.First.{first_is}
use Rattle.laws.proofs.Pick.{picked}
use Rattle.counts.specs.declared.PacketNumber.{PacketNumber}
use Rattle.utf8.specs.Utf8.{first_bad}
use Rattle.kinds.specs.declared.refusal.Refusal.{Refusal}
use Rattle.kinds.specs.declared.refusal.Refusal.TheVariants.{TooFewWords, NotWholePackets, TooManyPackets, WrongType, StatusDiffers, WrongFormat, BlockNumberDiffers, BadPort, BadDirection, NotUtf8}
use Rattle.kinds.specs.declared.kind.Kind.{Kind}
use Rattle.kinds.specs.Choices.{no_port, no_direction}
use Rattle.kinds.specs.Fields.{Field}
use Rattle.kinds.specs.Layout.{layout, most_of, kind_of}
use Rattle.kinds.specs.Refusals.{refusal_place}
use Rattle.standard.specs.declared.Step.{Step}
use Rattle.standard.specs.declared.Step.TheVariants.{Ends, Goes, Wrong}
use Rattle.standard.specs.declared.Framed.{Framed}
use Rattle.standard.specs.declared.Framed.TheVariants.{Whole, Short, Broken}
use Rattle.standard.specs.Heads.{type_of, format_of, status_of, stream_type, packets_of, head_at}
use Rattle.standard.specs.Reading.{ruled, other_type, other_status, other_format, other_field, code_at, text_at, message_at, is_bad, read_body, read_kind, read_known, read_of}
use Rattle.standard.specs.Walk.{step_of, after_step, frame_packet, frame_from, frame_of}
use Rattle.records.specs.declared.message.Message.{Message}

-- ---- reading
abbrev pub Near : Result Message Refusal → Type 0
Near (Ok m) = Unit
Near (Err r) = refusal_place r ≤ 64

-- a test whose refusal has no place, and a rule whose refusal names a packet
tested : (t : Bool) (r : Refusal) (rest : (Result Message Refusal)) → refusal_place r ≤ 64 → (t ≡ false → Near rest) → Near (pick t (Err r) rest)
tested t r rest h g = picked Near t (Err r) rest (λ e. h) g

ruled_near : (broken : ℕ → Bool) (n : ℕ) (why : PacketNumber → Refusal) (rest : (Result Message Refusal)) → n ≤ 64 → ((p : PacketNumber) → refusal_place (why p) ≡ p.0) → Near rest → Near (ruled broken n why rest)
unfolding ruled
ruled_near broken n why rest h e r =
    picked Near (ltb (first broken n) n) _ _ (λ t. rw e (omega (arith, (first_is broken n).high))) (λ t. r)

module _ (ws : List ℕ) where
  body_near : (k : Kind) → Near (read_body k ws)
  unfolding read_body
  body_near k =
      tested (eqb (code_at k ws Field.midi1_port) no_port) BadPort _ (lit≤ tt)
      (λ t. tested (eqb (code_at k ws Field.direction) no_direction) BadDirection _ (lit≤ tt) (λ u. tested (is_bad (first_bad (text_at k ws))) NotUtf8 (Ok (message_at k ws)) (lit≤ tt) (λ v. tt)))

  module _ (h : packets_of ws ≤ 64) where
    kind_near : (k : Kind) → Near (read_kind k ws)
    unfolding read_kind
    kind_near k =
        ruled_near (other_status ws) (packets_of ws) StatusDiffers _ h (λ p. refl)
        (tested (ltb (most_of k) (packets_of ws)) _ _ (lit≤ tt)
        (λ t. ruled_near (other_format ws) (packets_of ws) WrongFormat _ h (λ p. refl) (ruled_near (other_field (layout k).fields ws) (packets_of ws) BlockNumberDiffers _ h (λ p. refl) (body_near k))))

    known_near : (k : (Option Kind)) → Near (read_known k ws)
    known_near None = lit≤ tt
    known_near (Some k) = kind_near k

  pub read_near : Near (read_of ws)
  unfolding read_of
  read_near =
      tested (ltb (length ws) 4) TooFewWords _ (lit≤ tt)
      (λ t. tested (differ (length ws % 4) 0) NotWholePackets _ (lit≤ tt) (λ u. tested (ltb 64 (packets_of ws)) TooManyPackets _ (lit≤ tt)
      (λ v. let h : packets_of ws ≤ 64 = ltb-false _ _ v in ruled_near (other_type ws) (packets_of ws) WrongType _ h (λ p. refl) (known_near h (kind_of (status_of (head_at ws 0)))))))

-- ---- framing
abbrev pub Close : Framed → Type 0
Close (Whole n) = Unit
Close Short = Unit
Close (Broken r) = refusal_place r ≤ 64

step_close : (t : Step) (p : ℕ) (rest : Framed) → p ≤ 64 → Close rest → Close (after_step t p rest)
step_close Ends p rest h r = tt
step_close Goes p rest h r = r
step_close Wrong p rest h r = h

packet_close : (ws : List ℕ) (status p at : ℕ) (rest : Framed) → p ≤ 64 → Close rest → Close (frame_packet ws status p at rest)
unfolding frame_packet
packet_close ws status p at rest h r =
    picked Close (ltb (length ws - at) 4) _ _ (λ t. tt) (λ t.
    picked Close (differ (type_of (get_or ws at 0)) stream_type) _ _ (λ u. h) (λ u.
    picked Close (differ (status_of (get_or ws at 0)) status) _ _ (λ v. h) (λ v. step_close (step_of p (format_of (get_or ws at 0))) p rest h r)))

from_close : (left : ℕ) (ws : List ℕ) (status p at : ℕ) → p + left ≤ 64 → Close (frame_from left ws status p at)
unfolding frame_from
from_close zero ws status p at h = lit≤ tt
from_close (suc left) ws status p at h = packet_close ws status p at _ (omega arith) (from_close left ws status (suc p) (at + 4) (omega arith))

pub frame_close : (ws : List ℕ) (pos : ℕ) → Close (frame_of ws pos)
unfolding frame_of
frame_close ws pos = from_close 64 ws (status_of (get_or ws pos 0)) 0 pos (lit≤ tt)
