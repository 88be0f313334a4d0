-- An answer of the walk that is not final is the end, or refusal 1 with the length as its next position; and both can change. Proved by following the cases of reading a framed message, and by computation.
use Rattle.std.specs.Prelude.{Option, Some, None, Result, Ok, Err}
use Prim.Native.Nat.{ℕ, zero, suc, ◌+◌, ◌-◌, ◌*◌, ◌%◌, ◌≤◌}
use mathlib.Core.Path.{◌≡◌, refl, sym, ◌∙◌}
use mathlib.Core.Bool.{Bool, true, false}
use mathlib.Core.Logic.{◌⊎◌, inl, inr}
use mathlib.Core.List.{List, [], ◌∷◌, ◌++◌}
use lib.ListN.{length, get_or}
use lib.Dec.{ltb, leb, eqb}
use borrow.Author.Tests.{le-ltb}
use Rattle.laws.specs.Pick.{pick, differ}
use Rattle.laws.specs.First.{first, first_from}
use Rattle.laws.specs.Lists.{tabulate, nonzero, map, each}
use Rattle.laws.proofs.Pick.{picked, true_false}
use Rattle.counts.specs.Counts.{packet, word}
use Rattle.counts.specs.declared.PacketNumber.{PacketNumber}
use Rattle.slots.specs.Slots.{get, those}
use Rattle.utf8.specs.Utf8.{due_after, first_bad}
use Rattle.text.specs.Octets.{octet_of, due_format}
use Rattle.text.specs.Bytes.{text_byte, all_bytes}
use Rattle.kinds.specs.declared.refusal.Refusal.{Refusal}
use Rattle.kinds.specs.declared.refusal.Refusal.TheVariants.{TooFewWords, NotWholePackets, TooManyPackets, WrongType, StatusDiffers, WrongFormat, BlockNumberDiffers, BadPort, BadDirection, NotUtf8}
use Rattle.kinds.specs.declared.kind.Kind.{Kind}
use Rattle.kinds.specs.Choices.{no_port, no_direction}
use Rattle.kinds.specs.Fields.{Field, decided, same, start}
use Rattle.kinds.specs.Layout.{layout, most_of, kind_of, among, held, values_in}
use Rattle.kinds.specs.Refusals.{refusal_number}
use Rattle.records.specs.declared.message.Message.TheVariants as M
use Rattle.records.specs.declared.answers.Walked.{Walked}
use Rattle.records.specs.declared.answers.Walked.TheVariants as W
use Rattle.records.specs.Records.{record_of}
use Rattle.standard.specs.declared.Step.{Step}
use Rattle.standard.specs.declared.Step.TheVariants.{Ends, Goes, Wrong}
use Rattle.standard.specs.declared.Framed.{Framed}
use Rattle.standard.specs.declared.Framed.TheVariants.{Whole, Short, Broken}
use Rattle.standard.specs.Heads.{type_of, format_of, status_of, stream_type, packets_of, head_at}
use Rattle.standard.specs.Reading.{ruled, other_type, other_status, other_format, other_field, code_at, text_at, message_at, is_bad, read_body, read_kind, read_known, read_of}
use Rattle.standard.specs.Walk.{size_of, step_of, after_step, frame_packet, frame_from, frame_of, walked_of, part, framed_of, other_of, walk_of}
use Rattle.standard.specs.Live.{final}
use Rattle.standard.proofs.Framing.{framed_heads}
use Rattle.records.specs.declared.message.Message.{Message}

-- ---- reading at least four words gives no refusal 1
abbrev Long : Result Message Refusal → Type 0
Long r = (next : ℕ) → final (walked_of r next) ≡ true

tested : (t : Bool) (r : Refusal) (rest : (Result Message Refusal)) → differ (refusal_number r) 1 ≡ true → Long rest → Long (pick t (Err r) rest)
tested t r rest e l = picked Long t (Err r) rest (λ q next. e) (λ q. l)

ruled_long : (broken : ℕ → Bool) (n : ℕ) (why : PacketNumber → Refusal) (rest : (Result Message Refusal)) → ((p : PacketNumber) → differ (refusal_number (why p)) 1 ≡ true) → Long rest → Long (ruled broken n why rest)
unfolding ruled
ruled_long broken n why rest e l = tested (ltb (first broken n) n) _ rest (e _) l

module _ (ws : List ℕ) where
  body_long : (k : Kind) → Long (read_body k ws)
  unfolding read_body
  body_long k =
      tested (eqb (code_at k ws Field.midi1_port) no_port) BadPort _ refl
      (tested (eqb (code_at k ws Field.direction) no_direction) BadDirection _ refl
      (tested (is_bad (first_bad (text_at k ws))) NotUtf8 (Ok (message_at k ws)) refl (λ next. refl)))

  known_long : (k : (Option Kind)) → Long (read_known k ws)
  unfolding read_kind
  known_long None = λ next. refl
  known_long (Some k) =
      ruled_long (other_status ws) (packets_of ws) StatusDiffers _ (λ p. refl)
      (tested (ltb (most_of k) (packets_of ws)) (WrongFormat (packet 1)) _ refl
      (ruled_long (other_format ws) (packets_of ws) WrongFormat _ (λ p. refl)
      (ruled_long (other_field (layout k).fields ws) (packets_of ws) BlockNumberDiffers _ (λ p. refl) (body_long k))))

  read_long : 4 ≤ length ws → Long (read_of ws)
  unfolding read_of
  read_long h =
      rw (le-ltb (length ws) 4 h)
      (tested (differ (length ws % 4) 0) NotWholePackets _ refl
      (tested (ltb 64 (packets_of ws)) TooManyPackets _ refl
      (ruled_long (other_type ws) (packets_of ws) WrongType _ (λ p. refl) (known_long (kind_of (status_of (head_at ws 0)))))))

-- ---- framing breaks with another refusal
abbrev Other : Framed → Type 0
Other (Whole n) = Unit
Other Short = Unit
Other (Broken r) = differ (refusal_number r) 1 ≡ true

step_other : (t : Step) (p : ℕ) (rest : Framed) → Other rest → Other (after_step t p rest)
step_other Ends p rest r = tt
step_other Goes p rest r = r
step_other Wrong p rest r = refl

from_other : (left : ℕ) (ws : List ℕ) (status p at : ℕ) → Other (frame_from left ws status p at)
unfolding frame_from frame_packet
from_other zero ws status p at = refl
from_other (suc left) ws status p at =
    picked Other (ltb (length ws - at) 4) _ _ (λ t. tt) (λ t.
    picked Other (differ (type_of (get_or ws at 0)) stream_type) _ _ (λ u. refl) (λ u.
    picked Other (differ (status_of (get_or ws at 0)) status) _ _ (λ v. refl) (λ v.
    step_other (step_of p (format_of (get_or ws at 0))) p _ (from_other left ws status (suc p) (at + 4)))))

-- ---- so the answers that are not final are these
module _ (ws : List ℕ) (pos : ℕ) where
  abbrev Waits : Walked → Type 0
  Waits a = final a ≡ false → (a ≡ W.End) ⊎ (a ≡ W.Refused TooFewWords (word (length ws)))

  framed_waits : (f : Framed) → frame_of ws pos ≡ f → Other f → Waits (framed_of f ws pos)
  unfolding framed_of
  framed_waits Short q o e = inr refl
  framed_waits (Broken r) q o e = true_false (sym o ∙ e)
  framed_waits (Whole n) q o e = true_false (sym (read_long (part ws pos n.0) (framed_heads ws pos n q).long (pos + n.0 * 4)) ∙ e)

  other_waits : (t : ℕ) → Waits (other_of t ws pos)
  unfolding other_of
  other_waits t = picked Waits (ltb (length ws - pos) (size_of t)) _ _ (λ q e. inr refl) (λ q e. true_false e)

  -- AN ANSWER THAT IS NOT FINAL is the end, or refusal 1 with the length as its next position
  pub walk_waits : final (walk_of ws pos) ≡ false → (walk_of ws pos ≡ W.End) ⊎ (walk_of ws pos ≡ W.Refused TooFewWords (word (length ws)))
  unfolding walk_of frame_of
  walk_waits =
      picked Waits (leb (length ws) pos) _ _ (λ q e. inl refl) (λ q.
      picked Waits (differ (type_of (get_or ws pos 0)) stream_type) _ _ (λ u. other_waits (type_of (get_or ws pos 0))) (λ u. framed_waits (frame_of ws pos) refl (from_other 64 ws (status_of (get_or ws pos 0)) 0 pos)))

-- ---- the end and refusal 1 can change: a word that comes, and a name whose second packet comes
abbrev half : List ℕ
half = 0xF403_0000 ∷ 0 ∷ 0 ∷ 0 ∷ []

abbrev rest : List ℕ
rest = 0xFC03_0000 ∷ 0 ∷ 0 ∷ 0 ∷ []

pub end_changes : (walk_of [] 0 ≡ W.End) × (walk_of ([] ++ 0x10F8_0000 ∷ []) 0 ≡ W.Other 1 (word 1) (word 1))
unfolding size_of walk_of other_of
end_changes = (refl, refl)

pub short_changes : (walk_of half 0 ≡ W.Refused TooFewWords (word 4)) × (walk_of (half ++ rest) 0 ≡ W.Message (M.EndpointName (packet 2)) (word 8))
unfolding first first_from tabulate nonzero map each get those first_bad due_after octet_of due_format text_byte all_bytes decided same start layout among held values_in record_of ruled other_field read_body read_kind read_of size_of step_of frame_packet frame_from frame_of framed_of walk_of
short_changes = (refl, refl)

-- so one waits at the position given: at the next one the second packet alone would be refused
pub next_misses : walk_of (half ++ rest) 4 ≡ W.Refused (WrongFormat (packet 0)) (word 8)
unfolding size_of step_of frame_packet frame_from frame_of framed_of walk_of
next_misses = refl
