-- THE WALK: what is at a word position of a stream.
use Rattle.std.specs.Prelude.{ℕ, zero, suc, ◌+◌, ◌-◌, ◌*◌, ◌≤◌, ◌<◌, List, [], ◌∷◌, length, get_or, take, drop, ltb, leb, eqb, Result, Ok, Err}
use Rattle.laws.specs.Pick.{pick, differ}
use Rattle.counts.specs.Counts.{packet, word}
use Rattle.counts.specs.declared.WordNumber.{WordNumber}
use Rattle.kinds.specs.declared.refusal.Refusal.TheVariants.{TooFewWords, TooManyPackets, WrongType, StatusDiffers, WrongFormat}
use Rattle.records.specs.declared.answers.Walked.{Walked}
use Rattle.records.specs.declared.answers.Walked.TheVariants as W
use Rattle.standard.specs.declared.Step.{Step}
use Rattle.standard.specs.declared.Step.TheVariants.{Ends, Goes, Wrong}
use Rattle.standard.specs.declared.Framed.{Framed}
use Rattle.standard.specs.declared.Framed.TheVariants.{Whole, Short, Broken}
use Rattle.standard.specs.Heads.{type_of, format_of, status_of, stream_type}
use Rattle.standard.specs.Reading.{read_of}
use Rattle.records.specs.declared.message.Message.{Message}
use Rattle.kinds.specs.declared.refusal.Refusal.{Refusal}

-- ---- sizes
-- the words of a packet of each type, 0 to F in order, as M2-104-UM lists them
abbrev pub sizes : List ℕ
sizes = 1 ∷ 1 ∷ 1 ∷ 2 ∷ 2 ∷ 4 ∷ 1 ∷ 1 ∷ 2 ∷ 2 ∷ 2 ∷ 3 ∷ 3 ∷ 4 ∷ 4 ∷ 4 ∷ []

-- the words of a packet of type t; a number above 15, which is no type, is given four
unfoldable pub size_of : ℕ → ℕ
size_of t = get_or sizes t 4

-- ---- the chain rule
-- the first packet of a message must be Complete or Start, the others Continue or End
unfoldable pub step_of : ℕ → ℕ → Step
step_of p format =
    pick (eqb p 0) (pick (eqb format 0) Ends (pick (eqb format 1) Goes Wrong)) (pick (eqb format 3) Ends (pick (eqb format 2) Goes Wrong))

-- the message ends with packet p, goes on with `rest`, or has a wrong format at packet p
abbrev pub after_step : Step → ℕ → Framed → Framed
after_step Ends p rest = Whole (packet (suc p))
after_step Goes p rest = rest
after_step Wrong p rest = Broken (WrongFormat (packet p))

-- packet p at word `at`, then `rest`: too few words, wrong type, another status than the first packet, then the format
unfoldable pub frame_packet : List ℕ → ℕ → ℕ → ℕ → Framed → Framed
frame_packet ws status p at rest =
    pick (ltb (length ws - at) 4) Short
    (pick (differ (type_of (get_or ws at 0)) stream_type) (Broken (WrongType (packet p)))
    (pick (differ (status_of (get_or ws at 0)) status) (Broken (StatusDiffers (packet p)))
    (after_step (step_of p (format_of (get_or ws at 0))) p rest)))

-- the packets from packet p on, at most `left` more; where packet 64 would come, TooManyPackets, even if no words are left
unfoldable pub frame_from : ℕ → List ℕ → ℕ → ℕ → ℕ → Framed
frame_from zero ws status p at = Broken TooManyPackets
frame_from (suc left) ws status p at = frame_packet ws status p at (frame_from left ws status (suc p) (at + 4))

-- the message at a position
unfoldable pub frame_of : List ℕ → ℕ → Framed
frame_of ws pos = frame_from 64 ws (status_of (get_or ws pos 0)) 0 pos

-- ---- the answer of the walk
-- a framed message is read; the next position is the word after it
abbrev pub walked_of : Result Message Refusal → ℕ → Walked
walked_of (Ok m) next = W.Message m (word next)
walked_of (Err r) next = W.Refused r (word next)

-- the words of the n packets at a position
abbrev pub part : List ℕ → ℕ → ℕ → List ℕ
part ws pos n = take (n * 4) (drop pos ws)

-- after refusal 1 the next position is the length, after any other framing refusal four words on
unfoldable pub framed_of : Framed → List ℕ → ℕ → Walked
framed_of Short ws pos = W.Refused TooFewWords (word (length ws))
framed_of (Broken r) ws pos = W.Refused r (word (pos + 4))
framed_of (Whole n) ws pos = walked_of (read_of (part ws pos n.0)) (pos + n.0 * 4)

-- another type; refusal 1 if words are missing
unfoldable pub other_of : ℕ → List ℕ → ℕ → Walked
other_of t ws pos =
    pick (ltb (length ws - pos) (size_of t)) (W.Refused TooFewWords (word (length ws))) (W.Other t (word (size_of t)) (word (pos + size_of t)))

-- a position at or past the length is the end
unfoldable pub walk_of : List ℕ → ℕ → Walked
walk_of ws pos =
    pick (leb (length ws) pos) W.End
    (pick (differ (type_of (get_or ws pos 0)) stream_type) (other_of (type_of (get_or ws pos 0)) ws pos) (framed_of (frame_of ws pos) ws pos))

-- every answer before the end has a next position, larger than the given one and at most the length
abbrev Between : ℕ → ℕ → WordNumber → Type 0
Between pos end n = (pos < n.0) × (n.0 ≤ end)

abbrev pub Onward : ℕ → ℕ → Walked → Type 0
Onward pos end W.End = ⊥
Onward pos end (W.Other t size next) = Between pos end next
Onward pos end (W.Message m next) = Between pos end next
Onward pos end (W.Refused r next) = Between pos end next
