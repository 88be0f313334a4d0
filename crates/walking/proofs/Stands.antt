-- The walk answers a message exactly where a well-formed one stands. Closed by framing its packets one by one, and by the laws of reading.
use Rattle.std.specs.Prelude.{Result, Ok, Err}
use Prim.Native.Nat.{ℕ, ◌+◌, ◌-◌, ◌*◌, ◌/◌, ◌≤◌}
use mathlib.Core.Path.{◌≡◌, refl, sym, ap, ◌∙◌}
use mathlib.Core.Bool.{Bool, true, false}
use mathlib.Core.List.{List}
use native.Mathlib.Omega.{arith}
use native.Mathlib.Nat.{add-sub_cancel_left}
use lib.ListN.{length, get_or, take, drop}
use lib.Dec.{ltb, leb}
use Rattle.laws.specs.Pick.{pick, differ}
use Rattle.laws.proofs.Pick.{never, passed}
use Rattle.counts.specs.Counts.{word}
use Rattle.counts.specs.declared.WordNumber.{WordNumber}
use Rattle.kinds.specs.declared.refusal.Refusal.TheVariants.{TooFewWords}
use Rattle.records.specs.declared.message.Message.{Message}
use Rattle.records.specs.declared.answers.Walked.TheVariants as W
use Rattle.records.specs.Records.{packets_in}
use Rattle.records.specs.declared.answers.Walked.{Walked}
use Rattle.standard.specs.declared.Framed.{Framed}
use Rattle.standard.specs.declared.Framed.TheVariants.{Whole, Short, Broken}
use Rattle.standard.specs.Heads.{type_of, stream_type}
use Rattle.standard.specs.Reading.{read_of}
use Rattle.standard.specs.Walk.{size_of, frame_of, walked_of, part, framed_of, other_of, walk_of}
use Rattle.standard.proofs.Formed.{read_formed}
use Rattle.standard.proofs.Walks.{formed_walk, part_length}
use Rattle.standard.proofs.Next.{whole_room}
use Rattle.walking.specs.Stands.{Stands, text_there}
use Rattle.kinds.specs.declared.refusal.Refusal.{Refusal}

-- ---- a well-formed message that stands there is answered
pub stands_walk : (m : Message) (t ws : List ℕ) (pos : ℕ) (next : WordNumber) → Stands m t ws pos next → walk_of ws pos ≡ W.Message m next
stands_walk m t ws pos next s = formed_walk m t ws pos s.room s.formed ∙ ap (W.Message m) (sym s.after)

-- ---- and nothing else is
read_stands : (r : (Result Message Refusal)) (ws : List ℕ) (pos n : ℕ) (m : Message) (next : WordNumber) → pos + n * 4 ≤ length ws → read_of (part ws pos n) ≡ r → walked_of r (pos + n * 4) ≡ W.Message m next → Stands m (text_there m ws pos) ws pos next
read_stands (Err r) ws pos n m next h q e = never (cc)
read_stands (Ok a) ws pos n m next h q e =
    let same : a ≡ m = cc in
    let after : word (pos + n * 4) ≡ next = cc in
    let f = read_formed (part ws pos n) m (q ∙ ap Ok same) in
    let count : n ≡ packets_in m = omega (arith, f.words, part_length ws pos n h) in
    record { room = rw (← count) h; formed = rw count at f; after = rw (← count) (sym after) }

framed_stands : (f : Framed) (ws : List ℕ) (pos : ℕ) (m : Message) (next : WordNumber) → frame_of ws pos ≡ f → framed_of f ws pos ≡ W.Message m next → Stands m (text_there m ws pos) ws pos next
unfolding framed_of
framed_stands Short ws pos m next q e = never (cc)
framed_stands (Broken r) ws pos m next q e = never (cc)
framed_stands (Whole n) ws pos m next q e = read_stands _ ws pos n.0 m next (whole_room ws pos refl q).2 refl e

other_not : (t : ℕ) (ws : List ℕ) (pos : ℕ) (m : Message) (next : WordNumber) → other_of t ws pos ≡ W.Message m next → ⊥
unfolding other_of
other_not t ws pos m next e = go (ltb (length ws - pos) (size_of t)) e
  where
    go : (b : Bool) → pick b (W.Refused TooFewWords (word (length ws))) (W.Other t (word (size_of t)) (word (pos + size_of t))) ≡ W.Message m next → ⊥
    go true q = never (cc)
    go false q = never (cc)

pub walk_formed : (ws : List ℕ) (pos : ℕ) (m : Message) (next : WordNumber) → walk_of ws pos ≡ W.Message m next → Stands m (text_there m ws pos) ws pos next
unfolding walk_of
walk_formed ws pos m next e =
    let a = passed (leb (length ws) pos) W.End _ (W.Message m next) (λ q. never (cc)) e in
    let b = passed (differ (type_of (get_or ws pos 0)) stream_type) (other_of (type_of (get_or ws pos 0)) ws pos) _ (W.Message m next) (other_not _ ws pos m next) a.1 in
    framed_stands (frame_of ws pos) ws pos m next refl b.1

-- ---- a message's words are those from its position to the next
module _ (ws : List ℕ) (pos : ℕ) (a : Walked) (m : Message) (next : WordNumber) (w : a ≡ walk_of ws pos) (e : a ≡ W.Message m next) where
  stands : Stands m (text_there m ws pos) ws pos next
  stands = walk_formed ws pos m next (sym w ∙ e)

  after : next.0 ≡ pos + packets_in m * 4
  after = ap (λ (n : WordNumber). n.0) stands.after

  pub message-within : (pos ≤ next.0) × (next.0 ≤ length ws)
  message-within = (omega (arith, after), omega (arith, after, stands.room))

  pub message_words : part ws pos (packets_in m) ≡ take (next.0 - pos) (drop pos ws)
  message_words = rw (after, add-sub_cancel_left pos (packets_in m * 4))

  pub message-packets : length (take (next.0 - pos) (drop pos ws)) / 4 ≡ packets_in m
  message-packets = let l = part_length ws pos (packets_in m) stands.room in rw (after, add-sub_cancel_left pos (packets_in m * 4)) (omega arith)
