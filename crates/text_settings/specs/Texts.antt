-- Text set on words: what the target refuses, then 11, 3 and 14; else the text is written into the packets that it needs. And a number set in the head of each packet.
use Rattle.std.specs.Prelude.{ℕ, ◌+◌, ◌*◌, ◌/◌, ◌^◌, ◌≡◌, Bool, true, false, List, length, get_or, ltb, Result, Ok, Err}
use Rattle.laws.specs.Pick.{pick, differ}
use Rattle.laws.specs.Bits.{field_of}
use Rattle.slots.specs.Slots.{Slot}
use Rattle.counts.specs.Counts.{packet}
use Rattle.utf8.specs.Utf8.{first_bad}
use Rattle.text.specs.Octets.{needed}
use Rattle.text_check.specs.FastCheck.{ascii_packet}
use Rattle.kinds.specs.declared.kind.Kind.{Kind}
use Rattle.kinds.specs.Layout.{Part, layout, capacity_of, has_text}
use Rattle.kinds.specs.declared.refusal.Refusal.TheVariants.{TooManyPackets, NotUtf8, NoRoom}
use Rattle.standard.specs.Heads.{head_word, packets_of}
use Rattle.standard.specs.Reading.{is_bad}
use Rattle.standard.specs.Walk.{walk_of}
use Rattle.standard.specs.Words.{Outcome, outcome, unchanged}
use Rattle.fields.specs.Puts.{put_each}
use Rattle.buffer.specs.Acts.{fill_text}
use Rattle.table.specs.Places.{slot_at}
use Rattle.reading.specs.Bodies.{offset_of}
use Rattle.settings.specs.Target.{target_of, settled}
use Rattle.settings.specs.Fixed.{fitted}
use Rattle.kinds.specs.declared.refusal.Refusal.{Refusal}
use Rattle.counts.specs.declared.PacketNumber.{PacketNumber}

-- the upper half of a first word: type, format and status
abbrev pub upper_of : ℕ → ℕ
upper_of w = w / 0x10000

-- a head of a single packet of a kind with text: type 15, format 0 and its status
pub record SingleHead (k : Kind) (head : ℕ) : Type 0 where
  pub upper : upper_of head ≡ 0xF000 + (layout k).status
  pub text : has_text (layout k).body ≡ true

-- the first packet has the upper half of a head, and all of its text is ASCII
unfoldable pub single_ascii : List ℕ → ℕ → Bool
single_ascii ws head =
    pick (ltb (length ws) 4) false (pick (differ (upper_of (get_or ws 0 0)) (upper_of head)) false (ascii_packet ws 0 0))

-- refusals 3 and 14 by the packets needed and the whole packets of the buffer
unfoldable pub room_of : ℕ → ℕ → Result PacketNumber Refusal
room_of n room =
    pick (ltb 64 n) (Err TooManyPackets) (pick (ltb room n) (Err NoRoom) (Ok (packet n)))

-- refusal 11 comes before them
unfoldable pub plan_of : List ℕ → ℕ → ℕ → Result PacketNumber Refusal
plan_of text cap room = pick (is_bad (first_bad text)) (Err NotUtf8) (room_of (needed cap (length text)) room)

-- what a plan leaves: the words unchanged if it is refused, else what `act` gives for the packets needed
abbrev pub carried : Result PacketNumber Refusal → (ℕ → List ℕ) → List ℕ → Outcome
carried (Ok n) act ws = outcome (Ok tt) (act n.0)
carried (Err r) act ws = unchanged r ws

-- text in the packets of a kind, with the same head except for the format
unfoldable pub text_on : Kind → ℕ → List ℕ → List ℕ → Outcome
text_on k head text ws =
    settled (target_of (layout k).status (walk_of ws 0)) (λ m. carried (plan_of text (capacity_of k) (packets_of ws)) (λ n. fill_text text (offset_of k) head n ws) ws) ws

-- a number in a slot of the first n heads, or refusal 12
abbrev pub each_put : ℕ → Slot Part → ℕ → List ℕ → Outcome
each_put n s v ws = fitted (ltb v (2 ^ s.span)) (put_each n s.at s.span v ws) ws

-- the same in each packet of the message of a kind, and in none after
unfoldable pub each_on : Kind → ℕ → ℕ → List ℕ → Outcome
each_on k i v ws =
    settled (target_of (layout k).status (walk_of ws 0)) (λ n. each_put n (slot_at (layout k).fields i) v ws) ws

-- the head of a block name, with the block number that its first packet has
unfoldable pub block_head : List ℕ → ℕ
block_head ws = head_word 0x12 0 + field_of (get_or ws 0 0) 8 8 * 0x100
