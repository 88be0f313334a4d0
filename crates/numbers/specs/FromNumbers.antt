-- A RECORD FROM ITS NUMBERS: what was given may be no record, and is then refused.
use Rattle.std.specs.Prelude.{ℕ, ◌/◌, ◌%◌, ◌≡◌, Bool, true, false, List, [], ◌∷◌, ◌++◌, length, get_or, take, drop, ltb, eqb, Option, Some, None, Result, Ok, Err}
use Rattle.laws.specs.Pick.{pick, both, differ}
use Rattle.laws.specs.Lists.{each}
use Rattle.slots.specs.Slots.{fits}
use Rattle.kinds.specs.declared.kind.Kind.{Kind}
use Rattle.kinds.specs.declared.refusal.Refusal.{Refusal}
use Rattle.kinds.specs.declared.refusal.Refusal.TheVariants.{UnknownStatus, NumberTooLarge, NoSuchField}
use Rattle.kinds.specs.Choices.{no_port, no_direction}
use Rattle.kinds.specs.Fields.{Field, start}
use Rattle.kinds.specs.Layout.{layout, kind_of, has_text, parts}
use Rattle.records.specs.Answers.{Said, accepted, refused, said_message}
use Rattle.records.specs.Records.{Valued, lookup, in_order, record_of}
use Rattle.numbers.specs.declared.Numbers.{Numbers}
use Rattle.numbers.specs.Numbers.{numbered, nine}
use Rattle.records.specs.declared.message.Message.{Message}

-- the fields in order take their numbers, each as many as its starting value has
unfoldable pub spread : List Field → List ℕ → List Valued
spread [] ns = []
spread (f ∷ fs) ns = record { field = f; value = take (length (start f)) ns } ∷ spread fs (drop (length (start f)) ns)

abbrev pub values_from : Kind → Numbers → Field → List ℕ
values_from k c = lookup (spread (in_order k) (nine c))

-- each number is at most its field's largest
pub record Fitting (k : Kind) (c : Numbers) : Type 0 where
  pub is : fits (layout k).fields (parts (values_from k c)) ≡ true

-- the numbers name no port 3 and no direction 0
abbrev pub choices_named : Kind → Numbers → Bool
choices_named k c =
    pick (eqb (get_or (values_from k c Field.midi1_port) 0 0) no_port) false
    (differ (get_or (values_from k c Field.direction) 0 0) no_direction)

-- each number is at most its field's largest, and each choice is a named one
abbrev pub is_record : Kind → Numbers → Bool
is_record k c = both (fits (layout k).fields (parts (values_from k c))) (choices_named k c)

-- refusal 12 for numbers that are no record; otherwise the record
unfoldable pub from_kind : Kind → Numbers → Result Message Refusal
from_kind k c = pick (is_record k c) (Ok (record_of k c.packets (values_from k c))) (Err NumberTooLarge)

-- numbers of another kind than the one wanted: refusal 5 if no kind has their status, otherwise 13
abbrev pub other_kind : Option Kind → Refusal
other_kind None = UnknownStatus
other_kind (Some j) = NoSuchField

-- A RECORD OF A KIND from its numbers: refusals 5, 13, 12
abbrev pub from_own : Kind → Numbers → Result Message Refusal
from_own k c = pick (eqb c.status (layout k).status) (from_kind k c) (Err (other_kind (kind_of c.status)))

abbrev pub fixed_known : Option Kind → Numbers → Result Message Refusal
fixed_known None c = Err UnknownStatus
fixed_known (Some k) c = pick (has_text (layout k).body) (Err NoSuchField) (from_kind k c)

-- A RECORD OF ANY FIXED KIND from its numbers: refusals 5, 13 for a kind with text, 12
abbrev pub from_fixed : Numbers → Result Message Refusal
from_fixed c = fixed_known (kind_of c.status) c

-- the same in document 01's numbers: the message, or the refusal
abbrev pub said_from : Result Message Refusal → Said
said_from (Ok m) = accepted (said_message m)
said_from (Err r) = refused r []

-- what is looked at of numbers given for a kind: a fixed kind is one packet, and numbers past the kind's last are as 0
abbrev pub trimmed : Kind → Numbers → Numbers
trimmed k c =
    numbered c.status (pick (has_text (layout k).body) c.packets 1) (take (length (each start (in_order k))) (nine c))

-- each limit has its number, which is below it
unfoldable pub within : List ℕ → List ℕ → Bool
within ns [] = true
within [] (l ∷ ls) = false
within (n ∷ ns) (l ∷ ls) = both (ltb n l) (within ns ls)

-- ---- the numbers of the slots, one a slot: a pair is two septets, the low one first
abbrev pub plain_slots : Numbers → List ℕ
plain_slots c = nine c ++ (0 ∷ 0 ∷ [])

abbrev pub pair_slots : Numbers → List ℕ
pair_slots c =
    c.first ∷ c.second ∷ c.third ∷ c.fourth % 128 ∷ c.fourth / 128 ∷ c.fifth % 128 ∷ c.fifth / 128 ∷ c.sixth ∷ c.seventh ∷ c.eighth ∷ c.ninth ∷ []

-- a kind with more slots than numbers has pairs
unfoldable pub slot_numbers : Kind → Numbers → List ℕ
slot_numbers k c = pick (ltb 9 (length (layout k).fields)) (pair_slots c) (plain_slots c)
