-- A record as numbers, by examples whose numbers are all different.
use Rattle.std.specs.Prelude.{ℕ, ◌≡◌, List, [], ◌∷◌}
use Rattle.kinds.specs.declared.kind.Kind.{Kind}
use Rattle.kinds.specs.declared.kind.Kind.TheVariants as K
use Rattle.kinds.specs.Layout.{layout, values_in}
use Rattle.records.specs.declared.message.Message.{Message}
use Rattle.records.specs.Answers.{Said, accepted}
use Rattle.records.specs.Told.{refusal}
use Rattle.records.specs.Records.{record_of}
use Rattle.numbers.specs.declared.Numbers.{Numbers}
use Rattle.numbers.specs.Numbers.{unused, numbered, as_numbers}
use Rattle.numbers.specs.FromNumbers.{from_own, from_fixed, said_from}

-- the record of a kind that these words hold
abbrev in_words : Kind → List ℕ → Message
in_words k ws = record_of k 1 (values_in (layout k).fields ws)

abbrev block : Numbers
block = record { status = 0x11; packets = 1; first = 0; second = 11; third = 2; fourth = 1; fifth = 3; sixth = 12; seventh = 13; eighth = 14; ninth = 15; reserved = unused }

abbrev identity : Numbers
identity = record { status = 0x02; packets = 1; first = 1; second = 2; third = 3; fourth = 0x284; fifth = 0x386; sixth = 8; seventh = 9; eighth = 10; ninth = 11; reserved = unused }

pub record ToldNumbers : Type 0 where
  -- the fields in the table's order, choices by their codes
  pub block-numbers : as_numbers (in_words K.FunctionBlockInfo (0xF0110B27 ∷ 0x0C0D0E0F ∷ 0 ∷ 0 ∷ [])) ≡ block
  pub block_back : said_from (from_own K.FunctionBlockInfo block) ≡ accepted (0x11 ∷ 1 ∷ 0 ∷ 11 ∷ 2 ∷ 1 ∷ 3 ∷ 12 ∷ 13 ∷ 14 ∷ 15 ∷ [])
  -- family and model are one number each, the low seven bits from the first octet
  pub identity-numbers : as_numbers (in_words K.DeviceIdentity (0xF0020000 ∷ 0x00010203 ∷ 0x04050607 ∷ 0x08090A0B ∷ [])) ≡ identity
  pub identity_back : said_from (from_own K.DeviceIdentity identity) ≡ accepted (0x02 ∷ 1 ∷ 1 ∷ 2 ∷ 3 ∷ 0x284 ∷ 0x386 ∷ 8 ∷ 9 ∷ 10 ∷ 11 ∷ [])

-- numbers of a status, asked for as a record of a kind, and as one of any fixed kind
abbrev Own : Kind → Numbers → Said → Type 0
Own k c said = said_from (from_own k c) ≡ said

abbrev Fixed : Numbers → Said → Type 0
Fixed c said = said_from (from_fixed c) ≡ said

-- a block info with this hint, port and direction
abbrev chosen : ℕ → ℕ → ℕ → Numbers
chosen h p d = numbered 0x11 1 (0 ∷ 0 ∷ h ∷ p ∷ d ∷ [])

pub record ToldFrom : Type 0 where
  -- refusal 5 before 13 and 12, also where a number is too large
  pub no_kind : Own K.FunctionBlockInfo (numbered 0x05 1 (999 ∷ [])) (refusal 5 0)
  pub no_fixed_kind : Fixed (numbered 0x13 1 (999 ∷ [])) (refusal 5 0)
  -- refusal 13 before 12: for another kind, and for a kind with text that is written
  pub other_kind : Own K.FunctionBlockInfo (numbered 0x12 1 (256 ∷ [])) (refusal 13 0)
  pub other_fixed_kind : Own K.EndpointDiscovery (numbered 0x01 1 (256 ∷ [])) (refusal 13 0)
  pub text_kind : Fixed (numbered 0x12 1 (256 ∷ [])) (refusal 13 0)
  pub text_alone : Fixed (numbered 0x03 1 []) (refusal 13 0)
  -- refusal 12 for a number above its field's largest
  pub number : Own K.FunctionBlockName (numbered 0x12 1 (256 ∷ [])) (refusal 12 0)
  pub flag : Fixed (numbered 0x00 1 (0 ∷ 0 ∷ 2 ∷ [])) (refusal 12 0)
  pub pair : Fixed (numbered 0x02 1 (0 ∷ 0 ∷ 0 ∷ 16384 ∷ [])) (refusal 12 0)
  -- and for a code that names no choice; 9 and 10 come from words only
  pub hint_four : Own K.FunctionBlockInfo (chosen 4 0 3) (refusal 12 0)
  pub port_three : Own K.FunctionBlockInfo (chosen 0 3 3) (refusal 12 0)
  pub direction_none : Fixed (chosen 0 0 0) (refusal 12 0)
  pub direction_four : Fixed (chosen 0 0 4) (refusal 12 0)
  pub named : Fixed (chosen 3 2 1) (accepted (0x11 ∷ 1 ∷ 0 ∷ 0 ∷ 3 ∷ 2 ∷ 1 ∷ 0 ∷ 0 ∷ 0 ∷ 0 ∷ []))
