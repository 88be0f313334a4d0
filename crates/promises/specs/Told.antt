-- EACH RULE OF DOCUMENT 01, TOLD BY EXAMPLES in literal words and numbers: a part for each section, from the crate of the definitions that it tells of. The parts of the listing, of whole texts, of sentences and of the calls from C stand in their crates.
use Rattle.utf8.specs.Told.{ToldUtf8}
use Rattle.text.specs.Told.{ToldTextPackets}
use Rattle.kinds.specs.Told.{ToldTable, ToldLargest, ToldChoices, ToldTextKinds, ToldRefusalNumbers}
use Rattle.records.specs.Told.{ToldRecords, ToldNames, ToldChains, ToldSettings as ToldRecordSettings, ToldLimits as ToldRecordLimits, ToldLargest as ToldRecordLargest}
use Rattle.numbers.specs.Told.{ToldNumbers, ToldFrom}
use Rattle.standard.specs.ToldReading.{ToldKinds, ToldText, ToldRefusals, ToldOrder}
use Rattle.standard.specs.ToldWalk.{ToldSizes, ToldMessages, ToldFraming}
use Rattle.standard.specs.ToldPacket.{ToldPacket, ToldPlace}
use Rattle.standard.specs.ToldWords.{ToldFresh, ToldFields, ToldTexts, ToldLimits, ToldRoom, ToldSettings, ToldLists, ToldWriting}

pub record Told : Type 0 where
  -- The seven kinds: the table field by field, what is read by it, choices by name, a record and its numbers
  pub table : ToldTable
  pub choices : ToldChoices
  pub text_kinds : ToldTextKinds
  pub kinds : ToldKinds
  pub records : ToldRecords
  pub names : ToldNames
  pub numbers : ToldNumbers
  pub from_numbers : ToldFrom
  -- Text: in packets, its bytes one at a time, UTF-8
  pub text_packets : ToldTextPackets
  pub utf8 : ToldUtf8
  pub text : ToldText
  pub place : ToldPlace
  -- Reading one message, and walking a stream: refusals, their order, sizes, next positions, Packet
  pub refusals : ToldRefusals
  pub order : ToldOrder
  pub sizes : ToldSizes
  pub messages : ToldMessages
  pub framing : ToldFraming
  pub packet : ToldPacket
  -- Fresh messages and settings: on words, on a record, in lists, and writing a record
  pub fresh : ToldFresh
  pub fields : ToldFields
  pub texts : ToldTexts
  pub settings : ToldSettings
  pub lists : ToldLists
  pub record_settings : ToldRecordSettings
  pub chains : ToldChains
  pub writing : ToldWriting
  -- Refusal numbers, with their places and the largest numbers
  pub refusal-numbers : ToldRefusalNumbers
  pub largest : ToldLargest
  pub limits : ToldLimits
  pub room : ToldRoom
  pub record_limits : ToldRecordLimits
  pub record_largest : ToldRecordLargest
