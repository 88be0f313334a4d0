-- Document 01's number and place of each refusal; the place is 0 where it has none.
use Rattle.std.specs.Prelude.{ℕ}
use Rattle.kinds.specs.declared.refusal.Refusal.{Refusal}
use Rattle.kinds.specs.declared.refusal.Refusal.TheVariants.{TooFewWords, NotWholePackets, TooManyPackets, WrongType, UnknownStatus, StatusDiffers, WrongFormat, BlockNumberDiffers, BadPort, BadDirection, NotUtf8, NumberTooLarge, NoSuchField, NoRoom}

abbrev pub refusal_number : Refusal → ℕ
refusal_number TooFewWords = 1
refusal_number NotWholePackets = 2
refusal_number TooManyPackets = 3
refusal_number (WrongType p) = 4
refusal_number UnknownStatus = 5
refusal_number (StatusDiffers p) = 6
refusal_number (WrongFormat p) = 7
refusal_number (BlockNumberDiffers p) = 8
refusal_number BadPort = 9
refusal_number BadDirection = 10
refusal_number NotUtf8 = 11
refusal_number NumberTooLarge = 12
refusal_number NoSuchField = 13
refusal_number NoRoom = 14

abbrev pub refusal_place : Refusal → ℕ
refusal_place TooFewWords = 0
refusal_place NotWholePackets = 0
refusal_place TooManyPackets = 0
refusal_place (WrongType p) = p.0
refusal_place UnknownStatus = 0
refusal_place (StatusDiffers p) = p.0
refusal_place (WrongFormat p) = p.0
refusal_place (BlockNumberDiffers p) = p.0
refusal_place BadPort = 0
refusal_place BadDirection = 0
refusal_place NotUtf8 = 0
refusal_place NumberTooLarge = 0
refusal_place NoSuchField = 0
refusal_place NoRoom = 0
