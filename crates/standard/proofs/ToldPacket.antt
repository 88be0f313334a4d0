-- The examples of `Packet` and of the text place hold. Proved by computation.
use Rattle.laws.specs.First.{first, first_from}
use Rattle.laws.specs.Lists.{tabulate}
use Rattle.text.specs.Octets.{octet_of}
use Rattle.text.specs.Bytes.{text_byte, all_bytes}
use Rattle.text.specs.Place.{seek, step_at}
use Rattle.kinds.specs.Layout.{layout}
use Rattle.standard.specs.Packet.{packet_of, message_size}
use Rattle.standard.specs.Place.{offset_here}
use Rattle.standard.specs.ToldPacket.{ToldPacket, ToldPlace}

pub told_packet : ToldPacket
unfolding first first_from tabulate octet_of text_byte all_bytes seek step_at layout packet_of message_size offset_here
told_packet = search

pub told_place : ToldPlace
unfolding first first_from tabulate octet_of text_byte all_bytes seek step_at layout packet_of message_size offset_here
told_place = search
