-- Text in packets is as told. Proved by computation.
use Rattle.laws.specs.Lists.{tabulate, up_to, nonzero, map}
use Rattle.text.specs.Octets.{octet_of, needed, due_format}
use Rattle.text.specs.Written.{head_octet, octet_at, word_in, word_new, written, blank, each_first}
use Rattle.text.specs.Bytes.{text_byte, all_bytes}
use Rattle.text.specs.Place.{byte_at, seek, step_at}
use Rattle.text.specs.BigEndian.{big_endian_at}
use Rattle.text.specs.Told.{ToldTextPackets}

pub told_text_packets : ToldTextPackets
unfolding tabulate up_to nonzero map octet_of needed due_format head_octet octet_at word_in word_new written blank each_first text_byte all_bytes byte_at seek step_at big_endian_at
told_text_packets = search
