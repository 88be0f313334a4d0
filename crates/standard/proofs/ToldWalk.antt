-- The walk's examples hold. Proved by computation.
use Rattle.laws.specs.First.{first, first_from}
use Rattle.laws.specs.Lists.{tabulate, nonzero, map, each}
use Rattle.slots.specs.Slots.{get, those}
use Rattle.utf8.specs.Utf8.{due_after, first_bad}
use Rattle.text.specs.Octets.{octet_of, due_format}
use Rattle.text.specs.Bytes.{text_byte, all_bytes}
use Rattle.kinds.specs.Fields.{decided, same, start, joined}
use Rattle.kinds.specs.Layout.{layout, among, held, values_in}
use Rattle.records.specs.Records.{record_of, fields_in, lookup, first_part}
use Rattle.standard.specs.Reading.{ruled, other_field, read_body, read_kind, read_of}
use Rattle.standard.specs.Walk.{size_of, step_of, frame_packet, frame_from, frame_of, framed_of, other_of, walk_of}
use Rattle.standard.specs.ToldWalk.{ToldWalk}

pub told_walk : ToldWalk
unfolding first first_from tabulate nonzero map each get those due_after first_bad octet_of due_format text_byte all_bytes decided same start joined layout among held values_in record_of fields_in lookup first_part ruled other_field read_body read_kind read_of size_of step_of frame_packet frame_from frame_of framed_of other_of walk_of
told_walk =
    record {
      sizes = search;
      messages = search;
      framing = search;
    }
