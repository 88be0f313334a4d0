-- The twelve cases hold. Proved by computation.
use mathlib.Core.Path.{refl}
use Rattle.laws.specs.Pick.{both}
use Rattle.laws.specs.First.{first, first_from}
use Rattle.laws.specs.Lists.{tabulate, up_to, nonzero, map, each}
use Rattle.slots.specs.Slots.{get, put, put_all, those, fits}
use Rattle.utf8.specs.Utf8.{due_after, first_bad}
use Rattle.text.specs.Octets.{octet_of, needed, due_format}
use Rattle.text.specs.Written.{head_octet, octet_at, word_in, word_new, written, blank, each_first}
use Rattle.text.specs.Bytes.{text_byte, all_bytes}
use Rattle.kinds.specs.Fields.{decided, same, start, part_of, joined}
use Rattle.kinds.specs.Layout.{layout, among, held, values_in}
use Rattle.records.specs.Records.{record_of, fields_in, lookup, first_part}
use Rattle.standard.specs.Reading.{ruled, other_field, read_body, read_kind, read_of}
use Rattle.standard.specs.Walk.{step_of, frame_packet, frame_from, frame_of, framed_of, walk_of}
use Rattle.standard.specs.Words.{fresh, put_word, answer_to, act_in, set_message, set_on}
use Rattle.standard.specs.Lists.{set_all}
use Rattle.standard.specs.Cases.{Twelve}

pub twelve : Twelve
unfolding both first first_from tabulate up_to nonzero map each get put put_all those fits due_after first_bad octet_of needed due_format head_octet octet_at word_in word_new written blank each_first text_byte all_bytes decided same start part_of joined layout among held values_in record_of fields_in lookup first_part ruled other_field read_body read_kind read_of step_of frame_packet frame_from frame_of framed_of walk_of fresh put_word answer_to act_in set_message set_on set_all
twelve =
    record {
      case1 = record { writes = refl; reads = refl; says = refl };
      case2 = record { writes = refl; reads = refl; says = refl };
      case3 = record { writes = refl; reads = refl; says = refl };
      case4 = record { writes = refl; reads = refl; says = refl };
      case5 = record { writes = refl; reads = refl; says = refl };
      case6 = record { writes = refl; reads = refl; says = refl };
      case7 = record { writes = refl; reads = refl; says = refl };
      case8 = refl;
      case9 = (refl, refl);
      case10 = refl;
      case11 = record { writes = refl; reads = refl; says = refl };
      case12 = refl;
    }
