-- The examples, computed.
use Rattle.laws.specs.Pick.{both}
use Rattle.laws.specs.First.{first, first_from}
use Rattle.laws.specs.Lists.{tabulate, up_to, nonzero, map, each}
use Rattle.slots.specs.Slots.{get, put, put_all, those, fits}
use Rattle.utf8.specs.Utf8.{due_after, first_bad}
use Rattle.text.specs.Octets.{octet_of, needed, due_format}
use Rattle.text.specs.Written.{head_octet, octet_at, word_in, word_new, written, blank, each_first}
use Rattle.text.specs.Bytes.{text_byte, all_bytes}
use Rattle.kinds.specs.Fields.{decided, same, start, part_of, joined}
use Rattle.kinds.specs.Layout.{layout, among, held, values_in}
use Rattle.records.specs.Records.{record_of, fields_in, lookup, first_part}
use Rattle.records.specs.Settings.{set_record}
use Rattle.numbers.specs.FromNumbers.{spread, from_kind}
use Rattle.standard.specs.Reading.{ruled, other_field, read_body, read_kind, read_of}
use Rattle.standard.specs.Walk.{size_of, step_of, frame_packet, frame_from, frame_of, framed_of, other_of, walk_of}
use Rattle.standard.specs.Words.{fresh, fresh_on, put_word, encode_in, encode, answer_to, act_in, set_message, set_on, write_on}
use Rattle.frayedbin.specs.Told.{ToldCodes, ToldRecords, ToldTypes}

-- to unfold this is to unfold all that computes a call
unfoldable facts : Unit {0}
unfolding both first first_from tabulate up_to nonzero map each get put put_all those fits due_after first_bad octet_of needed due_format head_octet octet_at word_in word_new written blank each_first text_byte all_bytes decided same start part_of joined layout among held values_in record_of fields_in lookup first_part set_record spread from_kind ruled other_field read_body read_kind read_of size_of step_of frame_packet frame_from frame_of framed_of other_of walk_of fresh fresh_on put_word encode_in encode answer_to act_in set_message set_on write_on
facts = tt

pub told_codes : ToldCodes
unfolding facts
told_codes = search

pub told_records : ToldRecords
unfolding facts
told_records = search

pub told_types : ToldTypes
unfolding map
told_types = search
