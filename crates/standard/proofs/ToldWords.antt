-- The examples of fresh messages, settings on words and writing hold. Proved by computation: by one search each, or a field at a time where the search would take too many steps.
use mathlib.Core.Path.{refl}
use Rattle.laws.specs.Pick.{both}
use Rattle.laws.specs.First.{first, first_from}
use Rattle.laws.specs.Lists.{tabulate, up_to, nonzero, map, each}
use Rattle.slots.specs.Slots.{get, put, put_all, those, fits}
use Rattle.utf8.specs.Utf8.{due_after, first_bad}
use Rattle.text.specs.Octets.{octet_of, needed, due_format}
use Rattle.text.specs.Written.{head_octet, octet_at, word_in, word_new, written, blank, each_first}
use Rattle.text.specs.Bytes.{text_byte, all_bytes}
use Rattle.kinds.specs.Fields.{decided, same, start, part_of, joined}
use Rattle.kinds.specs.Layout.{layout, among, held, values_in}
use Rattle.records.specs.Records.{record_of, fields_in, lookup}
use Rattle.standard.specs.Reading.{ruled, other_field, read_body, read_kind, read_of}
use Rattle.standard.specs.Walk.{size_of, step_of, frame_packet, frame_from, frame_of, framed_of, other_of, walk_of}
use Rattle.standard.specs.Words.{fresh, fresh_on, put_word, encode_in, encode, answer_to, act_in, set_message, set_on, write_on}
use Rattle.standard.specs.Lists.{set_all, answer_all, last_accepted, only_field}
use Rattle.standard.specs.ToldWords.{ToldWords}

pub told_words : ToldWords
unfolding both first first_from tabulate up_to nonzero map each get put put_all those fits due_after first_bad octet_of needed due_format head_octet octet_at word_in word_new written blank each_first text_byte all_bytes decided same start part_of joined layout among held values_in record_of fields_in lookup ruled other_field read_body read_kind read_of size_of step_of frame_packet frame_from frame_of framed_of other_of walk_of fresh fresh_on put_word encode_in encode answer_to act_in set_message set_on write_on set_all answer_all last_accepted only_field
told_words =
    record {
      fresh = search;
      fields =
          record {
            flag_off = (refl, refl);
            flag_on = (refl, refl);
            number = (refl, refl);
            four_bits = (refl, refl);
            in_word_0 = (refl, refl);
            hint = (refl, refl);
            port = (refl, refl);
            direction = (refl, refl);
            manufacturer = (refl, refl);
            family = (refl, refl);
            model = (refl, refl);
            version = (refl, refl);
            words_after = (refl, refl);
          };
      texts = search;
      limits =
          record {
            seven = (refl, refl);
            above_seven = (refl, refl);
            eight = (refl, refl);
            above_eight = (refl, refl);
            fourteen = (refl, refl);
            above_fourteen = (refl, refl);
            four = (refl, refl);
            above_four = (refl, refl);
            manufacturer = (refl, refl);
            version = (refl, refl);
            block-name = (refl, refl);
          };
      room =
          record {
            offset_0 = (refl, refl);
            offset_1 = (refl, refl);
            two_packets = (refl, refl);
            sixty_four_at_0 = (refl, refl);
            sixty_four_at_1 = (refl, refl);
          };
      settings = search;
      lists = search;
      writing = search;
    }
