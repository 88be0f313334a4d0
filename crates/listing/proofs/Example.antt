-- Document 01's example of a listing. Closed by computation.
use Prim.Native.Nat.{ℕ}
use mathlib.Core.Path.{◌≡◌, refl}
use mathlib.Core.List.{List, [], ◌∷◌, ◌++◌}
use Rattle.laws.specs.Pick.{both}
use Rattle.laws.specs.First.{first, first_from}
use Rattle.laws.specs.Lists.{tabulate, nonzero, map, each}
use Rattle.slots.specs.Slots.{get, those}
use Rattle.utf8.specs.Utf8.{due_after, first_bad}
use Rattle.text.specs.Octets.{octet_of, due_format}
use Rattle.text.specs.Bytes.{text_byte, all_bytes}
use Rattle.kinds.specs.Fields.{decided, same, start, joined}
use Rattle.kinds.specs.Layout.{layout, among, held, values_in}
use Rattle.records.specs.Records.{record_of, fields_in, lookup, first_part}
use Rattle.standard.specs.Reading.{ruled, other_field, read_body, read_kind, read_of}
use Rattle.standard.specs.Walk.{size_of, step_of, frame_packet, frame_from, frame_of, framed_of, other_of, walk_of}
use Rattle.walking.specs.Visits.{visits}
use Rattle.ascii_lines.specs.Ascii.{ascii}
use Rattle.ascii_lines.specs.Numbers.{decimal_in, decimal, hex_or_dash}
use Rattle.sentences.specs.Sentences.{kind_name}
use Rattle.listing.specs.Listing.{words_of, listing_of}
use Rattle.listing.specs.Told.{octets}

abbrev bytes : List ℕ
bytes = each octets (0x10F80000 ∷ 0xF0118301 ∷ 0x02010000 ∷ 0 ∷ 0 ∷ 0xF0120541 ∷ 0 ∷ 0 ∷ 0 ∷ 0xF0110000 ∷ 0 ∷ 0 ∷ 0 ∷ [])

abbrev lines : List ℕ
lines =
    ascii "0 other 1 1\n"
    ++ ascii "1 function-block-info 1 1 3 0 0 1 2 1 0 0\n"
    ++ ascii "5 function-block-name 1 5 41\n"
    ++ ascii "9 refused 10 0\n"
    ++ ascii "end 13 0\n"

pub example : listing_of bytes ≡ lines
unfolding both first first_from tabulate nonzero map each get those due_after first_bad octet_of due_format text_byte all_bytes decided same start joined layout among held values_in record_of fields_in lookup first_part ruled other_field read_body read_kind read_of size_of step_of frame_packet frame_from frame_of framed_of other_of walk_of decimal_in decimal hex_or_dash kind_name visits words_of listing_of
example = refl
