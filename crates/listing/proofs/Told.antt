-- The listing's examples hold. Proved by computation; its longest input, and one that is too long, by the test of the length.
use Prim.Native.Nat.{ℕ, ◌/◌, ◌%◌}
use mathlib.Core.Path.{◌≡◌, refl, sym, ap}
use mathlib.Core.List.{List, ◌++◌}
use native.Mathlib.Omega.{arith}
use lib.ListN.{length}
use borrow.Author.Tests.{le-ltb}
use Rattle.laws.specs.Pick.{both}
use Rattle.laws.specs.First.{first, first_from}
use Rattle.laws.specs.Lists.{tabulate, nonzero, map, each}
use Rattle.laws.proofs.Pick.{past}
use Rattle.slots.specs.Slots.{get, those}
use Rattle.utf8.specs.Utf8.{due_after, first_bad}
use Rattle.text.specs.Octets.{octet_of, due_format}
use Rattle.text.specs.Bytes.{text_byte, all_bytes}
use Rattle.kinds.specs.Fields.{decided, same, start, joined}
use Rattle.kinds.specs.Layout.{layout, among, held, values_in}
use Rattle.records.specs.Records.{record_of, fields_in, lookup, first_part}
use Rattle.standard.specs.Reading.{ruled, other_field, read_body, read_kind, read_of}
use Rattle.standard.specs.Walk.{size_of, step_of, frame_packet, frame_from, frame_of, framed_of, other_of, walk_of}
use Rattle.walking.specs.Visits.{visits}
use Rattle.ascii_lines.specs.Ascii.{ascii}
use Rattle.ascii_lines.specs.Numbers.{decimal_in, decimal, hex_or_dash}
use Rattle.sentences.specs.Sentences.{kind_name}
use Rattle.listing.specs.Lines.{end_line}
use Rattle.listing.specs.Listing.{words_of, lines_of, listing_of}
use Rattle.listing.specs.Told.{ToldListing}
use Rattle.listing.proofs.Room.{too_long}

longest : (bytes : List ℕ) → length bytes ≡ 32768 → lines_of (words_of bytes) ++ ascii "end 8192 0\n" ≡ listing_of bytes
unfolding each decimal_in decimal listing_of
longest bytes e =
    past _ (le-ltb 32768 (length bytes) (omega (arith, e))) (ap (λ n. lines_of (words_of bytes) ++ end_line (n / 4) (n % 4)) (sym e))

pub told_listing : ToldListing
unfolding both first first_from tabulate nonzero map each get those due_after first_bad octet_of due_format text_byte all_bytes decided same start joined layout among held values_in record_of fields_in lookup first_part ruled other_field read_body read_kind read_of size_of step_of frame_packet frame_from frame_of framed_of other_of walk_of decimal_in decimal hex_or_dash kind_name visits words_of listing_of
told_listing =
    record {
      every_kind = refl;
      words = refl;
      nothing = refl;
      left_over = refl;
      cut = refl;
      longest = λ bytes e. sym (longest bytes e);
      too_long = λ bytes h. sym (too_long bytes h);
      one_message = refl;
      one_refusal = refl;
    }
