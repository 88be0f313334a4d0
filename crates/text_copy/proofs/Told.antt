-- The examples of copying hold. Proved by computation.
use Rattle.laws.specs.First.{first, first_from}
use Rattle.laws.specs.Lists.{tabulate, nonzero, map}
use Rattle.slots.specs.Slots.{get, those}
use Rattle.utf8.specs.Utf8.{due_after, first_bad}
use Rattle.text.specs.Octets.{octet_of, due_format}
use Rattle.text.specs.Bytes.{text_byte, all_bytes}
use Rattle.kinds.specs.Fields.{decided, same, start, joined}
use Rattle.kinds.specs.Layout.{layout, among, held, values_in}
use Rattle.records.specs.Records.{record_of}
use Rattle.standard.specs.Reading.{ruled, other_field, read_body, read_kind, read_of}
use Rattle.text_copy.specs.Copied.{copy_on}
use Rattle.text_copy.specs.Told.{ToldCopies}

pub told_copies : ToldCopies
unfolding first first_from tabulate nonzero map get those due_after first_bad octet_of due_format text_byte all_bytes decided same start joined layout among held values_in record_of ruled other_field read_body read_kind read_of copy_on
told_copies = search
