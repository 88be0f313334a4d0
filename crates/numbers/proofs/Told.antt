-- The examples, computed.
use Rattle.laws.specs.Pick.{both}
use Rattle.laws.specs.Lists.{map, each}
use Rattle.slots.specs.Slots.{get, those, fits}
use Rattle.kinds.specs.Fields.{decided, same, start, part_of, joined}
use Rattle.kinds.specs.Layout.{layout, among, held, values_in}
use Rattle.records.specs.Records.{record_of, fields_in, lookup, first_part}
use Rattle.numbers.specs.FromNumbers.{spread, from_kind}
use Rattle.numbers.specs.Told.{ToldNumbers, ToldFrom}

pub told_numbers : ToldNumbers
unfolding both map each get those fits decided same start part_of joined layout among held values_in record_of fields_in lookup first_part spread from_kind
told_numbers = search

pub told_from : ToldFrom
unfolding both map each get those fits decided same start part_of joined layout among held values_in record_of fields_in lookup first_part spread from_kind
told_from = search
