-- What computes the numbers of a record at a kind.
use Rattle.laws.specs.Lists.{each}
use Rattle.kinds.specs.Fields.{same, decided}
use Rattle.kinds.specs.Layout.{layout}
use Rattle.records.specs.Records.{fields_in, lookup, first_part}

-- to unfold this is to unfold what computes the numbers of a record at a kind
unfoldable pub of_record : Unit {0}
unfolding each layout first_part fields_in lookup same decided
of_record = tt
