-- The seven kinds and the refusal numbers are as told. Proved by computation.
use Rattle.laws.specs.Pick.{both}
use Rattle.laws.specs.Lists.{map}
use Rattle.slots.specs.Slots.{get, put, put_all, those, fits}
use Rattle.kinds.specs.Fields.{decided, same, start, part_of, joined}
use Rattle.kinds.specs.Layout.{layout, among, held, values_in}
use Rattle.kinds.specs.Told.{ToldTable, ToldLargest, ToldChoices, ToldTextKinds, ToldRefusalNumbers}

pub told_table : ToldTable
unfolding both map get put put_all those fits decided same start part_of joined layout among held values_in
told_table = search

pub told_largest : ToldLargest
unfolding both map get put put_all those fits decided same start part_of joined layout among held values_in
told_largest = search

pub told_choices : ToldChoices
unfolding map
told_choices = search

pub told_text_kinds : ToldTextKinds
unfolding map decided same layout
told_text_kinds = search

pub told_refusal_numbers : ToldRefusalNumbers
told_refusal_numbers = search
