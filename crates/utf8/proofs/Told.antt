-- UTF-8 is as told. Proved by computation.
use Rattle.laws.specs.Lists.{map, nonzero}
use Rattle.utf8.specs.Utf8.{due_after, first_bad}
use Rattle.utf8.specs.Scan.{leading_ones, length_by_ones, char_length, second_low, second_high, after_first_byte}
use Rattle.utf8.specs.Told.{ToldUtf8}

pub told_utf8 : ToldUtf8
unfolding map nonzero due_after first_bad leading_ones length_by_ones char_length second_low second_high after_first_byte
told_utf8 = search
