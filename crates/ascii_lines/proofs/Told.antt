-- The examples, computed.
use Rattle.laws.specs.Lists.{each}
use Rattle.ascii_lines.specs.Numbers.{decimal_in, decimal, hex_or_dash}
use Rattle.ascii_lines.specs.Told.{ToldLines}

pub told_lines : ToldLines
unfolding each decimal_in decimal hex_or_dash
told_lines = search
