-- `digits_of` meets its contract: one digit more than the power of ten that the number reaches.
use native.Mathlib.Omega.{arith}
use mathlib.Core.Path.{sym}
use Rattle.ascii_lines.proofs.Room.{length_one, length_power}
use Rattle.ascii_lines.proofs.digits_of.Goals as goal

pub returns-in-None : goal.returns-in-None
returns-in-None c = sym (length_one _ (omega (arith, c.in-None.ensures.none)))

pub returns-in-Some : goal.returns-in-Some
returns-in-Some c = sym (length_power _ _ c.in-Some.ensures.power_le c.in-Some.ensures.next_power_gt)
