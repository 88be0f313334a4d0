-- The codes of the named choices, and the choice of a code.
use Rattle.std.specs.Prelude.{ℕ, ltb, eqb, Result, Ok, Err}
use Rattle.laws.specs.Pick.{pick}
use Rattle.kinds.specs.declared.choices.UiHint.{UiHint}
use Rattle.kinds.specs.declared.choices.UiHint.TheVariants as H
use Rattle.kinds.specs.declared.choices.Midi1Port.{Midi1Port}
use Rattle.kinds.specs.declared.choices.Midi1Port.TheVariants as P
use Rattle.kinds.specs.declared.choices.Direction.{Direction}
use Rattle.kinds.specs.declared.choices.Direction.TheVariants as D
use Rattle.kinds.specs.declared.choices.NoChoice.{NoChoice}
use Rattle.kinds.specs.declared.choices.Format.{Format}
use Rattle.kinds.specs.declared.choices.Format.TheVariants as F

-- hint: 0 undeclared, 1 receiver, 2 sender, 3 both
abbrev pub hint_code : UiHint → ℕ
hint_code H.Undeclared = 0
hint_code H.Receiver = 1
hint_code H.Sender = 2
hint_code H.SenderReceiver = 3

abbrev pub hint_of : ℕ → UiHint
hint_of n = pick (eqb n 0) H.Undeclared (pick (eqb n 1) H.Receiver (pick (eqb n 2) H.Sender H.SenderReceiver))

-- port: 0 none, 1 unrestricted, 2 restricted; 3 is no port
abbrev pub port_code : Midi1Port → ℕ
port_code P.None = 0
port_code P.DontRestrictBandwidth = 1
port_code P.RestrictBandwidth = 2

abbrev pub port_of : ℕ → Midi1Port
port_of n = pick (eqb n 0) P.None (pick (eqb n 1) P.DontRestrictBandwidth P.RestrictBandwidth)

abbrev pub no_port : ℕ
no_port = 3

-- direction: 1 input, 2 output, 3 both; 0 is no direction
abbrev pub direction_code : Direction → ℕ
direction_code D.Input = 1
direction_code D.Output = 2
direction_code D.Bidirectional = 3

abbrev pub direction_of : ℕ → Direction
direction_of n = pick (eqb n 1) D.Input (pick (eqb n 2) D.Output D.Bidirectional)

abbrev pub no_direction : ℕ
no_direction = 0

-- format: 0 complete, 1 start, 2 continue, 3 end
abbrev pub format_code : Format → ℕ
format_code F.Complete = 0
format_code F.Start = 1
format_code F.Continue = 2
format_code F.End = 3

abbrev pub format_from : ℕ → Format
format_from n = pick (eqb n 0) F.Complete (pick (eqb n 1) F.Start (pick (eqb n 2) F.Continue F.End))

-- ---- a choice from its code, or that the code names none: none has a code above 3, nor is 3 a port or 0 a direction
abbrev unnamed : {A : Type 0} → Result A NoChoice
unnamed = Err (record {})

abbrev pub hint_from_code : ℕ → Result UiHint NoChoice
hint_from_code n = pick (ltb 3 n) unnamed (Ok (hint_of n))

abbrev pub port_from_code : ℕ → Result Midi1Port NoChoice
port_from_code n = pick (ltb 3 n) unnamed (pick (eqb n no_port) unnamed (Ok (port_of n)))

abbrev pub direction_from_code : ℕ → Result Direction NoChoice
direction_from_code n = pick (ltb 3 n) unnamed (pick (eqb n no_direction) unnamed (Ok (direction_of n)))
