-- A message at a position of a stream, defined without the walk.
use Rattle.std.specs.Prelude.{ℕ, ◌+◌, ◌*◌, ◌≤◌, ◌≡◌, List, length}
use Rattle.counts.specs.Counts.{word}
use Rattle.counts.specs.declared.WordNumber.{WordNumber}
use Rattle.records.specs.declared.message.Message.{Message}
use Rattle.records.specs.Records.{kind_in, packets_in}
use Rattle.standard.specs.Reading.{text_at}
use Rattle.standard.specs.Walk.{part}
use Rattle.standard.specs.Formed.{Formed}

-- the words from a position on to before the next are the message m with the text t
pub record Stands (m : Message) (t ws : List ℕ) (pos : ℕ) (next : WordNumber) : Type 0 where
  pub room : pos + packets_in m * 4 ≤ length ws
  pub formed : Formed m t (part ws pos (packets_in m))
  pub after : next ≡ word (pos + packets_in m * 4)

-- the text of a message at a position
abbrev pub text_there : Message → List ℕ → ℕ → List ℕ
text_there m ws pos = text_at (kind_in m) (part ws pos (packets_in m))
