-- A record that was read comes back from its numbers. Closed by `numbers_back`, since what was read is well-formed.
use Rattle.std.specs.Prelude.{Ok}
use Prim.Native.Nat.{ℕ}
use mathlib.Core.Path.{◌≡◌, sym, ap, ◌∙◌}
use mathlib.Core.List.{List}
use Rattle.slots.proofs.Tables.{reads-fits}
use Rattle.records.specs.declared.message.Message.{Message}
use Rattle.records.specs.Answers.{said_read}
use Rattle.records.specs.Records.{kind_in}
use Rattle.numbers.specs.Numbers.{as_numbers}
use Rattle.numbers.specs.FromNumbers.{from_own, said_from}
use Rattle.numbers.proofs.Back.{numbers_back}
use Rattle.standard.specs.Reading.{read_of}
use Rattle.standard.proofs.Formed.{read_formed}

pub read_back : (ws : List ℕ) (m : Message) → read_of ws ≡ Ok m → from_own (kind_in m) (as_numbers m) ≡ Ok m
read_back ws m e = let f = read_formed ws m e in numbers_back m (reads-fits _ _ _ (f.fields 0 f.some))

-- in document 01's numbers: what the numbers say is what reading said
pub read_said : (ws : List ℕ) (m : Message) → read_of ws ≡ Ok m → said_from (from_own (kind_in m) (as_numbers m)) ≡ said_read (read_of ws)
read_said ws m e = ap said_from (read_back ws m e) ∙ sym (ap said_read e)
