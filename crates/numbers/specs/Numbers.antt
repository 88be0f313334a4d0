-- A RECORD AS NUMBERS: its status, its packets, and its fields in the table's order; 0 past the kind's last.
use Rattle.std.specs.Prelude.{ℕ, List, [], ◌∷◌, get_or}
use Rattle.kinds.specs.Layout.{layout}
use Rattle.records.specs.declared.message.Message.{Message}
use Rattle.records.specs.Records.{kind_in, packets_in, numbers_in}
use Rattle.numbers.specs.declared.Numbers.{Numbers}
use Rattle.numbers.specs.declared.Reserved.{Reserved}

-- the room for later fields, which no answer uses
abbrev pub unused : Reserved
unused = record { 0 = 0; 1 = 0; 2 = 0; 3 = 0; 4 = 0 }

abbrev pub numbered : ℕ → ℕ → List ℕ → Numbers
numbered s p ns =
    record {
      status = s;
      packets = p;
      first = get_or ns 0 0;
      second = get_or ns 1 0;
      third = get_or ns 2 0;
      fourth = get_or ns 3 0;
      fifth = get_or ns 4 0;
      sixth = get_or ns 5 0;
      seventh = get_or ns 6 0;
      eighth = get_or ns 7 0;
      ninth = get_or ns 8 0;
      reserved = unused;
    }

abbrev pub as_numbers : Message → Numbers
as_numbers m = numbered (layout (kind_in m)).status (packets_in m) (numbers_in m)

-- a record with one number
abbrev pub one_number : ℕ → ℕ → ℕ → Numbers
one_number s p n = numbered s p (n ∷ [])

abbrev pub no_numbers : Numbers
no_numbers = one_number 0 0 0

-- the nine numbers in order
abbrev pub nine : Numbers → List ℕ
nine c =
    c.first ∷ c.second ∷ c.third ∷ c.fourth ∷ c.fifth ∷ c.sixth ∷ c.seventh ∷ c.eighth ∷ c.ninth ∷ []
