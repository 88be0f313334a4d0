-- ONE NUMBER OF A RECORD SET among its numbers, for a record of one packet.
use Rattle.std.specs.Prelude.{ℕ, ltb, eqb, Result, Ok, Err}
use Rattle.laws.specs.Pick.{pick}
use Rattle.numbers.specs.declared.Numbers.{Numbers}
use Rattle.numbers.specs.Numbers.{unused}
use Rattle.records.specs.declared.message.Message.{Message}
use Rattle.kinds.specs.declared.refusal.Refusal.{Refusal}

-- what the numbers give is a record, or why not
abbrev pub checked : Result Message Refusal → Result (Unit {0}) Refusal
checked (Ok m) = Ok tt
checked (Err r) = Err r

-- number i after number `at` of `count` is set to x: 0 past the last
abbrev pub number_now : ℕ → ℕ → ℕ → ℕ → ℕ → ℕ
number_now count at x i old = pick (eqb i at) x (pick (ltb i count) old 0)

abbrev pub with_number : ℕ → ℕ → ℕ → Numbers → Numbers
with_number count at x c =
    record {
      status = c.status;
      packets = 1;
      first = number_now count at x 0 c.first;
      second = number_now count at x 1 c.second;
      third = number_now count at x 2 c.third;
      fourth = number_now count at x 3 c.fourth;
      fifth = number_now count at x 4 c.fifth;
      sixth = number_now count at x 5 c.sixth;
      seventh = number_now count at x 6 c.seventh;
      eighth = number_now count at x 7 c.eighth;
      ninth = number_now count at x 8 c.ninth;
      reserved = unused;
    }
