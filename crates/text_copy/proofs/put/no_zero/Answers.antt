-- `put::no_zero` meets its contract.
use Rattle.std.proofs.Common.{◌≡◌, ◌==◌, not, rules}
use Rattle.std.specs.List.{list_all}
use Rattle.std.specs.Int.{w32, to_be_bytes}
use Rattle.text_copy.proofs.Packets.{be_octets, none_zero}
use Rattle.text_copy.proofs.put.no_zero.Goals as goal

pub returns : goal.returns
returns c t =
    let e : c.all.result ≡ list_all (λ x. not (x == 0)) (to_be_bytes w32 c.args.w) = search rules in
    rw be_octets at (none_zero (to_be_bytes w32 c.args.w) (rw e at t))
