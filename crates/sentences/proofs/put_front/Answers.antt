-- `put_front` meets its contract: what a page takes ends within it.
use mathlib.Core.Path.{ap}
use native.Mathlib.Omega.{arith}
use lib.ListN.{length}
use Rattle.ascii_lines.specs.Page.{Page, page}
use Rattle.ascii_lines.proofs.Room.{puts_within}
use Rattle.sentences.proofs.put_front.Goals as goal

pub returns-clause-within : goal.returns-clause-within
returns-clause-within c =
    let o = c.new-writer.ensures in
    let start = o.start in
    let room = ap length o.bytes in
    let end = ap (λ (s : Page). s.at) c.put_text.ensures.wrote.is in
    let within = puts_within (page c.new-writer.result.at c.new-writer.result.out.now) c.args.text.now (omega (arith, start)) in
    let told = c.end.ensures in
    omega (arith, told, end, within, room)
