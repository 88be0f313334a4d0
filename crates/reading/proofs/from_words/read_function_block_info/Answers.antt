-- `from_words::read_function_block_info` meets its contract, by the laws of `Choices` and `Bodies`.
use mathlib.Core.Path.{ap, ◌∙◌}
use native.Mathlib.Omega.{arith}
use Rattle.kinds.specs.Choices.{port_from_code, direction_from_code}
use Rattle.reading.proofs.Choices.{port_named, no_port_named, direction_named, no_direction_named}
use Rattle.reading.proofs.Bodies.{from_words, port_in, direction_in, port_refused, direction_refused, info_body}
use Rattle.reading.proofs.from_words.read_function_block_info.Goals as goal

pub returns-in_default : goal.returns-in_default
unfolding from_words
returns-in_default c = port_refused c.args.words.now (no_port_named (port_in c.args.words.now) (omega arith) (c.in_default.ensures ∙ ap port_from_code c.crumb.ensures))

pub returns-in_default-try_from : goal.returns-in_default-try_from
unfolding from_words
returns-in_default-try_from c =
    let port = port_named (port_in c.args.words.now) (c.in-Ok.ensures ∙ ap port_from_code c.crumb.ensures) in
    direction_refused c.args.words.now port.0 (no_direction_named (direction_in c.args.words.now) (omega arith) (c.in_default-try_from.ensures ∙ ap direction_from_code c.crumb-2.ensures))

pub returns : goal.returns
unfolding from_words
returns c =
    let midi1_port = port_named (port_in c.args.words.now) (c.in-Ok.ensures ∙ ap port_from_code c.crumb.ensures) in
    let direction = direction_named (direction_in c.args.words.now) (c.in-Ok-try_from.ensures ∙ ap direction_from_code c.crumb-2.ensures) in
    info_body c.args.words.now midi1_port.0 direction.0
    (rw (c.bit.ensures, c.septet.ensures, c.hint_of_valid_code.ensures, c.crumb-3.ensures, midi1_port.1, direction.1, c.nibble.ensures, c.octet.ensures, c.octet-2.ensures, c.octet-3.ensures))
