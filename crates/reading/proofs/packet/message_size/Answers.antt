-- `packet::message_size` meets its contract: what the search found, or did not.
use native.Mathlib.Omega.{arith}
use borrow.Author.Rules.{rules}
use Rattle.standard.specs.Packet.{ends_message}
use Rattle.reading.specs.Rules.{ends}
use Rattle.reading.proofs.Search.{size_room, size_found, size_none}
use Rattle.reading.proofs.packet.message_size.Goals as goal

pub returns-in_default : goal.returns-in_default
unfolding ends
returns-in_default c = size_none c.args.words.now (c.in_default.ensures (ends_message c.args.words.now) (λ p b h a. search rules))

pub overflow_add-last : goal.overflow_add-last
unfolding ends
overflow_add-last c = let r = size_room c.args.words.now (c.in-Some.ensures (ends_message c.args.words.now) (λ p b h a. search rules)) in omega (arith, r)

pub returns : goal.returns
unfolding ends
returns c = size_found c.args.words.now (c.in-Some.ensures (ends_message c.args.words.now) (λ p b h a. search rules)) c.first_word.ensures (omega arith)
