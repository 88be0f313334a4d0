-- `message::read_rules` meets its contract: the first rule, and what the kind gives.
use borrow.Author.Rules.{rules}
use Rattle.standard.specs.Reading.{other_type}
use Rattle.reading.specs.Bodies.{rules_read}
use Rattle.reading.proofs.Search.{ruled_found, ruled_none}
use Rattle.reading.proofs.message.read_rules.Goals as goal

pub returns-in-Some : goal.returns-in-Some
unfolding rules_read
returns-in-Some c = ruled_found _ _ _ _ (c.in-Some.ensures (other_type c.args.words.now) (λ p b h a. search rules))

pub returns-in_default-kind_of : goal.returns-in_default-kind_of
unfolding rules_read
returns-in_default-kind_of c = ruled_none _ _ _ _ (c.in_default.ensures (other_type c.args.words.now) (λ p b h a. search rules)) (rw (← c.status_of.ensures, ← c.kind_of.ensures, c.in_default-kind_of.is))

pub returns : goal.returns
unfolding rules_read
returns c = ruled_none _ _ _ _ (c.in_default.ensures (other_type c.args.words.now) (λ p b h a. search rules)) (rw (← c.status_of.ensures, ← c.kind_of.ensures, c.in-Some-kind_of.is) c.read_kind.ensures)
