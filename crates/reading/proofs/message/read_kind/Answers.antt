-- `message::read_kind` meets its contract, rule by rule.
use mathlib.Core.Path.{refl}
use borrow.Author.Rules.{rules}
use borrow.Author.Tests.{lt-ltb, le-ltb}
use Rattle.laws.proofs.Pick.{here, past}
use Rattle.standard.specs.Reading.{other_status, other_format, read_kind}
use Rattle.reading.specs.Bodies.{fields_read}
use Rattle.reading.proofs.Search.{ruled_found, ruled_none}
use Rattle.reading.proofs.message.read_kind.Goals as goal

pub returns-in-Some : goal.returns-in-Some
unfolding read_kind
returns-in-Some c = ruled_found _ _ _ _ (c.in-Some.ensures (other_status c.args.words.now) (λ p b h a. search rules))

pub returns-then-most_packets-n : goal.returns-then-most_packets-n
unfolding read_kind
returns-then-most_packets-n c =
    ruled_none _ _ _ _ (c.in_default.ensures (other_status c.args.words.now) (λ p b h a. search rules))
    (here _ (lt-ltb _ _ (rw (c.most_packets.ensures, c.packets_of-n.ensures) at c.if-most_packets-n.true)) refl)

pub returns-in-Some-first_packet : goal.returns-in-Some-first_packet
unfolding read_kind
returns-in-Some-first_packet c =
    ruled_none _ _ _ _ (c.in_default.ensures (other_status c.args.words.now) (λ p b h a. search rules))
    (past _ (le-ltb _ _ (rw (c.most_packets.ensures, c.packets_of-n.ensures) at c.if-most_packets-n.false))
    (ruled_found _ _ _ _ (c.in-Some-first_packet.ensures (other_format c.args.words.now) (λ p b h a. search rules))))

pub returns : goal.returns
unfolding read_kind fields_read
returns c =
    ruled_none _ _ _ _ (c.in_default.ensures (other_status c.args.words.now) (λ p b h a. search rules))
    (past _ (le-ltb _ _ (rw (c.most_packets.ensures, c.packets_of-n.ensures) at c.if-most_packets-n.false))
    (ruled_none _ _ _ _ (c.in_default-first_packet.ensures (other_format c.args.words.now) (λ p b h a. search rules)) c.read_fields.ensures))
