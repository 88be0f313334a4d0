-- A message that one pass sees is the target that the walk finds. Closed by reading its own words, and the walk of what is well formed.
use Rattle.std.specs.Prelude.{Some, Ok}
use Prim.Native.Nat.{ℕ, ◌*◌, ◌≤◌}
use mathlib.Core.Path.{◌≡◌, sym, ap, subst}
use mathlib.Core.List.{List}
use native.Mathlib.Omega.{arith}
use native.Mathlib.Nat.{zero-add}
use lib.ListN.{length, take}
use lib.Seq.{length-take-le}
use Rattle.laws.proofs.Pick.{past, eq_differ}
use Rattle.counts.specs.Counts.{packet}
use Rattle.counts.specs.declared.PacketNumber.{PacketNumber}
use Rattle.kinds.specs.declared.kind.Kind.{Kind}
use Rattle.kinds.specs.Layout.{layout, kind_of}
use Rattle.kinds.proofs.Rows.{status_kind}
use Rattle.records.specs.declared.message.Message.{Message}
use Rattle.records.specs.Records.{kind_in, packets_in}
use Rattle.standard.specs.Heads.{status_of, head_at, packets_of}
use Rattle.standard.specs.Reading.{text_at, message_at, values_at}
use Rattle.standard.specs.Formed.{Formed}
use Rattle.standard.specs.Walk.{part, walk_of}
use Rattle.records.proofs.Records.{record_kind}
use Rattle.standard.proofs.Formed.{read_formed}
use Rattle.standard.proofs.Walks.{formed_walk}
use Rattle.reading.specs.OnePass.{text_packets}
use Rattle.reading.proofs.HeadedRead.{text_room, text_read}
use Rattle.settings.specs.Target.{own_in, target_of}

module _ (k : Kind) (ws : List ℕ) (n : PacketNumber) (own : status_of (head_at ws 0) ≡ (layout k).status) (e : text_packets k ws ≡ Some n) where
  room : n.0 * 4 ≤ length ws
  room = text_room k ws n e

  -- its own words
  abbrev front : List ℕ
  front = take (n.0 * 4) ws

  long : length front ≡ n.0 * 4
  long = length-take-le (n.0 * 4) ws room

  known : kind_of (status_of (head_at ws 0)) ≡ Some k
  known = rw own (status_kind k)

  abbrev message : Message
  message = message_at k front

  formed : Formed message (text_at (kind_in message) front) front
  formed = read_formed front message (sym (text_read k ws n e known))

  packets : packets_in message ≡ n.0
  packets = let l = long in let w = formed.words in omega arith

  its_kind : kind_in message ≡ k
  its_kind = record_kind k (packets_of front) (values_at k front)

  own_part : front ≡ part ws 0 (packets_in message)
  own_part = rw packets

  pub seen_target : Ok n ≡ target_of (layout k).status (walk_of ws 0)
  unfolding own_in
  seen_target =
      let p = packets in
      let w = formed_walk message (text_at (kind_in message) front) ws 0 (rw (packets, zero-add) room) (subst (λ (x : List ℕ). Formed message (text_at (kind_in message) front) x) own_part formed) in
      rw w (past _ (eq_differ _ _ (ap (λ (x : Kind). (layout x).status) its_kind)) (ap (λ (x : ℕ). Ok (packet x)) (sym p)))
