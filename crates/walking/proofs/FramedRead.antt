-- Reading a framed message by what framing left open answers as reading does. Closed by passing the refusals that framing has ruled out.
use Rattle.std.specs.Prelude.{Option, Some, None, Result, Err}
use Prim.Native.Nat.{ℕ, ◌+◌, ◌*◌, ◌%◌, ◌^◌, ◌≤◌, ◌<◌}
use mathlib.Core.Path.{◌≡◌, refl, sym, ap}
use mathlib.Core.List.{List}
use native.Mathlib.Omega.{arith}
use lib.ListN.{length}
use lib.Dec.{ltb}
use borrow.Author.Tests.{le-ltb}
use Rattle.laws.specs.Pick.{pick}
use Rattle.laws.proofs.Pick.{past, eq_differ}
use Rattle.counts.specs.Counts.{packet, first_word, wrapped}
use Rattle.counts.specs.declared.PacketNumber.{PacketNumber}
use Rattle.counts.specs.declared.WordNumber.{WordNumber}
use Rattle.kinds.specs.declared.refusal.Refusal.TheVariants.{WrongFormat}
use Rattle.kinds.specs.declared.kind.Kind.{Kind}
use Rattle.kinds.specs.Layout.{most_of, kind_of}
use Rattle.standard.specs.declared.Framed.TheVariants.{Whole}
use Rattle.standard.specs.Heads.{status_of, packets_of, head_at}
use Rattle.standard.specs.Reading.{read_kind, read_known, read_of}
use Rattle.standard.specs.Walk.{frame_of, part}
use Rattle.standard.proofs.Next.{whole_room}
use Rattle.standard.proofs.Rules.{ruled_kept}
use Rattle.standard.proofs.Framing.{Framed-heads, framed_heads}
use Rattle.reading.specs.Bodies.{fields_read}
use Rattle.reading.specs.Framed.{framed_kind, framed_known, framed_read}
use Rattle.records.specs.declared.message.Message.{Message}
use Rattle.kinds.specs.declared.refusal.Refusal.{Refusal}

module _ (ws : List ℕ) (f : Framed-heads ws) where
  kind_same : (k : Kind) → framed_kind k ws ≡ read_kind k ws
  unfolding framed_kind read_kind fields_read
  kind_same k =
      ruled_kept _ _ _ _ f.status
      (ap (λ (rest : (Result Message Refusal)). pick (ltb (most_of k) (packets_of ws)) (Err (WrongFormat (packet 1))) rest) (ruled_kept _ _ _ _ f.format refl))

  known_same : (k : (Option Kind)) → framed_known k ws ≡ read_known k ws
  known_same None = refl
  known_same (Some k) = kind_same k

  heads-same : framed_read ws ≡ read_of ws
  unfolding framed_read read_of
  heads-same =
      rw (le-ltb (length ws) 4 f.long)
      (past _ (eq_differ (length ws % 4) 0 f.whole)
      (past _ (le-ltb 64 (packets_of ws) f.few)
      (ruled_kept _ _ _ _ f.type (known_same (kind_of (status_of (head_at ws 0)))))))

-- its packets are within the words
pub framed_room : (ws : List ℕ) (pos : ℕ) {n : PacketNumber} → Whole n ≡ frame_of ws pos → (1 ≤ n.0) × (n.0 ≤ 64) × (pos + n.0 * 4 ≤ length ws)
framed_room ws pos e = whole_room ws pos e refl

-- the words of a framed message, as 64 bits hold their number
pub framed_words : (ws : List ℕ) (pos : ℕ) {n : PacketNumber} {k : WordNumber} → Whole n ≡ frame_of ws pos → k ≡ wrapped (first_word n) → length ws < 2 ^ 64 → k.0 ≡ n.0 * 4
framed_words ws pos e t h = let r = framed_room ws pos e in let z = ap (λ (x : WordNumber). x.0) t in omega (arith, r, z)

-- A FRAMED MESSAGE IS READ AS BEFORE
pub framed_read_lem : (ws : List ℕ) (pos : ℕ) {n : PacketNumber} → Whole n ≡ frame_of ws pos → framed_read (part ws pos n.0) ≡ read_of (part ws pos n.0)
framed_read_lem ws pos e = heads-same _ (framed_heads ws pos _ (sym e))
