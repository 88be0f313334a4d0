-- Writing a record, and reading it back. From the buffer of good values: a record's values are good if they fit.
use Rattle.std.specs.Prelude.{Ok}
use Prim.Native.Nat.{ℕ, ◌*◌, ◌≤◌}
use mathlib.Core.Path.{◌≡◌, refl, sym, ap, ◌∙◌}
use mathlib.Core.Bool.{Bool, true, false, not}
use mathlib.Core.Logic.{◌≢◌}
use mathlib.Core.List.{List}
use native.Mathlib.Omega.{arith}
use lib.ListN.{length, take}
use borrow.Author.Tests.{eqb-false, ne_eqb, not-false}
use Rattle.laws.specs.Pick.{pick}
use Rattle.laws.proofs.Pick.{true_false, past}
use Rattle.slots.specs.Slots.{fits, reads}
use Rattle.utf8.specs.Utf8.{Valid, empty}
use Rattle.text.specs.Octets.{needed}
use Rattle.kinds.specs.declared.refusal.Refusal.TheVariants.{NumberTooLarge, NoSuchField, NoRoom}
use Rattle.kinds.specs.Fields.{Field, same}
use Rattle.kinds.specs.Layout.{Body, fixed, texts, layout, most_in, parts, held, values_in, has_text}
use Rattle.records.specs.declared.message.Message.{Message}
use Rattle.records.specs.declared.message.Message.TheVariants as M
use Rattle.records.specs.Records.{kind_in, packets_in, record_of, values_of}
use Rattle.records.proofs.Records.{record_back, refused_done, port_named, direction_named}
use Rattle.standard.specs.Heads.{packets_of}
use Rattle.standard.specs.Reading.{values_at, read_of}
use Rattle.standard.specs.Words.{Outcome, outcome, unchanged, no_packet, encode, write_on}
use Rattle.standard.proofs.Formed.{read_formed}
use Rattle.promises.specs.Good.{text_for, packets_for, GoodValues}
use Rattle.promises.specs.Values.{packets_needed, record_for}
use Rattle.slots.proofs.Tables.{reads-fits, gets_alike}
use Rattle.promises.proofs.Encode.{encode_holds, encode_read}

-- one packet, and no text
one_packet : (m : Message) → has_text (layout (kind_in m)).body ≡ false → packets_in m ≡ 1
unfolding layout
one_packet (M.EndpointDiscovery e) h = refl
one_packet (M.EndpointInfo e) h = refl
one_packet (M.DeviceIdentity e) h = refl
one_packet (M.EndpointName n) h = true_false h
one_packet (M.ProductInstanceId n) h = true_false h
one_packet (M.FunctionBlockInfo e) h = refl
one_packet (M.FunctionBlockName b n) h = true_false h

no_text : (b : Body) (v : Field → List ℕ) → has_text b ≡ false → Valid (text_for b v) × (packets_for b v ≡ 1) × (1 ≤ most_in b)
unfolding needed
no_text fixed v h = (empty, refl, omega arith)
no_text (texts x from) v h = true_false h

-- ---- what writing needs, and what it gives
module _ (m : Message) (ws : List ℕ) (fixed_kind : has_text (layout (kind_in m)).body ≡ false) (small : fits (layout (kind_in m)).fields (parts (values_of m)) ≡ true) (l : 4 ≤ length ws) where
  good : GoodValues (kind_in m) (packets_of ws) (values_of m)
  good =
      let t = no_text (layout (kind_in m)).body (values_of m) fixed_kind in
      record {
        numbers = small;
        valid = t.0;
        most = rw t.1 t.2;
        inside = rw t.1 (omega arith);
        port = port_named m;
        direction = direction_named m;
      }

  write_is : write_on m ws ≡ outcome (Ok tt) (encode (kind_in m) ws (values_of m))
  unfolding write_on
  write_is =
      sym
      (past _ fixed_kind
      (past _ (ap not small)
      (past _ (ne_eqb (packets_of ws) 0 (λ e. omega arith)) refl)))

  -- each slot holds its part of the record
  write_holds : reads (layout (kind_in m)).fields (parts (values_of m)) (write_on m ws).words
  write_holds = rw write_is (encode_holds (kind_in m) ws l (values_of m) good)

  -- AND IT IS READ BACK
  is_back : record_for (kind_in m) (values_of m) ≡ m
  is_back = ap (λ (n : ℕ). record_of (kind_in m) n (values_of m)) ((no_text (layout (kind_in m)).body (values_of m) fixed_kind).1 ∙ sym (one_packet m fixed_kind)) ∙ record_back m

  write_read : read_of (take 4 (write_on m ws).words) ≡ Ok m
  write_read =
      let n : packets_needed (kind_in m) (values_of m) ≡ 1 = (no_text (layout (kind_in m)).body (values_of m) fixed_kind).1 in
      rw write_is
      (ap (λ (c : ℕ). read_of (take (c * 4) (encode (kind_in m) ws (values_of m)))) (sym n) ∙ encode_read (kind_in m) ws l (values_of m) good ∙ ap Ok is_back)

-- ---- when it is accepted
passed_done : (t : Bool) (x y : Outcome) → (x.answer ≡ Ok tt → ⊥) → (pick t x y).answer ≡ Ok tt → (t ≡ false) × (y.answer ≡ Ok tt)
passed_done true x y n e = absurd (n e)
passed_done false x y n e = (refl, e)

record Writes (m : Message) (ws : List ℕ) : Type 0 where
  fixed_kind : has_text (layout (kind_in m)).body ≡ false
  small : fits (layout (kind_in m)).fields (parts (values_of m)) ≡ true
  room : 4 ≤ length ws

write_done : (m : Message) (ws : List ℕ) → (write_on m ws).answer ≡ Ok tt → Writes m ws
unfolding write_on
write_done m ws e =
    let a = passed_done (has_text (layout (kind_in m)).body) (unchanged NoSuchField ws) _ refused_done e in
    let b = passed_done (not (fits (layout (kind_in m)).fields (parts (values_of m)))) (unchanged NumberTooLarge ws) _ refused_done a.1 in
    let c = passed_done (no_packet ws) (unchanged NoRoom ws) _ refused_done b.1 in
    let n : packets_of ws ≢ 0 = eqb-false _ _ c.0 in
    record { fixed_kind = a.0; small = not-false _ b.0; room = omega arith }

-- A RECORD THAT WAS WRITTEN is read back
pub written_read : (m : Message) (ws : List ℕ) → (write_on m ws).answer ≡ Ok tt → read_of (take 4 (write_on m ws).words) ≡ Ok m
written_read m ws e = let w = write_done m ws e in write_read m ws w.fixed_kind w.small w.room

-- ---- A RECORD THAT WAS READ can be written, with every field unchanged
module _ (as_read ws : List ℕ) (m : Message) (e : read_of as_read ≡ Ok m) where
  held_there : reads (layout (kind_in m)).fields (parts (values_of m)) as_read
  held_there = let f = read_formed as_read m e in f.fields 0 f.some

  read_fits : fits (layout (kind_in m)).fields (parts (values_of m)) ≡ true
  read_fits = reads-fits _ _ as_read held_there

  module _ (fixed_kind : has_text (layout (kind_in m)).body ≡ false) (l : 4 ≤ length ws) where
    pub read_written : write_on m ws ≡ outcome (Ok tt) (encode (kind_in m) ws (values_of m))
    read_written = write_is m ws fixed_kind read_fits l

    pub written_same : (f : Field) → values_at (kind_in m) (write_on m ws).words f ≡ values_at (kind_in m) as_read f
    unfolding values_in
    written_same f = ap (held f) (gets_alike (layout (kind_in m)).fields (parts (values_of m)) (λ p. same p.field f) (write_on m ws).words as_read (write_holds m ws fixed_kind read_fits l) held_there)
