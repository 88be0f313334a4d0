-- Reading accepts exactly the well-formed messages, with exactly their fields and text. Proved by following each chain of refusals, in both directions.
use Rattle.std.specs.Prelude.{Result, Option, Some, None, Ok, Err}
use Prim.Native.Nat.{ℕ, ◌%◌, ◌≤◌, ◌<◌}
use mathlib.Core.Path.{◌≡◌, refl, sym, ap, ◌∙◌, subst}
use mathlib.Core.Bool.{false}
use mathlib.Core.List.{List}
use native.Mathlib.Omega.{arith}
use lib.ListN.{length}
use lib.Dec.{ltb, eqb}
use borrow.Author.Tests.{le-ltb, ltb-false, eqb-false}
use Rattle.laws.specs.Pick.{differ}
use Rattle.laws.proofs.Pick.{past, passed, eq_differ, differ_false}
use Rattle.slots.specs.Slots.{reads}
use Rattle.utf8.specs.Utf8.{first_bad}
use Rattle.utf8.proofs.Valid.{good_valid, valid_good}
use Rattle.text.specs.Octets.{due_format}
use Rattle.text.specs.Bytes.{text_of}
use Rattle.kinds.specs.declared.refusal.Refusal.{Refusal}
use Rattle.kinds.specs.declared.refusal.Refusal.TheVariants.{TooFewWords, NotWholePackets, TooManyPackets}
use Rattle.kinds.specs.declared.kind.Kind.{Kind}
use Rattle.records.specs.declared.message.Message.{Message}
use Rattle.kinds.specs.Choices.{no_port, no_direction}
use Rattle.kinds.specs.Fields.{Field}
use Rattle.kinds.specs.Layout.{layout, capacity_of, most_of, kinds, kind_of, parts}
use Rattle.records.specs.Records.{kind_in, packets_in, values_of}
use Rattle.kinds.proofs.Rows.{status_kind, among_status, most_64}
use Rattle.records.proofs.Records.{record_kind, record_packets, refused-message}
use Rattle.standard.specs.Heads.{status_of, packets_of, packet_from, head_at}
use Rattle.standard.specs.Reading.{other_status, other_format, other_field, code_at, text_at, message_at, values_at, is_bad, read_body, read_kind, read_known, read_of}
use Rattle.standard.specs.Formed.{Formed}
use Rattle.standard.proofs.Fields.{holds_record, holds_port, holds_direction, record_holds, same_fields, fields_same}
use Rattle.standard.proofs.Rules.{Keeps, ruled-message, ruled_kept, not_bad}

-- ---- a well-formed message is read as what it is
module _ (m : Message) (t ws : List ℕ) (f : Formed m t ws) where
  count : packets_of ws ≡ packets_in m
  count = let w = f.words in omega arith

  inside : (p : ℕ) → p < packets_of ws → p < packets_in m
  inside p h = let c = count in omega arith

  first_fields : reads (layout (kind_in m)).fields (parts (values_of m)) (packet_from ws 0)
  first_fields = f.fields 0 f.some

  first_status : status_of (head_at ws 0) ≡ (layout (kind_in m)).status
  first_status = f.status 0 f.some

  good_text : is_bad (first_bad (text_at (kind_in m) ws)) ≡ false
  good_text = rw (count, f.text, valid_good f.valid)

  formed_body : Ok m ≡ read_body (kind_in m) ws
  unfolding read_body
  formed_body =
      past _ (holds_port m ws first_fields)
      (past _ (holds_direction m ws first_fields)
      (past _ good_text (ap Ok (sym (holds_record m ws first_fields (packets_of ws) count)))))

  formed_kind : Ok m ≡ read_kind (kind_in m) ws
  unfolding read_kind
  formed_kind =
      ruled_kept _ _ _ _ (λ p h. eq_differ _ _ (f.status p (inside p h) ∙ sym first_status))
      (past _ (le-ltb (most_of (kind_in m)) (packets_of ws) (rw count f.most))
      (ruled_kept _ _ _ _ (λ p h. eq_differ _ _ (f.format p (inside p h) ∙ ap (λ (n : ℕ). due_format n p) (sym count)))
      (ruled_kept _ _ _ _ (λ p h. same_fields _ _ ws p first_fields (f.fields p (inside p h))) formed_body)))

  pub formed_read : read_of ws ≡ Ok m
  unfolding read_of
  formed_read =
      let w = f.words in
      let s = f.some in
      let known : Some (kind_in m) ≡ kind_of (status_of (head_at ws 0)) = rw first_status (sym (status_kind (kind_in m))) in
      sym
      (past _ (le-ltb (length ws) 4 (omega arith))
      (past _ (eq_differ (length ws % 4) 0 (omega arith))
      (past _ (le-ltb 64 (packets_of ws) (omega (arith, count, f.most, most_64 (layout (kind_in m)).body)))
      (ruled_kept _ _ _ _ (λ p h. eq_differ _ _ (f.type p (inside p h))) (formed_kind ∙ ap (λ (k : (Option Kind)). read_known k ws) known)))))

-- ---- and nothing else is read
-- what is known of the packets once reading has accepted them as kind k
record Seen (k : Kind) (m : Message) (ws : List ℕ) : Type 0 where
  most : packets_of ws ≤ most_of k
  status : Keeps (other_status ws) (packets_of ws)
  format : Keeps (other_format ws) (packets_of ws)
  field : Keeps (other_field (layout k).fields ws) (packets_of ws)
  port : eqb (code_at k ws Field.midi1_port) no_port ≡ false
  direction : eqb (code_at k ws Field.direction) no_direction ≡ false
  good : is_bad (first_bad (text_at k ws)) ≡ false
  is : message_at k ws ≡ m

message_is : {a b : Message} → ◌≡◌ {A = Result Message Refusal} (Ok a) (Ok b) → a ≡ b
message_is e = cc

kind_seen : (k : Kind) (m : Message) (ws : List ℕ) → read_kind k ws ≡ Ok m → Seen k m ws
unfolding read_kind read_body
kind_seen k m ws e =
    let a = ruled-message _ _ _ _ m e in
    let b = passed _ _ _ (Ok m) refused-message a.1 in
    let c = ruled-message _ _ _ _ m b.1 in
    let d = ruled-message _ _ _ _ m c.1 in
    let p = passed _ _ _ (Ok m) refused-message d.1 in
    let q = passed _ _ _ (Ok m) refused-message p.1 in
    let u = passed _ _ _ (Ok m) refused-message q.1 in
    record { most = ltb-false _ _ b.0; status = a.0; format = c.0; field = d.0; port = p.0; direction = q.0; good = u.0; is = message_is u.1 }

-- the accepted kind has the status of the first packet
record Known-seen (m : Message) (ws : List ℕ) : Type 0 where
  kind : Kind
  status : status_of (head_at ws 0) ≡ (layout kind).status
  seen : Seen kind m ws

known_seen : (n : (Option Kind)) (m : Message) (ws : List ℕ) → kind_of (status_of (head_at ws 0)) ≡ n → read_known n ws ≡ Ok m → Known-seen m ws
known_seen None m ws q e = absurd (refused-message e)
known_seen (Some k) m ws q e = record { kind = k; status = among_status kinds _ k q; seen = kind_seen k m ws e }

pub read_formed : (ws : List ℕ) (m : Message) → read_of ws ≡ Ok m → Formed m (text_at (kind_in m) ws) ws
unfolding read_of
read_formed ws m e =
    let a = passed (ltb (length ws) 4) (Err TooFewWords) _ (Ok m) refused-message e in
    let b = passed (differ (length ws % 4) 0) (Err NotWholePackets) _ (Ok m) refused-message a.1 in
    let c = passed (ltb 64 (packets_of ws)) (Err TooManyPackets) _ (Ok m) refused-message b.1 in
    let d = ruled-message _ _ _ _ m c.1 in
    let s = known_seen _ m ws refl d.1 in
    let k = s.kind in
    let x = s.seen in
    let long : 4 ≤ length ws = ltb-false _ _ a.0 in
    let whole : length ws % 4 ≡ 0 = differ_false _ _ b.0 in
    let some : 1 ≤ packets_of ws = omega arith in
    let holds = record_holds k (packets_of ws) ws (eqb-false _ _ x.port) (eqb-false _ _ x.direction) in
    let kind : k ≡ kind_in m = sym (record_kind k (packets_of ws) (values_at k ws)) ∙ ap kind_in x.is in
    let n : packets_of ws ≡ packets_in m = sym (record_packets k (packets_of ws) (values_at k ws) some x.most) ∙ ap packets_in x.is in
    let fields : reads (layout k).fields (parts (values_of m)) ws = subst (λ (a : Message). reads (layout k).fields (parts (values_of a)) ws) x.is holds in
    let below : (p : ℕ) → p < packets_in m → p < packets_of ws = λ p h. omega arith in
    record {
      some = omega arith;
      most = rw (← kind, ← n) x.most;
      words = omega arith;
      type = λ p h. differ_false _ _ (d.0 p (below p h));
      format = λ p h. differ_false _ _ (x.format p (below p h)) ∙ ap (λ (i : ℕ). due_format i p) n;
      status = λ p h. differ_false _ _ (x.status p (below p h)) ∙ s.status ∙ ap (λ (i : Kind). (layout i).status) kind;
      fields = λ p h. rw (← kind) (fields_same (layout k).fields _ ws p (x.field p (below p h)) fields);
      text = rw (← n);
      valid = rw (← kind) (good_valid _ (not_bad _ x.good));
    }

-- ---- so a slice is at most one message with one text
pub record Same (m m' : Message) (t t' : List ℕ) : Type 0 where
  pub message : m ≡ m'
  pub text : t ≡ t'

pub formed_only : (m m' : Message) (t t' ws : List ℕ) → Formed m t ws → Formed m' t' ws → Same m m' t t'
formed_only m m' t t' ws f g =
    let e : m ≡ m' = message_is (sym (formed_read m t ws f) ∙ formed_read m' t' ws g) in
    record { message = e; text = sym f.text ∙ ap (λ (a : Message). text_of ws (capacity_of (kind_in a)) (packets_in a)) e ∙ g.text }
