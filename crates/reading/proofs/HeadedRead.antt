-- What the pass found is what the rules give: a message of its kind. Closed by the fields that like heads share, and text that is good.
use Rattle.std.specs.Prelude.{Option, Some, None, Ok}
use Prim.Native.Nat.{ℕ, ◌+◌, ◌*◌, ◌%◌, ◌^◌, ◌≤◌, ◌<◌}
use mathlib.Core.Path.{◌≡◌, refl, sym, ap, ◌∙◌}
use mathlib.Core.Bool.{true, false}
use mathlib.Core.List.{List}
use native.Mathlib.Omega.{arith}
use native.Mathlib.Decide.{dec_lt}
use lib.ListN.{length, take}
use lib.Seq.{take_all, get_or-take, length-take-le}
use lib.Dec.{ltb, eqb, lit≤}
use borrow.Author.Tests.{le-ltb, ltb-false, eqb-true}
use Rattle.laws.specs.Bits.{field_of, put_field}
use Rattle.laws.proofs.Bits.{get_above, get_below, same_above}
use Rattle.laws.proofs.Pick.{true_false, past, passed, split, eq_differ}
use Rattle.counts.specs.Counts.{word, first_word, whole_packets, wrapped}
use Rattle.counts.specs.declared.PacketNumber.{PacketNumber}
use Rattle.counts.specs.declared.WordNumber.{WordNumber}
use Rattle.utf8.specs.Utf8.{first_bad}
use Rattle.text_check.specs.FastCheck.{is_good}
use Rattle.kinds.specs.declared.kind.Kind.{Kind}
use Rattle.kinds.specs.Layout.{layout, most_of, has_text, kind_of}
use Rattle.standard.specs.Heads.{type_of, status_of, stream_type, head_at, packets_of}
use Rattle.standard.specs.Reading.{message_at, text_at, read_body, read_known, read_kind, read_of}
use Rattle.standard.proofs.Rules.{ruled_kept}
use Rattle.reading.specs.Bodies.{offset_of, fields_read, rules_read}
use Rattle.reading.specs.OnePass.{text_bits, head_bits, headed_packets, good_text, seen_in, seen_text, text_packets, number_in, heads_right}
use Rattle.reading.proofs.TextRows.{text_most, text_capacity}
use Rattle.reading.proofs.Bodies.{good_body}
use Rattle.reading.proofs.Passes.{Headed, headed_seen, headed_room, headed_front}
use Rattle.reading.proofs.Repeats.{late_rule, none_late}

module _ (w v offset : ℕ) (e : head_bits w offset ≡ head_bits v offset) where
  bits_few : text_bits offset ≤ 16
  unfolding text_bits
  bits_few = omega arith

  -- two heads that are alike but for their formats
  alike : (at span : ℕ) → text_bits offset ≤ at → field_of (put_field w 26 2 0) at span ≡ field_of (put_field v 26 2 0) at span
  unfolding head_bits
  alike at span h = same_above (put_field w 26 2 0) (put_field v 26 2 0) (text_bits offset) at span h e

  same_type : type_of w ≡ type_of v
  same_type =
      let h = bits_few in
      sym (get_above w 26 2 0 28 4 (lit≤ tt) (lit≤ tt)) ∙ alike 28 4 (omega arith) ∙ get_above v 26 2 0 28 4 (lit≤ tt) (lit≤ tt)

  low_same : (at span : ℕ) → at + span ≤ 26 → text_bits offset ≤ at → field_of w at span ≡ field_of v at span
  low_same at span l h = sym (get_below w 26 2 0 at span l) ∙ alike at span h ∙ get_below v 26 2 0 at span l

  same_status : status_of w ≡ status_of v
  same_status = low_same 16 10 (lit≤ tt) bits_few

-- of a first word at most one octet is text if each packet has a field
octet_left : (offset : ℕ) → 0 < offset → text_bits offset ≤ 8
unfolding text_bits
octet_left offset h = omega arith

-- ---- a whole message with heads that the pass saw
fields_kept : (k : Kind) (ws : List ℕ) → Headed ws (offset_of k) (packets_of ws) → packets_of ws ≤ most_of k → read_body k ws ≡ fields_read k ws
unfolding fields_read
fields_kept k ws s m = go (dec_lt 0 (offset_of k))
  where
    go : Dec (0 < offset_of k) → read_body k ws ≡ fields_read k ws
    go (yes h) = ruled_kept _ _ _ _ (λ p l. sym (late_rule k ws h p) ∙ eq_differ _ _ (low_same _ _ (offset_of k) (s.each p l).head 8 8 (lit≤ tt) (octet_left (offset_of k) h))) refl
    go (no h) = none_late k ws (omega arith) m

module _ (k : Kind) (ws : List ℕ) (s : Headed ws (offset_of k) (packets_of ws)) (whole : length ws % 4 ≡ 0) (known : kind_of (status_of (head_at ws 0)) ≡ Some k) (most : packets_of ws ≤ most_of k) where
  type_at : (p : ℕ) → p < packets_of ws → type_of (head_at ws p) ≡ stream_type
  type_at p h = same_type _ _ (offset_of k) (s.each p h).head ∙ s.type

  by_kind : read_body k ws ≡ read_kind k ws
  unfolding read_kind fields_read
  by_kind =
      ruled_kept _ _ _ _ (λ p h. eq_differ _ _ (same_status _ _ (offset_of k) (s.each p h).head))
      (past _ (le-ltb (most_of k) (packets_of ws) most)
      (ruled_kept _ _ _ _ (λ p h. eq_differ _ _ (s.format p h))
      (fields_kept k ws s most)))

  by_rules : read_body k ws ≡ read_of ws
  unfolding read_of
  by_rules =
      let n = s.some in
      past _ (le-ltb (length ws) 4 (omega arith))
      (past _ (eq_differ (length ws % 4) 0 whole)
      (past _ (le-ltb 64 (packets_of ws) s.most)
      (ruled_kept _ _ _ _ (λ p h. eq_differ _ _ (type_at p h)) (by_kind ∙ ap (λ (x : (Option Kind)). read_known x ws) (sym known)))))

are_headed : (k : Kind) (ws : List ℕ) (seen : Option PacketNumber) → 4 ≤ length ws → headed_packets ws (offset_of k) ≡ seen → number_in seen ≡ packets_of ws → Headed ws (offset_of k) (packets_of ws)
are_headed k ws None long q e = absurd (omega arith)
are_headed k ws (Some n) long q e = rw e at (headed_seen ws (offset_of k) q)

-- A MESSAGE WHOSE HEADS ARE RIGHT IS READ BY ITS BODY
headed_read : (k : Kind) (ws : List ℕ) → 4 ≤ length ws → length ws % 4 ≡ 0 → kind_of (status_of (head_at ws 0)) ≡ Some k → heads_right k ws (packets_of ws) ≡ true → read_body k ws ≡ read_of ws
unfolding heads_right
headed_read k ws some whole known e =
    let a = passed (ltb (most_of k) (packets_of ws)) false (eqb (number_in (headed_packets ws (offset_of k))) (packets_of ws)) true (λ q. true_false (sym q)) e in
    by_rules k ws (are_headed k ws _ some refl (eqb-true _ _ a.1)) whole known (ltb-false _ _ a.0)

-- ---- whole packets, as the words of all of them: n packets, before word k
module _ (ws : List ℕ) {n : PacketNumber} {k : WordNumber} (are : n ≡ whole_packets (word (length ws))) (before : k ≡ wrapped (first_word n)) (fits : length ws < 2 ^ 64) (long : 4 ≤ length ws) (whole : length ws % 4 ≡ 0) where
  count_is : n.0 ≡ packets_of ws
  count_is = ap (λ (x : PacketNumber). x.0) are

  all_words : take k.0 ws ≡ ws
  all_words = let e = ap (λ (x : WordNumber). x.0) before in take_all k.0 ws (omega (arith, e, count_is))

  pub all_count : k.0 ≡ length (take k.0 ws)
  all_count = let e = ap (λ (x : WordNumber). x.0) before in rw all_words (omega (arith, e, count_is))

  pub all_long : 4 ≤ length (take k.0 ws)
  all_long = rw all_words long

  pub all_headed : (kind : Kind) → kind_of (status_of (head_at ws 0)) ≡ Some kind → heads_right kind (take k.0 ws) n.0 ≡ true → read_body kind (take k.0 ws) ≡ read_of ws
  all_headed kind known e = rw all_words (headed_read kind ws long whole known (rw (all_words, are) at e))

  pub all_rules : n.0 ≤ 64 → rules_read (take k.0 ws) ≡ read_of ws
  unfolding read_of rules_read
  all_rules h = rw all_words (past _ (le-ltb (length ws) 4 long) (past _ (eq_differ (length ws % 4) 0 whole) (past _ (le-ltb 64 (packets_of ws) (rw are at h)) refl)))

-- ---- a message of text at the start of the words
seen_good : (ws : List ℕ) (offset : ℕ) {n : PacketNumber} (seen : Option PacketNumber) → headed_packets ws offset ≡ seen → seen_in ws offset seen ≡ Some n → Headed ws offset n.0 × (good_text ws offset n.0 ≡ true)
seen_good ws offset None q e = absurd (cc)
seen_good ws offset {n} (Some m) q e = split (good_text ws offset m.0)
    (λ t. let s : Some m ≡ Some n = rw t at e in let r : m ≡ n = cc in rw (← r) (headed_seen ws offset q, t))
    (λ t. let s : None ≡ Some n = rw t at e in absurd (cc))

module _ (k : Kind) (ws : List ℕ) (n : PacketNumber) (e : text_packets k ws ≡ Some n) where
  -- a kind with text
  texted : (has_text (layout k).body ≡ true) × (seen_text ws (offset_of k) ≡ Some n)
  texted = split (has_text (layout k).body) (λ t. (t, rw t at e)) (λ t. let q : None ≡ Some n = rw t at e in absurd (cc))

  good : Headed ws (offset_of k) n.0 × (good_text ws (offset_of k) n.0 ≡ true)
  unfolding seen_text
  good = seen_good ws (offset_of k) _ refl texted.1

  pub text_room : n.0 * 4 ≤ length ws
  text_room = headed_room ws (offset_of k) n.0 good.0

  -- its own words
  abbrev front : List ℕ
  front = take (n.0 * 4) ws

  count : packets_of front ≡ n.0
  count = let l = length-take-le (n.0 * 4) ws text_room in omega (arith, l)

  body : Ok (message_at k front) ≡ read_body k front
  body =
      let g : is_good (first_bad (text_at k front)) ≡ true = rw (count, ← text_capacity k texted.0) good.1 in
      good_body k front texted.0 g

  -- A MESSAGE OF TEXT THAT THE PASS SAW IS READ FROM ITS OWN WORDS
  pub text_read : kind_of (status_of (head_at ws 0)) ≡ Some k → Ok (message_at k front) ≡ read_of front
  text_read known =
      let l = length-take-le (n.0 * 4) ws text_room in
      let m = good.0.most in
      let some = good.0.some in
      body ∙ by_rules k front (rw count (headed_front ws (offset_of k) n.0 good.0)) (omega (arith, l)) (rw (get_or-take (n.0 * 4) ws 0 0 (omega arith)) known) (rw (count, text_most (layout k).body texted.0) m)
