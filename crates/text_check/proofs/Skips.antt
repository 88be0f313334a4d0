-- Bytes of a given text that may be skipped because they are whole characters. Proved with `WillAnswer` at the bytes that remain.
use Prim.Native.Nat.{ℕ, ◌+◌, ◌≤◌, ◌<◌}
use mathlib.Core.Path.{◌≡◌, refl, sym, ◌∙◌}
use mathlib.Core.Logic.{⊎_elim}
use mathlib.Core.Bool.{Bool, true}
use mathlib.Core.List.{List}
use native.Mathlib.Numerals.{add-one}
use native.Mathlib.Omega.{arith}
use lib.Dec.{lit≤}
use lib.ListN.{length, get_or, drop, drop_of_length-le}
use lib.Seq.{drop-cons}
use Rattle.laws.proofs.Pick.{split, below}
use Rattle.counts.specs.Counts.{byte}
use Rattle.utf8.specs.Utf8.{first_bad}
use Rattle.utf8.specs.Scan.{Scan, after_byte}
use Rattle.text.specs.Octets.{octet_of}
use Rattle.text.proofs.Back.{octet_word}
use Rattle.text.specs.BigEndian.{big_endian_at}
use Rattle.text.proofs.BigEndian.{big_endian_in}
use Rattle.text_check.specs.FastCheck.{is_good, none_open, ascii_word, simple_character, run_none_due, run_one_due, run_two_due, whole_characters, Skipped}
use Rattle.text_check.proofs.KnownSteps.{tails, Leads, WordSteps, ascii_steps, none_due_steps, one_due_steps, two_due_steps, simple_steps}
use Rattle.text_check.proofs.Progress.{WillAnswer, answer_start, answer_end, answer_open, answer_keeping}

module _ (text : List ℕ) (v : Bool) where
  -- the check has reached byte i with scan k, and will answer v
  abbrev pub AtByte : Scan → ℕ → Type 0
  AtByte k i = WillAnswer k (drop i text) v

  pub bytes_finish : (k : Scan) (i : ℕ) → length text ≤ i → AtByte k i → none_open k ≡ v
  bytes_finish k i h st = answer_end k _ (rw (drop_of_length-le text h) at st)

  -- where no character is open, the answer is the verdict on the remaining bytes
  open_none : (k : Scan) (i : ℕ) → none_open k ≡ true → is_good (first_bad (drop i text)) ≡ v → AtByte k i
  open_none k i o e = record { answer = answer_open k (drop i text) o ∙ e }

  none_open_lem : (k : Scan) (i : ℕ) → none_open k ≡ true → AtByte k i → is_good (first_bad (drop i text)) ≡ v
  none_open_lem k i o st = sym (answer_open k (drop i text) o) ∙ st.answer

  module _ (small : (k : ℕ) → get_or text k 0 < 256) where
    pub bytes_turn : (k : Scan) (i : ℕ) → i < length text → AtByte k i → AtByte (after_byte k (byte 0) (get_or text i 0)) (i + 1)
    bytes_turn k i h st = rw add-one (answer_keeping (get_or text i 0) (small i) (rw (drop-cons text i 0 h) at st))

    -- the same for a result that is equal to that step
    pub byte_turn : (k r : Scan) (i : ℕ) → i < length text → r ≡ after_byte k (byte 0) (get_or text i 0) → AtByte k i → AtByte r (i + 1)
    byte_turn k r i h e st = rw e (bytes_turn k i h st)

    -- a byte after which a look tells how many tails are due
    known : (s t i : ℕ) → i < length text → after_byte (tails s) (byte 0) (get_or text i 0) ≡ tails t → AtByte (tails s) i → AtByte (tails t) (i + 1)
    known s t i h e st = rw e at (bytes_turn (tails s) i h st)

    module _ (i : ℕ) (h : i + 4 ≤ length text) where
      abbrev w : ℕ
      w = big_endian_at text i

      octets : (octet_of w 0 ≡ get_or text i 0) × (octet_of w 1 ≡ get_or text (i + 1) 0) × (octet_of w 2 ≡ get_or text (i + 2) 0) × (octet_of w 3 ≡ get_or text (i + 3) 0)
      octets = rw (big_endian_in text i h) (octet_word (get_or text i 0) (get_or text (i + 1) 0) (get_or text (i + 2) 0) (get_or text (i + 3) 0) (small i) (small (i + 1)) (small (i + 2)) (small (i + 3)))

      e₂ : i + 1 + 1 ≡ i + 2
      e₂ = omega arith

      e₃ : i + 2 + 1 ≡ i + 3
      e₃ = omega arith

      e₄ : i + 3 + 1 ≡ i + 4
      e₄ = omega arith

      -- one of the four bytes of a word
      first_turn : {s t : ℕ} → Leads s (octet_of w 0) t → AtByte (tails s) i → AtByte (tails t) (i + 1)
      first_turn {s} {t} k st = known s t i (omega arith) (rw octets.0 at k.keeping) st

      second_turn : {s t : ℕ} → Leads s (octet_of w 1) t → AtByte (tails s) (i + 1) → AtByte (tails t) (i + 2)
      second_turn {s} {t} k st = rw e₂ at (known s t (i + 1) (omega arith) (rw octets.1 at k.keeping) st)

      third_turn : {s t : ℕ} → Leads s (octet_of w 2) t → AtByte (tails s) (i + 2) → AtByte (tails t) (i + 3)
      third_turn {s} {t} k st = rw e₃ at (known s t (i + 2) (omega arith) (rw octets.2 at k.keeping) st)

      fourth_turn : {s t : ℕ} → Leads s (octet_of w 3) t → AtByte (tails s) (i + 3) → AtByte (tails t) (i + 4)
      fourth_turn {s} {t} k st = rw e₄ at (known s t (i + 3) (omega arith) (rw octets.3 at k.keeping) st)

      -- the last two, the last three, the first three, or all four
      two_turn : {s t u : ℕ} → Leads s (octet_of w 2) t → Leads t (octet_of w 3) u → AtByte (tails s) (i + 2) → AtByte (tails u) (i + 4)
      two_turn k l st = fourth_turn l (third_turn k st)

      last_turn : {s t u x : ℕ} → Leads s (octet_of w 1) t → Leads t (octet_of w 2) u → Leads u (octet_of w 3) x → AtByte (tails s) (i + 1) → AtByte (tails x) (i + 4)
      last_turn k l m st = two_turn l m (second_turn k st)

      three_turn : {s t u x : ℕ} → Leads s (octet_of w 0) t → Leads t (octet_of w 1) u → Leads u (octet_of w 2) x → AtByte (tails s) i → AtByte (tails x) (i + 3)
      three_turn k l m st = third_turn m (second_turn l (first_turn k st))

      word_turn : {s₀ s₁ s₂ s₃ s₄ : ℕ} → WordSteps w s₀ s₁ s₂ s₃ s₄ → AtByte (tails s₀) i → AtByte (tails s₄) (i + 4)
      word_turn k st = last_turn k.second k.third k.fourth (first_turn k.first st)

-- ---- `Skipped`: bytes that are whole characters
pub skip_none : (text : List ℕ) (i : ℕ) → i ≤ length text → Skipped text i i
skip_none text i h = record { forward = omega arith; in_bounds = h; same-verdict = refl }

pub skip_more : {text : List ℕ} {i j k : ℕ} → Skipped text i j → Skipped text j k → Skipped text i k
skip_more p q = record { forward = omega (arith, p.forward, q.forward); in_bounds = q.in_bounds; same-verdict = q.same-verdict ∙ p.same-verdict }

-- skipping whole characters keeps the answer
pub skip_at : (text : List ℕ) (v : Bool) (k : Scan) (i j : ℕ) → none_open k ≡ true → Skipped text i j → AtByte text v k i → AtByte text v k j
skip_at text v k i j o p st = open_none text v k j o (p.same-verdict ∙ none_open_lem text v k i o st)

-- the scan has read whole characters
pub skip_read : (text : List ℕ) (k : Scan) (i j : ℕ) → i ≤ j → j ≤ length text → none_open k ≡ true → AtByte text (is_good (first_bad (drop i text))) k j → Skipped text i j
skip_read text k i j f h o st = record { forward = f; in_bounds = h; same-verdict = none_open_lem text _ k j o st }

-- all bytes are whole characters
pub all_skipped : (text : List ℕ) (i : ℕ) → length text ≤ i → Skipped text 0 i → true ≡ is_good (first_bad text)
unfolding first_bad
all_skipped text i h p = (rw (drop_of_length-le text h) at p.same-verdict)

module _ (text : List ℕ) (small : (k : ℕ) → get_or text k 0 < 256) where
  start : (i : ℕ) → AtByte text (is_good (first_bad (drop i text))) (tails 0) i
  start i = answer_start (drop i text)

  skipped_to : (i j : ℕ) → i ≤ j → j ≤ length text → AtByte text (is_good (first_bad (drop i text))) (tails 0) j → Skipped text i j
  unfolding none_open
  skipped_to i j o h st = record { forward = o; in_bounds = h; same-verdict = none_open_lem text _ (tails 0) j refl st }

  module _ (i : ℕ) (h : i + 4 ≤ length text) where
    -- four ASCII bytes, or one simple three-byte character
    pub skip_four : ascii_word (big_endian_at text i) ≡ true → Skipped text i (i + 4)
    skip_four e = skipped_to i (i + 4) (omega arith) h (word_turn text _ small i h (ascii_steps (big_endian_at text i) e) (start i))

    pub skip_three : simple_character (octet_of (big_endian_at text i) 0) (octet_of (big_endian_at text i) 1) (octet_of (big_endian_at text i) 2) ≡ true → Skipped text i (i + 3)
    skip_three e =
        let k = simple_steps (big_endian_at text i) 0 e in
        skipped_to i (i + 3) (omega arith) (omega arith) (three_turn text _ small i h k.0 k.1 k.2 (start i))

    -- the remaining one to three of the last four bytes, all ASCII
    last_ascii : ascii_word (big_endian_at text i) ≡ true → (Skipped text (i + 1) (i + 4)) × (Skipped text (i + 2) (i + 4)) × (Skipped text (i + 3) (i + 4))
    last_ascii e =
        let k = ascii_steps (big_endian_at text i) e in (
          skipped_to (i + 1) (i + 4) (omega arith) h (last_turn text _ small i h k.second k.third k.fourth (start (i + 1))),
          skipped_to (i + 2) (i + 4) (omega arith) h (two_turn text _ small i h k.third k.fourth (start (i + 2))),
          skipped_to (i + 3) (i + 4) (omega arith) h (fourth_turn text _ small i h k.fourth (start (i + 3))),
        )

    pub skip_left : (from n : ℕ) → i + 4 ≡ n → i < from → from < n → ascii_word (big_endian_at text i) ≡ true → Skipped text from n
    skip_left from n e l m p =
        let t = last_ascii p in
        ⊎_elim (λ (x : from < i + 2). let q : from ≡ i + 1 = omega arith in rw (q, sym e) t.0)
        (λ (x : i + 2 ≤ from). ⊎_elim (λ (y : from < i + 3). let q : from ≡ i + 2 = omega arith in rw (q, sym e) t.1)
        (λ (y : i + 3 ≤ from). let q : from ≡ i + 3 = omega arith in rw (q, sym e) t.2) (below from (i + 3))) (below from (i + 2))

    -- or one simple three-byte character
    pub skip_last_three : (from n : ℕ) → i + 4 ≡ n → i + 1 ≡ from → simple_character (octet_of (big_endian_at text i) 1) (octet_of (big_endian_at text i) 2) (octet_of (big_endian_at text i) 3) ≡ true → Skipped text from n
    skip_last_three from n e f p =
        let k = simple_steps (big_endian_at text i) 1 p in
        rw (sym e, sym f) (skipped_to (i + 1) (i + 4) (omega arith) h (last_turn text _ small i h k.0 k.1 k.2 (start (i + 1))))

  -- a run of four simple three-byte characters
  pub skip_run : (i : ℕ) → i + 12 ≤ length text → run_none_due (big_endian_at text i) ≡ true → run_two_due (big_endian_at text (i + 4)) ≡ true → run_one_due (big_endian_at text (i + 8)) ≡ true → Skipped text i (i + 12)
  skip_run i h e f g =
      let e₈ : i + 4 + 4 ≡ i + 8 = omega arith in
      let e₁₂ : i + 8 + 4 ≡ i + 12 = omega arith in
      let first = word_turn text _ small i (omega arith) (none_due_steps _ e) (start i) in
      let second = (rw e₈ at (word_turn text _ small (i + 4) (omega arith) (two_due_steps _ f) first)) in
      let third = (rw e₁₂ at (word_turn text _ small (i + 8) (omega arith) (one_due_steps _ g) second)) in
      skipped_to i (i + 12) (omega arith) h third

pub whole_most : (w : ℕ) → whole_characters w ≤ 4
unfolding whole_characters
whole_most w =
    split (ascii_word w) (λ e. rw e (lit≤ tt))
    (λ e. split (simple_character (octet_of w 0) (octet_of w 1) (octet_of w 2)) (λ f. rw (e, f) (lit≤ tt)) (λ f. rw (e, f) (lit≤ tt)))
