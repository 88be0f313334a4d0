-- A line takes at most 17 bytes for each word that it passes, so 139,275 bytes hold any listing. Closed by counting digits at each answer of the walk.
use Rattle.std.specs.Prelude.{Result, Ok, Err}
use Prim.Native.Nat.{ℕ, zero, suc, ◌+◌, ◌-◌, ◌*◌, ◌/◌, ◌%◌, ◌≤◌, ◌<◌, min}
use mathlib.Core.Path.{◌≡◌, refl, sym, ap}
use mathlib.Core.Logic.{⊎_elim}
use mathlib.Core.List.{List, ◌++◌}
use native.Mathlib.Omega.{arith}
use lib.Dec.{lit≤}
use lib.ListN.{length, get_or, take, length-append}
use lib.Seq.{length-take-le}
use borrow.Author.Tests.{lt-ltb, le-ltb, lt-leb}
use Rattle.laws.specs.Pick.{differ}
use Rattle.laws.specs.Lists.{each, up_to}
use Rattle.laws.proofs.Pick.{split, below, here, past}
use Rattle.laws.proofs.Lists.{length-tabulate, up_to-take}
use Rattle.counts.specs.Counts.{word}
use Rattle.counts.specs.declared.WordNumber.{WordNumber}
use Rattle.kinds.specs.declared.refusal.Refusal.{Refusal}
use Rattle.kinds.specs.declared.refusal.Refusal.TheVariants.{TooFewWords, NotWholePackets, TooManyPackets, WrongType, UnknownStatus, StatusDiffers, WrongFormat, BlockNumberDiffers, BadPort, BadDirection, NotUtf8, NumberTooLarge, NoSuchField, NoRoom}
use Rattle.kinds.specs.Refusals.{refusal_number, refusal_place}
use Rattle.records.specs.declared.message.Message.{Message}
use Rattle.records.specs.declared.answers.Walked.{Walked}
use Rattle.records.specs.declared.answers.Walked.TheVariants as W
use Rattle.records.specs.Records.{packets_in}
use Rattle.standard.specs.declared.Framed.{Framed}
use Rattle.standard.specs.declared.Framed.TheVariants.{Whole, Short, Broken}
use Rattle.standard.specs.Heads.{type_of, stream_type}
use Rattle.standard.specs.Reading.{read_of}
use Rattle.standard.specs.Walk.{size_of, part, walked_of, frame_of, framed_of, other_of, walk_of, Onward}
use Rattle.standard.proofs.Next.{Room, frame_room, walk_onward, size_some, size_most}
use Rattle.standard.proofs.Near.{Near, read_near, Close, frame_close}
use Rattle.walking.specs.Visits.{next_of, visits}
use Rattle.walking.proofs.Stands.{walk_formed}
use Rattle.walking.proofs.Visits.{next_between}
use Rattle.ascii_lines.specs.Ascii.{ascii}
use Rattle.ascii_lines.specs.Page.{Wrote}
use Rattle.ascii_lines.specs.Numbers.{decimal}
use Rattle.ascii_lines.proofs.Room.{decimal-length, place_in_bounds, text_at_start}
use Rattle.listing.specs.Lines.{message_shown, refusal_shown, line_of, end_line, too_long_line}
use Rattle.listing.specs.Listing.{word_at, words_of, visit_lines, lines_of, listing_of}
use Rattle.listing.specs.Listed.{Listed, listing_room}
use Rattle.listing.proofs.Lengths.{message-length}

-- ---- the parts of a line
number-length : (r : Refusal) → length (decimal (refusal_number r)) ≤ 2
number-length TooFewWords = decimal-length 1 1 (lit≤ tt)
number-length NotWholePackets = decimal-length 1 2 (lit≤ tt)
number-length TooManyPackets = decimal-length 1 3 (lit≤ tt)
number-length (WrongType p) = decimal-length 1 4 (lit≤ tt)
number-length UnknownStatus = decimal-length 1 5 (lit≤ tt)
number-length (StatusDiffers p) = decimal-length 1 6 (lit≤ tt)
number-length (WrongFormat p) = decimal-length 1 7 (lit≤ tt)
number-length (BlockNumberDiffers p) = decimal-length 1 8 (lit≤ tt)
number-length BadPort = decimal-length 1 9 (lit≤ tt)
number-length BadDirection = decimal-length 1 10 (lit≤ tt)
number-length NotUtf8 = decimal-length 1 11 (lit≤ tt)
number-length NumberTooLarge = decimal-length 1 12 (lit≤ tt)
number-length NoSuchField = decimal-length 1 13 (lit≤ tt)
number-length NoRoom = decimal-length 1 14 (lit≤ tt)

refusal-length : (r : Refusal) → refusal_place r ≤ 64 → length (refusal_shown r) ≤ 14
unfolding each
refusal-length r h = simp length-append (omega (arith, number-length r, decimal-length 1 (refusal_place r) (omega arith)))

-- refusal 1, which may come at the last word
short_length : length (refusal_shown TooFewWords) ≤ 12
unfolding each
short_length = simp length-append (omega (arith, decimal-length 0 1 (lit≤ tt), decimal-length 0 0 (lit≤ tt)))

-- a size has one digit
size_length : (t : ℕ) → length (decimal (size_of t)) ≤ 1
size_length t = decimal-length 0 (size_of t) (omega (arith, size_most t))

-- ---- a line at a position of at most four digits
line_length : (d said : List ℕ) (k : ℕ) → length d ≤ 4 → length said + 5 ≤ k → length (d ++ said ++ ascii "\n") ≤ k
line_length d said k h l = simp length-append (omega arith)

abbrev Fits : List ℕ → ℕ → Walked → Type 0
Fits ws pos a = length (line_of a ws pos) ≤ 17 * (next_of a pos - pos)

-- the same of all answers but a message
abbrev Plain : List ℕ → ℕ → Walked → Type 0
Plain ws pos W.End = Unit
Plain ws pos (W.Other t size next) = Fits ws pos (W.Other t size next)
Plain ws pos (W.Message m next) = Unit
Plain ws pos (W.Refused r next) = Fits ws pos (W.Refused r next)

module _ (ws : List ℕ) (pos : ℕ) (few : length ws ≤ 8192) (inside : pos < length ws) where
  pos_length : length (decimal pos) ≤ 4
  pos_length = decimal-length 3 pos (omega arith)

  short_fits : Fits ws pos (W.Refused TooFewWords (word (length ws)))
  short_fits = simp length-append (omega (arith, pos_length, short_length))

  refused-fits : (r : Refusal) (n : ℕ) → refusal_place r ≤ 64 → pos + 4 ≤ n → Fits ws pos (W.Refused r (word n))
  refused-fits r n h l = simp length-append (omega (arith, pos_length, refusal-length r h))

  other_fits : (t : ℕ) (n : ℕ) → t < 16 → pos < n → Fits ws pos (W.Other t (word (size_of t)) (word n))
  unfolding each
  other_fits t n h l = simp length-append (omega (arith, pos_length, decimal-length 1 t (omega arith), size_length t))

  -- ---- by the walk's cases
  other_plain : (t : ℕ) → t < 16 → Plain ws pos (other_of t ws pos)
  unfolding other_of
  other_plain t h =
      ⊎_elim (λ l. rw (lt-ltb (length ws - pos) (size_of t) l) short_fits)
      (λ l. rw (le-ltb (length ws - pos) (size_of t) l) (other_fits t (pos + size_of t) h (omega (arith, size_some t))))
      (below (length ws - pos) (size_of t))

  read_plain : (r : (Result Message Refusal)) (n : ℕ) → Near r → pos + 4 ≤ n → Plain ws pos (walked_of r n)
  read_plain (Ok m) n h l = tt
  read_plain (Err r) n h l = refused-fits r n h l

  framed_plain : (f : Framed) → Room ws pos f → Close f → Plain ws pos (framed_of f ws pos)
  unfolding framed_of
  framed_plain Short r c = short_fits
  framed_plain (Broken b) r c = refused-fits b (pos + 4) c (omega arith)
  framed_plain (Whole n) r c = read_plain (read_of (part ws pos n.0)) (pos + n.0 * 4) (read_near (part ws pos n.0)) (omega arith)

  walk_plain : Plain ws pos (walk_of ws pos)
  unfolding walk_of
  walk_plain =
      rw (lt-leb (length ws) pos inside)
      (split (differ (type_of (get_or ws pos 0)) stream_type)
      (λ t. rw t (other_plain (type_of (get_or ws pos 0)) (omega arith)))
      (λ t. rw t (framed_plain (frame_of ws pos) (frame_room ws pos) (frame_close ws pos))))

  message-fits : (m : Message) (next : WordNumber) → walk_of ws pos ≡ W.Message m next → Fits ws pos (W.Message m next)
  message-fits m next e =
      let s = walk_formed ws pos m next e in
      let n = ap (λ (w : WordNumber). w.0) s.after in
      let l = message-length m _ (part ws pos (packets_in m)) s.formed in
      line_length (decimal pos) (message_shown m (part ws pos (packets_in m))) _ pos_length (omega arith)

  fits : (a : Walked) → walk_of ws pos ≡ a → Plain ws pos a → Onward pos (length ws) a → Fits ws pos a
  fits W.End e h o = absurd o
  fits (W.Other t size next) e h o = h
  fits (W.Message m next) e h o = message-fits m next e
  fits (W.Refused r next) e h o = h

  -- A LINE takes at most 17 bytes for each word that it passes
  line_room : length (line_of (walk_of ws pos) ws pos) ≤ 17 * (next_of (walk_of ws pos) pos - pos)
  line_room = fits (walk_of ws pos) refl walk_plain (walk_onward ws pos inside)

-- ---- all lines
visits_room : (ws : List ℕ) (most pos : ℕ) → length ws ≤ 8192 → length (visit_lines ws (visits most ws pos)) ≤ 17 * (length ws - pos)
unfolding visits each
visits_room ws zero pos few = omega arith
visits_room ws (suc most) pos few =
    ⊎_elim (λ g.
    let n = next_between ws pos (next_of (walk_of ws pos) pos) (walk_of ws pos) g refl refl in
    rw (lt-ltb pos (length ws) g, length-append) (omega (arith, line_room ws pos few g, visits_room ws most (next_of (walk_of ws pos) pos) few)))
    (λ g. rw (le-ltb pos (length ws) g) (omega arith))
    (below pos (length ws))

lines_room : (ws : List ℕ) → length ws ≤ 8192 → length (lines_of ws) ≤ 17 * length ws
lines_room ws few = omega (arith, visits_room ws (length ws) 0 few)

words_length : (bytes : List ℕ) → length (words_of bytes) ≡ length bytes / 4
unfolding words_of
words_length bytes = length-tabulate (length bytes / 4) (word_at bytes)

end_length : (words leftover : ℕ) → words ≤ 8192 → leftover < 10 → length (end_line words leftover) ≤ 11
unfolding each
end_length words leftover h l = simp length-append (omega (arith, decimal-length 3 words (omega arith), decimal-length 0 leftover (omega arith)))

-- ANY LISTING has at most 139,275 bytes
pub listing_room_lem : (bytes : List ℕ) → length (listing_of bytes) ≤ listing_room
unfolding listing_of
listing_room_lem bytes =
    ⊎_elim (λ h. rw (lt-ltb 32768 (length bytes) h) (lit≤ tt))
    (λ h.
    let e = words_length bytes in
    rw (le-ltb 32768 (length bytes) h, length-append)
    (omega (arith, lines_room (words_of bytes) (omega arith), end_length (length bytes / 4) (length bytes % 4) (omega arith) (omega arith))))
    (below 32768 (length bytes))

-- what a program goes by follows from what was put
pub listed : (bytes o : List ℕ) (r : ℕ) (p : List ℕ) → Wrote 0 o (listing_of bytes) r p → Listed bytes o r p
listed bytes o r p w =
    let f = place_in_bounds w (omega arith) in
    record {
      wrote = w;
      fits = f;
      counts = sym (length-take-le r p f);
      whole = λ h. text_at_start w (omega (arith, listing_room_lem bytes));
    }

-- ---- the two cases of the listing
pub too_long : (bytes : List ℕ) → 32768 < length bytes → too_long_line ≡ listing_of bytes
unfolding listing_of
too_long bytes h = here _ (lt-ltb 32768 (length bytes) h) refl

-- the words read into a buffer of 8,192, and the lines of them
pub all_listed : (bytes ws zs : List ℕ) (n : ℕ) → length bytes ≤ 32768 → length zs ≡ 8192 → n ≡ min (length bytes / 4) (length zs) → ws ≡ up_to n (word_at bytes) zs → lines_of (take n ws) ++ end_line n (length bytes % 4) ≡ listing_of bytes
unfolding listing_of words_of
all_listed bytes ws zs n h l e f =
    let m : n ≡ length bytes / 4 = omega arith in
    past _ (le-ltb 32768 (length bytes) h) (rw (f, up_to-take n (word_at bytes) zs (omega arith), m))
