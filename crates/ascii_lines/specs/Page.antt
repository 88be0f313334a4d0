-- Writing into a page.
use Rattle.std.specs.Prelude.{ℕ, ◌+◌, ◌≡◌, List, [], ◌∷◌, length, set, ltb}
use Rattle.std.specs.Borrow.{MutBor}
use Rattle.laws.specs.Pick.{pick}
use Rattle.ascii_lines.specs.declared.Writer.{Writer}

-- a buffer, and the place in it where the next byte goes
pub record Page : Type 0 where
  pub at : ℕ
  pub out : List ℕ

abbrev pub page : ℕ → List ℕ → Page
page i o = record { at = i; out = o }

-- the page after a byte: stored at the place, which moves on by one; a full page is unchanged
unfoldable pub put_byte : Page → ℕ → Page
put_byte s b = pick (ltb s.at (length s.out)) (page (s.at + 1) (set s.out s.at b)) s

-- the page after a text, byte by byte
unfoldable pub put_bytes : Page → List ℕ → Page
put_bytes s [] = s
put_bytes s (b ∷ bs) = put_bytes (put_byte s b) bs

-- WHAT A WRITER PROMISES: putting the text at place i of buffer o gives place j and buffer p
pub record Wrote (i : ℕ) (o text : List ℕ) (j : ℕ) (p : List ℕ) : Type 0 where
  pub is : page j p ≡ put_bytes (page i o) text

-- a writer that begins at the start of a lent buffer
pub record Opens (lent : MutBor (List ℕ)) (new : Writer) : Type 0 where
  pub same_buffer : new.out.ghost_name ≡ lent.ghost_name
  pub bytes : new.out.now ≡ lent.now
  pub start : new.at ≡ 0

-- a writer that begins at a place of a lent buffer
pub record OpensAt (lent : MutBor (List ℕ)) (at : ℕ) (new : Writer) : Type 0 where
  pub same_buffer : new.out.ghost_name ≡ lent.ghost_name
  pub bytes : new.out.now ≡ lent.now
  pub place : new.at ≡ at

-- THE CONTRACT OF A WRITER'S METHODS: the text was put at its place, and it still has the buffer that was lent
pub record Puts (old : Writer) (text : List ℕ) (new : Writer) : Type 0 where
  pub same_buffer : new.out.ghost_name ≡ old.out.ghost_name
  pub wrote : Wrote old.at old.out.now text new.at new.out.now
