-- WHAT THE LISTING PROMISES: from the bytes and the buffer o, the count r and the buffer p.
use Rattle.std.specs.Prelude.{ℕ, ◌≤◌, ◌≡◌, List, length, take}
use Rattle.ascii_lines.specs.Page.{Wrote}
use Rattle.listing.specs.Listing.{listing_of}

-- a buffer of this many bytes holds any listing: 17 for each of 8,192 words, and 11 for the last line
abbrev pub listing_room : ℕ
listing_room = 139275

pub record Listed (bytes o : List ℕ) (r : ℕ) (p : List ℕ) : Type 0 where
  -- the listing is put from place 0 on; of a buffer that is too short it fills all
  pub wrote : Wrote 0 o (listing_of bytes) r p
  -- the count lies within the buffer
  pub fits : r ≤ length p
  pub counts : r ≡ length (take r p)
  -- with room the first r bytes are the whole listing
  pub whole : listing_room ≤ length o → take r p ≡ listing_of bytes
