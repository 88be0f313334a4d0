-- THE LISTING of a slice of bytes.
use Rattle.std.specs.Prelude.{ℕ, ◌+◌, ◌*◌, ◌/◌, ◌%◌, List, ◌++◌, length, get_or, ltb}
use Rattle.laws.specs.Pick.{pick}
use Rattle.laws.specs.Lists.{tabulate, each}
use Rattle.laws.specs.Bits.{word_of}
use Rattle.walking.specs.Visits.{Visit, visits_of}
use Rattle.listing.specs.Lines.{line_of, end_line, too_long_line}

-- the whole words of the bytes, big-endian
abbrev pub word_at : List ℕ → ℕ → ℕ
word_at bytes k = word_of (get_or bytes (k * 4) 0) (get_or bytes (k * 4 + 1) 0) (get_or bytes (k * 4 + 2) 0) (get_or bytes (k * 4 + 3) 0)

unfoldable pub words_of : List ℕ → List ℕ
words_of bytes = tabulate (length bytes / 4) (word_at bytes)

-- the line of a visit of the walk, and those of some visits
abbrev visit_line : List ℕ → Visit → List ℕ
visit_line ws v = line_of v.answer ws v.position

abbrev pub visit_lines : List ℕ → List Visit → List ℕ
visit_lines ws vs = each (visit_line ws) vs

-- the lines of the whole walk, which passes each word once
abbrev pub lines_of : List ℕ → List ℕ
lines_of ws = visit_lines ws (visits_of ws)

-- above 32,768 bytes only that the input is too long
unfoldable pub listing_of : List ℕ → List ℕ
listing_of bytes =
    pick (ltb 32768 (length bytes)) too_long_line
    (lines_of (words_of bytes) ++ end_line (length bytes / 4) (length bytes % 4))
