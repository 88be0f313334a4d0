-- What a count of bytes that were read says of the bytes.
use Rattle.std.specs.Prelude.{◌≡◌, ℕ, ◌≤◌, List, ◌++◌, length, take, Result, Ok, Err, codes}
use Rattle.std.specs.Fmt.{decimal}
use Rattle.whole_input.specs.declared.CutShort.{CutShort}

-- `&xs[..n]` is in bounds and has n bytes. The second part follows from the first, and spares a caller's `&buf[..n]` a proof file.
abbrev pub IsPrefixLen : ℕ → List ℕ → Type 0
IsPrefixLen n xs = (n ≤ length xs) × (n ≡ length (take n xs))

-- how many bytes were read, whether or not a read failed after them
abbrev pub bytes_read : Result ℕ CutShort → ℕ
bytes_read (Ok n) = n
bytes_read (Err cut) = cut.after

-- what a read that failed prints
abbrev pub cut_short_text : CutShort → List ℕ
cut_short_text cut = codes "a read failed after " ++ decimal cut.after ++ codes " bytes"
