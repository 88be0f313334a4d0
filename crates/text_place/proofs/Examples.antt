-- Two examples from the start: case 9 of document 01, whose text has a zero inside, and the block name of its listing. Proved by computation.
use Rattle.std.specs.Prelude.{Some, None}
use mathlib.Core.Path.{◌≡◌, refl}
use mathlib.Core.List.{[], ◌∷◌}
use Rattle.laws.specs.Lists.{tabulate}
use Rattle.text.specs.Octets.{octet_of}
use Rattle.text.specs.Bytes.{text_byte, all_bytes}
use Rattle.text.specs.Place.{seek, step_at}
use Rattle.text.specs.Handed.{start_place, end_place, place_after}
use Rattle.kinds.specs.Layout.{layout}
use Rattle.standard.specs.Place.{offset_here}
use Rattle.text_place.specs.Lent.{answers, left_after}

pub case-nine :
    (answers 4 (0xF003C300 ∷ 0xA9000000 ∷ 0 ∷ 0 ∷ []) start_place ≡ Some 0xC3 ∷ Some 0xA9 ∷ None ∷ None ∷ [])
    × (left_after 4 (0xF003C300 ∷ 0xA9000000 ∷ 0 ∷ 0 ∷ []) start_place ≡ end_place (0xF003C300 ∷ 0xA9000000 ∷ 0 ∷ 0 ∷ []))
unfolding tabulate octet_of text_byte all_bytes seek step_at place_after layout offset_here answers
case-nine = (refl, refl)

pub block-name : answers 3 (0xF0120541 ∷ 0 ∷ 0 ∷ 0 ∷ []) start_place ≡ Some 0x41 ∷ None ∷ None ∷ []
unfolding tabulate octet_of text_byte all_bytes seek step_at layout offset_here answers
block-name = refl
