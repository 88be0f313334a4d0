-- What an answer says in document 01's numbers, for the answers that are about a status or a text.
use Prim.Native.Nat.{ℕ}
use mathlib.Core.Path.{◌≡◌, ap}
use mathlib.Core.List.{List, [], ◌∷◌}
use Rattle.utf8.specs.Utf8.{Valid, BadFrom, first_bad}
use Rattle.utf8.proofs.Valid.{valid_good, place_bad}
use Rattle.kinds.specs.declared.kind.Kind.{Kind}
use Rattle.kinds.specs.Layout.{layout, kind_of}
use Rattle.kinds.proofs.Rows.{status_kind}
use Rattle.records.specs.Answers.{accepted, said_known}
use Rattle.standard.specs.Said.{said_utf8}

-- a kind's status is known as the kind that has it
pub said_kind : (k : Kind) → said_known (kind_of (layout k).status) ≡ accepted ((layout k).status ∷ [])
said_kind k = ap said_known (status_kind k)

-- valid text is accepted; text whose first bad character starts at byte n is refusal 11, and says n
pub said_valid : {t : List ℕ} → Valid t → said_utf8 (first_bad t) ≡ accepted []
said_valid v = ap said_utf8 (valid_good v)

pub said_bad : (t : List ℕ) (n : ℕ) → BadFrom t n → said_utf8 (first_bad t) ≡ record { refusal = 11; place = 0; values = n ∷ [] }
said_bad t n b = ap said_utf8 (place_bad t n b)
