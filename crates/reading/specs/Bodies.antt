-- Parts of reading that are functions in the code: the fields of several packets, and the rules.
use Rattle.std.specs.Prelude.{ℕ, ◌-◌, List, Result, Ok, Err}
use Rattle.kinds.specs.declared.kind.Kind.{Kind}
use Rattle.kinds.specs.declared.refusal.Refusal.TheVariants.{WrongType, BlockNumberDiffers, NotUtf8}
use Rattle.kinds.specs.Layout.{layout, kind_of}
use Rattle.table.specs.Rows.{offset_in}
use Rattle.standard.specs.Heads.{status_of, packets_of, head_at}
use Rattle.standard.specs.Reading.{ruled, other_type, other_field, read_known, read_body}
use Rattle.laws.specs.Pick.{pick}
use Rattle.utf8.specs.Utf8.{first_bad}
use Rattle.text.specs.Bytes.{text_of}
use Rattle.text_check.specs.FastCheck.{is_good}
use Rattle.records.specs.declared.message.Message.{Message}
use Rattle.kinds.specs.declared.refusal.Refusal.{Refusal}

-- octets between octet 2 and the text of a kind: if there are some, each packet of the kind has a field there
abbrev pub offset_of : Kind → ℕ
offset_of k = offset_in (layout k).body

-- refusal 11 where the text is not UTF-8
unfoldable pub text_checked : Kind → List ℕ → Result (Unit {0}) Refusal
text_checked k ws = pick (is_good (first_bad (text_of ws (14 - offset_of k) (packets_of ws)))) (Ok tt) (Err NotUtf8)

-- refusal 8, and what comes after it
unfoldable pub fields_read : Kind → List ℕ → Result Message Refusal
fields_read k ws = ruled (other_field (layout k).fields ws) (packets_of ws) BlockNumberDiffers (read_body k ws)

-- refusal 4, and what comes after it
unfoldable pub rules_read : List ℕ → Result Message Refusal
rules_read ws = ruled (other_type ws) (packets_of ws) WrongType (read_known (kind_of (status_of (head_at ws 0))) ws)
