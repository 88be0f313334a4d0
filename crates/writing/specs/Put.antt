-- The buffer after a record is written; a number that is too large is left out.
use Rattle.std.specs.Prelude.{ℕ, List}
use Rattle.text.specs.Written.{blank}
use Rattle.kinds.specs.Layout.{layout, parts}
use Rattle.records.specs.declared.message.Message.{Message}
use Rattle.records.specs.Records.{kind_in, values_of}
use Rattle.standard.specs.Heads.{head_word}
use Rattle.fields.specs.Puts.{put_ins}

-- every whole packet zero, then the head, and the record's fields put slot by slot
unfoldable pub put_record : Message → List ℕ → List ℕ
put_record m ws = put_ins (layout (kind_in m)).fields (parts (values_of m)) (blank (head_word (layout (kind_in m)).status 0) ws)
