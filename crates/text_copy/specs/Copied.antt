-- COPYING A TEXT: the answer of `copy_text`, and the lent bytes after it.
use Rattle.std.specs.Prelude.{ℕ, List, [], ◌∷◌, ◌++◌, length, drop, leb, Result, Ok, Err}
use Rattle.laws.specs.Pick.{pick}
use Rattle.counts.specs.Counts.{byte}
use Rattle.kinds.specs.declared.kind.Kind.{Kind}
use Rattle.kinds.specs.declared.refusal.Refusal.TheVariants.{NoSuchField, NoRoom}
use Rattle.kinds.specs.Layout.{layout, has_text}
use Rattle.records.specs.Records.{kind_in}
use Rattle.records.specs.Answers.{Said, accepted, refused}
use Rattle.standard.specs.Reading.{read_of, text_at}
use Rattle.text_copy.specs.declared.NotCopied.{NotCopied}
use Rattle.text_copy.specs.declared.NotCopied.TheVariants as N
use Rattle.counts.specs.declared.TextByteNumber.{TextByteNumber}
use Rattle.records.specs.declared.message.Message.{Message}
use Rattle.kinds.specs.declared.refusal.Refusal.{Refusal}

-- the length of the text that was copied, or why none was
abbrev pub Copying : Type 0
Copying = Result TextByteNumber NotCopied

-- an answer, and the lent bytes after the call
pub record CopyOutcome : Type 0 where
  pub answer : Copying
  pub bytes : List ℕ

-- an answer that leaves the bytes as they are
abbrev pub unchanged : Copying → List ℕ → CopyOutcome
unchanged a out = record { answer = a; bytes = out }

-- the text t at the start of the bytes, and the rest of them unchanged; nothing if they have no room for all of it
abbrev pub copy_text : List ℕ → List ℕ → CopyOutcome
copy_text t out =
    pick (leb (length t) (length out))
    (record { answer = Ok (byte (length t)); bytes = t ++ drop (length t) out })
    (unchanged (Err (N.NoRoom (byte (length t)))) out)

-- the text of a message of this kind; a kind without text is refusal 13
abbrev pub copy_kind : Kind → List ℕ → List ℕ → CopyOutcome
copy_kind k ws out =
    pick (has_text (layout k).body) (copy_text (text_at k ws) out) (unchanged (Err (N.Refused NoSuchField)) out)

-- the text of what reading answered; a refusal of reading is the answer
abbrev pub copy_read : Result Message Refusal → List ℕ → List ℕ → CopyOutcome
copy_read (Ok m) ws out = copy_kind (kind_in m) ws out
copy_read (Err r) ws out = unchanged (Err (N.Refused r)) out

-- the text of the one message in the words
unfoldable pub copy_on : List ℕ → List ℕ → CopyOutcome
copy_on ws out = copy_read (read_of ws) ws out

-- the answer in document 01's numbers: the text's length is its value; no room is refusal 14
abbrev pub said_copy : Copying → Said
said_copy (Ok n) = accepted (n.0 ∷ [])
said_copy (Err (N.NoRoom n)) = refused NoRoom (n.0 ∷ [])
said_copy (Err (N.Refused r)) = refused r []
