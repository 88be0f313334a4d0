-- The message with given values, and the values after one setting and after a list of settings.
use Rattle.std.specs.Prelude.{ℕ, ◌*◌, List, take}
use Rattle.kinds.specs.declared.kind.Kind.{Kind}
use Rattle.kinds.specs.Fields.{Field, Setting, field_in, start}
use Rattle.kinds.specs.Layout.{layout}
use Rattle.records.specs.declared.message.Message.{Message}
use Rattle.records.specs.Records.{record_of}
use Rattle.standard.specs.Words.{encode}
use Rattle.standard.specs.Lists.{SettingAnswer, value_after, last_accepted}
use Rattle.promises.specs.Good.{text_for, packets_for}

-- the number of its packets
abbrev pub packets_needed : Kind → (Field → List ℕ) → ℕ
packets_needed k v = packets_for (layout k).body v

-- its record
abbrev pub record_for : Kind → (Field → List ℕ) → Message
record_for k v = record_of k (packets_needed k v) v

-- its text as given
abbrev pub text_given : Kind → (Field → List ℕ) → List ℕ
text_given k v = text_for (layout k).body v

-- its words in a buffer
abbrev pub words_for : Kind → List ℕ → (Field → List ℕ) → List ℕ
words_for k ws v = take (packets_needed k v * 4) (encode k ws v)

-- the values after a setting
abbrev pub changed : Kind → ℕ → Setting → (Field → List ℕ) → Field → List ℕ
changed k room s v f = value_after k room s f (v f)

-- the values after a list on a fresh message: each field's last accepted value, or its starting value
abbrev pub last_values : Kind → ℕ → List Setting → Field → List ℕ
last_values k room ss f = last_accepted k room f (start f) ss

-- the field of an answered setting
abbrev pub field_answered : SettingAnswer → Field
field_answered t = field_in t.setting
