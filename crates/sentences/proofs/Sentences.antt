-- Which numbers have a sentence, and what C reads of sentences and names: they are printable, by a computed test of each.
use Rattle.std.specs.Prelude.{Option, Some, None}
use Prim.Native.Nat.{ℕ, zero, suc, ◌-◌, ◌≤◌}
use mathlib.Core.Path.{◌≡◌, refl}
use mathlib.Core.Bool.{Bool, true}
use mathlib.Core.List.{List, [], ◌∷◌}
use lib.ListN.{length, get_or, take, get_or-eq_default}
use Rattle.laws.specs.Pick.{both}
use Rattle.laws.proofs.Pick.{both_left, both_right}
use Rattle.kinds.specs.Layout.{kind_of}
use Rattle.kinds.proofs.Rows.{every_kind, at_kind}
use Rattle.sentences.specs.Strings.{as_string, c_text, printable}
use Rattle.sentences.specs.Sentences.{sentences, refusal_sentence, kind_name, known_name, status_name}
use Rattle.sentences.proofs.StringLaws.{string_read}
use Rattle.kinds.specs.declared.kind.Kind.{Kind}

pub other-number : (number : ℕ) → 15 ≤ number → refusal_sentence number ≡ []
unfolding sentences
other-number number h = get_or-eq_default sentences [] h

every_text : List (List ℕ) → Bool
every_text [] = true
every_text (text ∷ texts) = both (printable text) (every_text texts)

every_printable : (texts : List (List ℕ)) (n : ℕ) → every_text texts ≡ true → printable (get_or texts n []) ≡ true
unfolding every_text printable
every_printable [] n e = refl
every_printable (text ∷ texts) zero e = both_left (printable text) (every_text texts) e
every_printable (text ∷ texts) (suc n) e = every_printable texts n (both_right (printable text) (every_text texts) e)

sentence_printable : (number : ℕ) → printable (refusal_sentence number) ≡ true
unfolding sentences every_text printable both
sentence_printable number = every_printable sentences number refl

known_printable : (known : (Option Kind)) → printable (known_name known) ≡ true
unfolding kind_name printable both every_kind
known_printable (Some kind) = at_kind (λ k. printable (kind_name k)) refl kind
known_printable None = refl

name-printable : (status : ℕ) → printable (status_name status) ≡ true
name-printable status = known_printable (kind_of status)

pub sentence_read : (number : ℕ) (out : List ℕ) → c_text (as_string (refusal_sentence number) out) ≡ take (length out - 1) (refusal_sentence number)
sentence_read number out = string_read (refusal_sentence number) out (sentence_printable number)

pub name_read : (status : ℕ) (out : List ℕ) → c_text (as_string (status_name status) out) ≡ take (length out - 1) (status_name status)
name_read status out = string_read (status_name status) out (name-printable status)
