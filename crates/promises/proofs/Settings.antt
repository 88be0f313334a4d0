-- DEMAND 3: the result and the answers of a list of settings on a fresh message, and that only the order within each field matters. From the law of one setting.
use Rattle.std.specs.Prelude.{Ok}
use Prim.Native.Nat.{ℕ, ◌*◌, ◌≤◌}
use mathlib.Core.Path.{◌≡◌, sym, ap, ◌∙◌, fun_ext}
use mathlib.Core.List.{List}
use lib.ListN.{length, take}
use Rattle.laws.specs.Lists.{map, nonzero}
use Rattle.counts.specs.Counts.{word}
use Rattle.kinds.specs.declared.kind.Kind.{Kind}
use Rattle.kinds.specs.Fields.{Field, Setting, field_in, start}
use Rattle.kinds.specs.Layout.{layout}
use Rattle.records.specs.declared.answers.Walked.TheVariants as W
use Rattle.standard.specs.Heads.{packets_of}
use Rattle.standard.specs.Reading.{read_of, text_at}
use Rattle.standard.specs.Walk.{walk_of}
use Rattle.standard.specs.Words.{fresh, encode, answer_to}
use Rattle.standard.specs.Lists.{set_all, with_answer, answer_all, last_accepted, only_field}
use Rattle.promises.specs.Good.{GoodValues}
use Rattle.promises.specs.Values.{packets_needed, record_for, text_given, last_values, field_answered}
use Rattle.promises.proofs.Encode.{fresh-encode, encode_read, encode_text, encode_walk, set_law, good_kept, start_good}
use Rattle.promises.proofs.Lists.{last_mixed, only_answered, all_set, all_answered, all_good}

module _ (k : Kind) (ws : List ℕ) (l : 4 ≤ length ws) where
  -- THE WORDS are those of each field's last accepted value, or its starting value
  pub settings_leave : (ss : List Setting) → set_all ss (fresh k ws) ≡ encode k ws (λ f. last_accepted k (packets_of ws) f (start f) ss)
  settings_leave ss = rw (fresh-encode k ws l) (all_set k ws (GoodValues k (packets_of ws)) (set_law k ws l) (good_kept k ws l) ss start (start_good k ws l))

  -- EACH ANSWER depends only on the kind, the number of whole packets and the setting
  pub settings_answer : (ss : List Setting) → answer_all ss (fresh k ws) ≡ map (λ s. with_answer s (answer_to (layout k) (packets_of ws) s)) ss
  settings_answer ss = rw (fresh-encode k ws l) (all_answered k ws (GoodValues k (packets_of ws)) (set_law k ws l) (good_kept k ws l) ss start (start_good k ws l))

  -- REORDERED: two lists with the same settings in the same order within each field give equal words, and the same answer to each setting
  pub settings_mixed : (ss ts : List Setting) → ((f : Field) → only_field field_in f ss ≡ only_field field_in f ts) → (set_all ss (fresh k ws) ≡ set_all ts (fresh k ws)) × ((f : Field) → only_field field_answered f (answer_all ss (fresh k ws)) ≡ only_field field_answered f (answer_all ts (fresh k ws)))
  settings_mixed ss ts e = (
    settings_leave ss ∙ ap (encode k ws) (fun_ext (λ f. last_mixed k (packets_of ws) f (start f) ss ts (e f))) ∙ sym (settings_leave ts),
    λ f. rw (settings_answer ss, settings_answer ts) (only_answered (answer_to (layout k) (packets_of ws)) f ss ∙ ap (map (λ s. with_answer s (answer_to (layout k) (packets_of ws) s))) (e f) ∙ sym (only_answered (answer_to (layout k) (packets_of ws)) f ts)),
  )

  -- ---- THE RESULT IS A MESSAGE of these values
  pub settings_good : (ss : List Setting) → GoodValues k (packets_of ws) (last_values k (packets_of ws) ss)
  settings_good ss = all_good k ws (GoodValues k (packets_of ws)) (set_law k ws l) (good_kept k ws l) ss start (start_good k ws l)

  -- it is read as their record
  pub settings_read : (ss : List Setting) → read_of (take (packets_needed k (last_values k (packets_of ws) ss) * 4) (set_all ss (fresh k ws))) ≡ Ok (record_for k (last_values k (packets_of ws) ss))
  settings_read ss = rw (settings_leave ss) (encode_read k ws l (last_values k (packets_of ws) ss) (settings_good ss))

  -- its text is the last accepted one without zeros
  pub settings_text : (ss : List Setting) → text_at k (take (packets_needed k (last_values k (packets_of ws) ss) * 4) (set_all ss (fresh k ws))) ≡ nonzero (text_given k (last_values k (packets_of ws) ss))
  settings_text ss = rw (settings_leave ss) (encode_text k ws l (last_values k (packets_of ws) ss) (settings_good ss))

  -- and the walk finds it, in the packets needed
  pub settings_walk : (ss : List Setting) → walk_of (set_all ss (fresh k ws)) 0 ≡ W.Message (record_for k (last_values k (packets_of ws) ss)) (word (packets_needed k (last_values k (packets_of ws) ss) * 4))
  settings_walk ss = rw (settings_leave ss) (encode_walk k ws l (last_values k (packets_of ws) ss) (settings_good ss))
