-- Fixed kinds: the buffer of given values, and a setting on it. From the laws of a table, for any row.
use Prim.Native.Nat.{ℕ, ◌≤◌}
use mathlib.Core.Path.{◌≡◌, refl, ap, ◌∙◌}
use mathlib.Core.Bool.{true}
use mathlib.Core.List.{List}
use native.Mathlib.Omega.{arith}
use lib.ListN.{length}
use Rattle.laws.specs.Lists.{tabulate, nonzero}
use Rattle.slots.specs.Slots.{get, put_all, fits, apart_from_all, disjoint, words_below, reads}
use Rattle.slots.proofs.Slots.{length-put_all, get_apart_all, put_those, reads_all}
use Rattle.text.specs.Octets.{needed, due_format}
use Rattle.text.specs.Written.{blank}
use Rattle.text.specs.Bytes.{all_bytes}
use Rattle.text.proofs.Written.{length-blank, blank-first}
use Rattle.kinds.specs.Fields.{Field, Setting, field_in, value_in, same}
use Rattle.kinds.specs.Layout.{Part, fixed, Row, slots_of, parts, head_slot}
use Rattle.records.specs.Settings.{with}
use Rattle.records.proofs.With.{parts-with}
use Rattle.standard.specs.Heads.{head_word, head_at}
use Rattle.standard.specs.Words.{encode_in, act_in}
use Rattle.promises.specs.Good.{packets_for}
use Rattle.promises.proofs.Laid.{top_bits, Laid}

module _ (r : Row) (ws : List ℕ) (v : Field → List ℕ) where
  abbrev base : List ℕ
  base = blank (head_word r.status 0) ws

  pub fixed_length : length (encode_in fixed r ws v) ≡ length ws
  unfolding encode_in
  fixed_length = length-put_all r.fields _ _ ∙ length-blank _ ws

  module _ (so : disjoint r.fields ≡ true) (f : fits r.fields (parts v) ≡ true) where
    -- A SETTING of a field of a fixed kind
    pub fixed_acted : (n : ℕ) (s : Setting) → fits (slots_of (field_in s) r.fields) (parts (λ g. value_in s)) ≡ true → act_in fixed r n s (encode_in fixed r ws v) ≡ encode_in fixed r ws (with (field_in s) (value_in s) v)
    unfolding encode_in act_in
    fixed_acted n s a =
        put_those (λ p. same p.field (field_in s)) (parts (λ g. value_in s)) (parts v) r.fields base so a f
        ∙ ap (λ (u : Part → ℕ). put_all r.fields u base) (parts-with (field_in s) (value_in s) v)

    module _ (cl : apart_from_all head_slot r.fields ≡ true) (lo : words_below 4 r.fields ≡ true) (l : 4 ≤ length ws) where
      head_kept : top_bits (head_at (encode_in fixed r ws v) 0) ≡ top_bits (head_word r.status 0)
      unfolding encode_in get
      head_kept = get_apart_all head_slot r.fields (parts v) base cl f ∙ ap top_bits (blank-first _ ws l)

      -- each slot holds its part
      fixed_reads : reads r.fields (parts v) (encode_in fixed r ws v)
      unfolding encode_in
      fixed_reads = reads_all 4 r.fields (parts v) base (rw length-blank l) lo so f

      pub fixed_laid : Laid fixed r (packets_for fixed v) v (encode_in fixed r ws v)
      unfolding needed due_format all_bytes tabulate nonzero
      fixed_laid =
          record {
            some = omega arith;
            room = rw fixed_length l;
            heads = λ p h. let e : p ≡ 0 = omega arith in rw e head_kept;
            fields = λ p h. let e : p ≡ 0 = omega arith in rw e fixed_reads;
            text = refl;
          }
