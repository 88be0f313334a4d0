-- The heads of text kinds, one word but for the format. Closed by the row's fields, and arithmetic.
use Prim.Native.Nat.{ℕ, ◌+◌, ◌*◌}
use mathlib.Core.Path.{◌≡◌}
use mathlib.Core.List.{List, []}
use native.Mathlib.Omega.{arith}
use Rattle.laws.specs.Lists.{map}
use Rattle.slots.specs.Slots.{get, put, put_all, those}
use Rattle.kinds.specs.declared.kind.Kind.{Kind}
use Rattle.kinds.specs.declared.kind.Kind.TheVariants as K
use Rattle.kinds.specs.Fields.{Field, joined, part_of, same, decided}
use Rattle.kinds.specs.Layout.{layout, held, values_in}
use Rattle.kinds.proofs.Rows.{status_small}
use Rattle.standard.specs.Words.{put_word, head_of}
use Rattle.buffer.specs.Acts.{formatted}
use Rattle.text_settings.specs.Texts.{upper_of, block_head}

-- of a kind without fields
pub plain_head : (k : Kind) (v : Field → List ℕ) → (layout k).fields ≡ [] → (format : ℕ) → head_of (layout k) v format ≡ formatted (0xF000_0000 + (layout k).status * 0x1_0000) format
unfolding put_word put_all
plain_head k v e format = let s = status_small k in rw e (omega arith)

-- a block name keeps the number of its first packet
pub block-heads : (ws : List ℕ) (format : ℕ) → head_of (layout K.FunctionBlockName) (values_in (layout K.FunctionBlockName).fields ws) format ≡ formatted (block_head ws) format
unfolding layout put_word put_all put get values_in held map those same decided joined part_of block_head
block-heads ws format = omega arith

pub block_upper : (ws : List ℕ) → upper_of (block_head ws) ≡ 0xF012
unfolding block_head
block_upper ws = omega arith
