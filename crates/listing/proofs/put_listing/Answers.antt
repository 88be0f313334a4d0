-- `put_listing` meets its contract, by the laws of `Room` and `Puts` of lines.
use mathlib.Core.Path.{refl}
use Rattle.ascii_lines.proofs.Puts.{◌⨾◌, says}
use Rattle.listing.proofs.Room.{too_long, all_listed}
use Rattle.listing.proofs.put_listing.Goals as goal

pub returns-then-bytes-gt32768 : goal.returns-then-bytes-gt32768
returns-then-bytes-gt32768 c = says c.put_text.ensures (too_long _ c.if-bytes-gt32768.true)

pub returns : goal.returns
returns c = let r = c.read_words-n.ensures in
    says (c.put_lines.ensures ⨾ c.put_end.ensures) (all_listed _ _ _ _ c.if-bytes-gt32768.false refl r.value r.words_after)
