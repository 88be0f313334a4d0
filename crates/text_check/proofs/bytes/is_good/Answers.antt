-- `bytes::is_good` meets its contract: at the end all bytes are whole characters.
use Rattle.text_check.proofs.Skips.{all_skipped}
use Rattle.text_check.proofs.bytes.is_good.Goals as goal

pub returns : goal.returns
returns c = all_skipped _ _ c.loop-i-test.false c.loop-i.invariant
