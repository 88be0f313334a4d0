-- `store_byte` meets its contract, by the laws of `Page`.
use Rattle.ascii_lines.proofs.Page.{put_here, put_full}
use Rattle.ascii_lines.proofs.store_byte.Goals as goal

pub returns-then-at-out : goal.returns-then-at-out
returns-then-at-out c = put_here _ _ _ c.if-at-out.true

pub returns : goal.returns
returns c = put_full _ _ _ c.if-at-out.false
