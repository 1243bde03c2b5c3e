-- `key_apart::video_differs` meets its contract: the tests on the position are the definition's. Assumes nothing.
use borrow.Author.Tests.{lt-ltb, le-ltb}
use Rattle.mask.specs.Positions.{video_differs}
use Rattle.key_apart.proofs.video_differs.Goals as goal

pub returns-then-p-lt64 : goal.returns-then-p-lt64
unfolding video_differs
returns-then-p-lt64 c = rw (lt-ltb _ _ c.if-p-lt64.true)

pub returns-then-p-lt-TAIL : goal.returns-then-p-lt-TAIL
unfolding video_differs
returns-then-p-lt-TAIL c = rw (le-ltb _ _ c.if-p-lt64.false, lt-ltb _ _ c.if-p-lt-TAIL.true) c.head_row_differs.ensures

pub returns-else-p-lt-TAIL : goal.returns-else-p-lt-TAIL
unfolding video_differs
returns-else-p-lt-TAIL c = rw (le-ltb _ _ c.if-p-lt64.false, le-ltb _ _ c.if-p-lt-TAIL.false)
