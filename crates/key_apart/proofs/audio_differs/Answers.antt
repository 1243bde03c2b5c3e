-- `key_apart::audio_differs` meets its contract: the tests on the position are the definition's. Assumes nothing.
use borrow.Author.Tests.{lt-ltb, le-ltb, lt-leb}
use Rattle.mask.specs.Positions.{audio_differs}
use Rattle.key_apart.proofs.audio_differs.Goals as goal

pub returns-then-p-ge-TAIL : goal.returns-then-p-ge-TAIL
unfolding audio_differs
returns-then-p-ge-TAIL c = rw (le-ltb _ _ c.if-p-ge-TAIL.true)

pub returns-else-p-ge-TAIL : goal.returns-else-p-ge-TAIL
unfolding audio_differs
returns-else-p-ge-TAIL c = rw (lt-ltb _ _ c.if-p-ge-TAIL.false) (lt-leb 0x140 _ c.if-p-ge-TAIL.false)
