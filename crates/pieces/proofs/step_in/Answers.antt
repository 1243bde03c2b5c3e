-- `pieces::step_in` meets its contract: the length is tested before the window. Assumes nothing.
use borrow.Author.Tests.{lt-ltb, le-ltb}
use Rattle.pieces.specs.Pieces.{film_step}
use Rattle.pieces.proofs.step_in.Goals as goal

pub returns-then-total-gt-LONGEST : goal.returns-then-total-gt-LONGEST
unfolding film_step
returns-then-total-gt-LONGEST c = rw (c.refused.ensures, lt-ltb 0x40000000 _ c.if-total-gt-LONGEST.true)

pub returns : goal.returns
unfolding film_step
returns c = rw (le-ltb 0x40000000 _ c.if-total-gt-LONGEST.false) c.step_in.ensures
