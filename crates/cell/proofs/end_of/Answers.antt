-- `cell::end_of` meets its contract: before the body no text ends. Assumes nothing.
use borrow.Author.Tests.{lt-ltb, le-ltb}
use Rattle.cell.proofs.end_of.Goals as goal

pub returns-then-place-lt-BODY : goal.returns-then-place-lt-BODY
returns-then-place-lt-BODY c = simp (lt-ltb _ _ c.if-place-lt-BODY.true)

pub returns : goal.returns
returns c = simp (le-ltb _ _ c.if-place-lt-BODY.false) c.zero_from.ensures
