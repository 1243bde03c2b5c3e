-- `header::step_4` meets its contract: the block is read, and the walk goes on where the next stands. Assumes nothing.
use mathlib.Core.Path.{sym, ◌∙◌}
use Rattle.std.proofs.lemmas.Result.{err_from_is_err_and}
use Rattle.header.specs.Headers.{step4}
use Rattle.header.proofs.step_4.Goals as goal

pub returns : goal.returns
unfolding step4
returns c = rw (c.step_5.ensures, sym c.marker_block.ensures ∙ c.in_ok-next.was)

pub returns-in_err-next : goal.returns-in_err-next
unfolding step4
returns-in_err-next c =
    let p = err_from_is_err_and c.from_residual.result c.from_residual.ensures.1 in rw (p.1, p.2)
    (rw (sym c.marker_block.ensures ∙ c.in_err-next.was))
