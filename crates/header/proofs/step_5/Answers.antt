-- `header::step_5` meets its contract: without audio it is step 6, and with audio a block is read before it. Assumes nothing.
use mathlib.Core.Path.{sym, ◌∙◌}
use Rattle.std.proofs.lemmas.Result.{err_from_is_err_and}
use Rattle.header.specs.Headers.{step5}
use Rattle.header.proofs.step_5.Goals as goal

pub returns-then-audio : goal.returns-then-audio
unfolding step5
returns-then-audio c = rw (c.step_6.ensures, c.if-audio.true, sym c.marker_block.ensures ∙ c.in_ok-next.was)

pub returns-in_err-next : goal.returns-in_err-next
unfolding step5
returns-in_err-next c =
    let p = err_from_is_err_and c.from_residual.result c.from_residual.ensures.1 in rw (p.1, p.2)
    (rw (c.if-audio.true, sym c.marker_block.ensures ∙ c.in_err-next.was))

pub returns : goal.returns
unfolding step5
returns c = rw (c.step_6-2.ensures, c.if-audio.false)
