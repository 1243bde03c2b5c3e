-- `header::step_7_video` meets its contract: the block is read, and the walk goes on where the next stands. Assumes nothing.
use mathlib.Core.Path.{sym, ◌∙◌}
use Rattle.std.proofs.lemmas.Result.{err_from_is_err_and}
use Rattle.header.specs.Headers.{step7_video}
use Rattle.header.proofs.step_7_video.Goals as goal

pub returns : goal.returns
unfolding step7_video
returns c = rw (c.step_7_audio.ensures, sym c.marker_block.ensures ∙ c.in_ok-next.was)

pub returns-in_err-next : goal.returns-in_err-next
unfolding step7_video
returns-in_err-next c =
    let p = err_from_is_err_and c.from_residual.result c.from_residual.ensures.1 in rw (p.1, p.2)
    (rw (sym c.marker_block.ensures ∙ c.in_err-next.was))
