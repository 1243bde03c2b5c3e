-- `header::step_2` meets its contract: the table gives the codec, and the walk goes on where the next block stands. Assumes nothing.
use mathlib.Core.Path.{sym, ◌∙◌}
use Rattle.std.proofs.lemmas.Result.{err_from_is_err_and}
use Rattle.header.specs.Headers.{step2}
use Rattle.header.proofs.step_2.Goals as goal

pub returns : goal.returns
unfolding step2
returns c = rw (c.step_3.ensures, sym c.codec_block.ensures ∙ c.in_ok-codec.was)

pub returns-in_err-codec : goal.returns-in_err-codec
unfolding step2
returns-in_err-codec c =
    let p = err_from_is_err_and c.from_residual.result c.from_residual.ensures.1 in rw (p.1, p.2)
    (rw (sym c.codec_block.ensures ∙ c.in_err-codec.was))
