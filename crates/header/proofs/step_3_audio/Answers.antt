-- `header::step_3_audio` meets its contract: the table gives the codec, and the walk goes on where the next block stands. Assumes nothing.
use mathlib.Core.Path.{sym, ◌∙◌}
use Rattle.std.proofs.lemmas.Result.{err_from_is_err_and}
use Rattle.header.specs.Headers.{step3_audio}
use Rattle.header.proofs.step_3_audio.Goals as goal

pub returns : goal.returns
unfolding step3_audio
returns c = rw (c.finished.ensures, c.step_4-end.ensures, sym c.codec_block.ensures ∙ c.in_ok-codec.was)

pub returns-in_err-codec : goal.returns-in_err-codec
unfolding step3_audio
returns-in_err-codec c =
    let p = err_from_is_err_and c.from_residual.result c.from_residual.ensures.1 in rw (p.1, p.2)
    (rw (sym c.codec_block.ensures ∙ c.in_err-codec.was))
