-- `header::step_1` meets its contract: the table gives the name, and the walk goes on where the next block stands. Assumes nothing.
use mathlib.Core.Path.{sym, ◌∙◌}
use Rattle.std.proofs.lemmas.Result.{err_from_is_err_and}
use Rattle.header.specs.Headers.{step1}
use Rattle.header.proofs.step_1.Goals as goal

pub returns : goal.returns
unfolding step1
returns c = rw (c.step_2.ensures, sym c.name_block.ensures ∙ c.in_ok-name.was)

pub returns-in_err-name : goal.returns-in_err-name
unfolding step1
returns-in_err-name c =
    let p = err_from_is_err_and c.from_residual.result c.from_residual.ensures.1 in rw (p.1, p.2)
    (rw (sym c.name_block.ensures ∙ c.in_err-name.was))
