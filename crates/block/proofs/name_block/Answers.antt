-- `block::name_block` meets its contract: the table is read after a head that was read. Assumes nothing.
use mathlib.Core.Path.{sym, ◌∙◌}
use Rattle.std.proofs.lemmas.Result.{err_from_is_err_and}
use Rattle.block.specs.Blocks.{name_block}
use Rattle.block.proofs.name_block.Goals as goal

pub returns : goal.returns
unfolding name_block
returns c = rw (c.name_at.ensures, sym c.head_at.ensures ∙ c.in_ok-next.was)

pub returns-in_err-next : goal.returns-in_err-next
unfolding name_block
returns-in_err-next c =
    let p = err_from_is_err_and c.from_residual.result c.from_residual.ensures.1 in rw (p.1, p.2)
    (rw (sym c.head_at.ensures ∙ c.in_err-next.was))
