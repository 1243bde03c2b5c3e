-- `salvage::salvage` meets its contract: the header's answer decides. Assumes nothing.
use mathlib.Core.Path.{sym, ◌∙◌}
use Rattle.std.proofs.lemmas.Result.{err_from_is_err_and}
use Rattle.salvage.specs.Salvage.{salvage_of}
use Rattle.salvage.proofs.salvage.Goals as goal

pub salvage_from-requires : goal.salvage_from-requires
salvage_from-requires c = rw (← c.how.ensures) (sym c.read_header.ensures ∙ c.in_ok-header.was)

pub returns : goal.returns
unfolding salvage_of
returns c =
    rw (← c.how.ensures, ← c.read_header.ensures, c.in_ok-header.was) c.salvage_from.ensures

pub returns-in_err-header : goal.returns-in_err-header
unfolding salvage_of
returns-in_err-header c =
    let p = err_from_is_err_and c.from_residual.result c.from_residual.ensures.1 in rw (p.1, p.2)
    (rw (← c.how.ensures, ← c.read_header.ensures, c.in_err-header.was))
