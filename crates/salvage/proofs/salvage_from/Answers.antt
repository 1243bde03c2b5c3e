-- `salvage::salvage_from` meets its contract: the loop's answer is the last cut whose walk ends clean, and the header decides it. Assumes nothing.
use mathlib.Core.Path.{sym, ap, ◌∙◌}
use Rattle.reading.specs.Choices.{applied_to}
use Rattle.salvage.proofs.SalvageLaws.{kept_cut, kept_whole}
use Rattle.salvage.proofs.salvage_from.Goals as goal

pub returns-in-None : goal.returns-in-None
returns-in-None c =
    let applied = c.applied_to-applied.ensures ∙ ap (applied_to c.args.header.audio) c.how.ensures in
    kept_whole _ _ c.requires (rw (← applied) (sym c.last_fit.ensures ∙ c.in-None.is))

pub returns-in-Some : goal.returns-in-Some
returns-in-Some c =
    let applied = c.applied_to-applied.ensures ∙ ap (applied_to c.args.header.audio) c.how.ensures in
    rw c.cut_at.ensures (kept_cut _ _ c.requires c.in-Some.cut (rw (← applied) (sym c.last_fit.ensures ∙ c.in-Some.is)))
