-- `lookup::marked_cell` meets its contract, by cases of the mark. Assumes nothing.
use mathlib.Core.Path.{sym, ap, ◌∙◌}
use Rattle.lookup.specs.Lookups.{marked_cell}
use Rattle.lookup.proofs.marked_cell.Goals as goal

pub returns-in-None : goal.returns-in-None
returns-in-None c = sym (ap (marked_cell _ _ _ _) c.in-None.is)

pub returns-in-Some : goal.returns-in-Some
returns-in-Some c = c.column_cell.ensures ∙ sym (ap (marked_cell _ _ _ _) c.in-Some.is)
