-- `header_tables::last_table` meets its contract, by the letters. Assumes nothing.
use mathlib.Core.Path.{sym, ◌∙◌}
use borrow.Author.Tests.{eq-eqb, ne_eqb}
use Rattle.header_tables.specs.HeaderTables.{last_table}
use Rattle.header_tables.proofs.last_table.Goals as goal

pub returns-then-read32-eq-SFA : goal.returns-then-read32-eq-SFA
unfolding last_table
returns-then-read32-eq-SFA c = rw (eq-eqb _ _ (sym c.read32.ensures.0 ∙ c.if-read32-eq-SFA.true))

pub returns-else-read32-eq-SFA : goal.returns-else-read32-eq-SFA
unfolding last_table
returns-else-read32-eq-SFA c = rw (ne_eqb _ _ (λ e. c.if-read32-eq-SFA.false (c.read32.ensures.0 ∙ e)))
