-- `header_tables::next_after` meets its contract. Assumes nothing.
use native.Mathlib.Omega.{arith}
use Rattle.header_tables.specs.HeaderTables.{next_after}
use Rattle.header_tables.proofs.next_after.Goals as goal

pub returns : goal.returns
unfolding next_after
returns c = (rw c.read32.ensures.0, omega (arith, c.read32.ensures.1))
