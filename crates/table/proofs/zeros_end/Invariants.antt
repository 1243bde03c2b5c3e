-- `table::zeros_end` meets its contract: the end among the first n bytes is the end among all. Assumes nothing.
use mathlib.Core.Path.{◌≡◌}
use Prim.Native.Nat.{◌≤◌}
use lib.ListN.{length}
use Rattle.table.specs.LastZero.{zeros_to}
use Rattle.table.proofs.zeros_end.Given as goal

abbrev pub invariant-loop-n : goal.invariant-loop-n
invariant-loop-n l = (zeros_to l.body l.n ≡ zeros_to l.body (length l.body)) × (l.n ≤ length l.body)

abbrev pub decreases-loop-n : goal.decreases-loop-n
decreases-loop-n l = l.n
