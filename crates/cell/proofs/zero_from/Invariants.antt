-- `cell::zero_from` meets its contract: the search from `i` on has the answer of the whole search. Assumes nothing.
use Rattle.std.proofs.Common.{◌≡◌, drop}
use Rattle.cell.specs.Parts.{zero_in}
use Rattle.cell.proofs.zero_from.Given as goal

abbrev pub invariant-loop-i : goal.invariant-loop-i
invariant-loop-i l = zero_in (drop l.i l.body) l.i ≡ zero_in (drop l.from l.body) l.from
