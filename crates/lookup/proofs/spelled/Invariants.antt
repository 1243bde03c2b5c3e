-- `lookup::spelled` meets its contract: what is left to compare decides. Assumes nothing.
use Rattle.std.proofs.Common.{◌≡◌, ◌+◌, drop}
use Rattle.lookup.specs.Names.{spells}
use Rattle.lookup.proofs.spelled.Given as goal

abbrev pub invariant-loop-i : goal.invariant-loop-i
invariant-loop-i l = spells l.body (l.at + l.i) (drop l.i l.name) ≡ spells l.body l.at l.name
