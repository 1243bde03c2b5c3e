-- `seek::begun_by` meets its contract: what is found in the span at hand is what the whole index has, and each half is shorter. Assumes nothing.
use Rattle.seek.proofs.HalvingLaws.{Halving}
use Rattle.seek.proofs.begun_by.Given as goal

abbrev pub invariant-loop-span : goal.invariant-loop-span
invariant-loop-span l = Halving l.index l.byte l.span

abbrev pub decreases-loop-span : goal.decreases-loop-span
decreases-loop-span l = l.span.count
