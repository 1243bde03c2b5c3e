-- `salvage::last_fit` meets its contract: what is left to walk has the answer of the whole. Each chunk leaves fewer bytes, and what a chunk needs lies
-- within the container. Assumes nothing.
use Prim.Native.Nat.{◌-◌}
use lib.ListN.{length}
use Rattle.salvage.proofs.FitLaws.{Going}
use Rattle.salvage.proofs.last_fit.Given as goal

abbrev pub invariant-loop-chunk : goal.invariant-loop-chunk
invariant-loop-chunk l = Going l.container l.reading l.start l.at l.need l.best

abbrev pub decreases-loop-chunk : goal.decreases-loop-chunk
decreases-loop-chunk l = length l.container - l.at
