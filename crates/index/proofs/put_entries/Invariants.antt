-- `index::put_entries` meets its contract: with the entries of the chunks from here on stored after it, what stands there is the whole index.
-- Each chunk leaves fewer bytes; count and place fit the container. Assumes nothing.
use Prim.Native.Nat.{◌-◌}
use lib.ListN.{length}
use Rattle.index.proofs.EntryLaws.{entries, Entering}
use Rattle.index.proofs.put_entries.Given as goal

abbrev pub invariant-loop-chunk : goal.invariant-loop-chunk
invariant-loop-chunk l = Entering l.container l.reading l.start l.initial.index l.at (entries l.count l.index l.place)

abbrev pub decreases-loop-chunk : goal.decreases-loop-chunk
decreases-loop-chunk l = length l.container - l.at
