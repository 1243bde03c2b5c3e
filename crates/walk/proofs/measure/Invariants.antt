-- `walk::measure` meets its contract: what was added, with what the walk from here comes to, is what the whole walk comes to.
-- Each chunk leaves fewer bytes, and sums that fit the container do not wrap. There is at most one bit for each chunk. Assumes nothing.
use Rattle.std.proofs.Common.{◌-◌, ◌≤◌, length}
use Rattle.walk.proofs.SumLaws.{sums, Counting}
use Rattle.walk.proofs.measure.Given as goal

abbrev pub invariant-loop-chunk : goal.invariant-loop-chunk
invariant-loop-chunk l = Counting l.container l.reading l.place l.at (sums l.count l.video l.audio) × (l.bits ≤ l.count)

abbrev pub decreases-loop-chunk : goal.decreases-loop-chunk
decreases-loop-chunk l = length l.container - l.at
