-- `film_apart::stream_apart` meets its contract: what is found from here on is what is found of the whole. Assumes nothing.
use Prim.Native.Nat.{◌-◌}
use lib.ListN.{length}
use Rattle.film_apart.proofs.ApartLaws.{Passing}
use Rattle.film_apart.proofs.stream_apart.Given as goal

abbrev pub invariant-loop-chunk : goal.invariant-loop-chunk
invariant-loop-chunk l = Passing l.stream l.codec l.key l.other l.container l.reading l.place l.at l.passed

abbrev pub decreases-loop-chunk : goal.decreases-loop-chunk
decreases-loop-chunk l = length l.container - l.at
