-- `key_shown::shown_from` meets its contract: the most that was shown so far, with what the chunks from here on show, is what all show. Each chunk leaves fewer
-- bytes. Assumes nothing.
use Prim.Native.Nat.{◌-◌}
use lib.ListN.{length}
use Rattle.key_shown.proofs.ShownLaws.{Showing}
use Rattle.key_shown.proofs.shown_from.Given as goal

abbrev pub invariant-loop-chunk : goal.invariant-loop-chunk
invariant-loop-chunk l = Showing l.adx l.container l.reading l.place l.at l.most

abbrev pub decreases-loop-chunk : goal.decreases-loop-chunk
decreases-loop-chunk l = length l.container - l.at
