-- `old_film_many::next_audios` meets its contract: the chunks of the turn before say whose chunks are next. Assumes nothing.
use Prim.Native.Nat.{◌-◌}
use Rattle.old_film_many.proofs.NextLaws.{NextLeft}
use Rattle.old_film_many.proofs.next_audios.Given as goal

abbrev pub invariant-loop-at : goal.invariant-loop-at
invariant-loop-at l = NextLeft l.bytes l.start l.end l.place l.from l.at l.last

abbrev pub decreases-loop-at : goal.decreases-loop-at
decreases-loop-at l = l.end - l.at
