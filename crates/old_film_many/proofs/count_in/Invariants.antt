-- `old_film_many::count_in` meets its contract: those counted, with those from here on, are all. Assumes nothing.
use Prim.Native.Nat.{◌-◌, ◌^◌}
use Rattle.old_film_many.proofs.CountLaws.{CountLeft}
use Rattle.old_film_many.proofs.count_in.Given as goal

abbrev pub invariant-loop-count : goal.invariant-loop-count
invariant-loop-count l = CountLeft l.container l.place l.count

abbrev pub decreases-loop-count : goal.decreases-loop-count
decreases-loop-count l = 2 ^ 32 - l.count
