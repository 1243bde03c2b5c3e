-- `film_move::putting::move_turns` meets its contract: what is put, with the turns from here on put after it, is what all turns leave. Assumes nothing.
use Prim.Native.Nat.{◌+◌, ◌-◌, ◌*◌}
use mathlib.Core.Bool.{cond, ◌||◌}
use lib.ListN.{length}
use Rattle.film_move.proofs.PutLaws.{MoveLeft}
use Rattle.film_move.proofs.putting.move_turns.Given as goal

abbrev pub invariant-loop-seen : goal.invariant-loop-seen
invariant-loop-seen l = MoveLeft l.old l.new l.audio l.bytes l.initial.out l.start l.out l.at l.place l.from l.seen l.heard

abbrev pub decreases-loop-seen : goal.decreases-loop-seen
decreases-loop-seen l = 2 * (length l.bytes - l.place) + cond (l.seen || l.heard) 1 0
