-- `turns::read_turns` meets its contract: what is read so far, with what is read from here on, is all. Assumes nothing.
use Prim.Native.Nat.{◌+◌, ◌-◌, ◌*◌}
use mathlib.Core.Bool.{cond, ◌||◌}
use lib.ListN.{length}
use Rattle.turns.proofs.TurnLaws.{TurnsLeft}
use Rattle.turns.proofs.read_turns.Given as goal

abbrev pub invariant-loop-seen : goal.invariant-loop-seen
invariant-loop-seen l = TurnsLeft l.form l.audio l.bytes l.place l.from l.seen l.heard l.video l.sound l.marked

abbrev pub decreases-loop-seen : goal.decreases-loop-seen
decreases-loop-seen l = 2 * (length l.bytes - l.place) + cond (l.seen || l.heard) 1 0
