-- `statement::put_lines` meets its contract: what stands there, with the lines from the rank on, is what all lines leave. Assumes nothing.
use native.Mathlib.Omega.{arith}
use Rattle.statement.proofs.LineLaws.{putting_starts, putting_length, putting_next, putting_over}
use Rattle.statement.proofs.put_lines.Goals as goal

pub loop-rank-init : goal.loop-rank-init
loop-rank-init c = putting_starts _ _ _

pub bounds-lines-rank : goal.bounds-lines-rank
bounds-lines-rank c = omega (arith, putting_length _ _ _ _ _ c.loop-rank.invariant)

pub loop-rank-preserved : goal.loop-rank-preserved
loop-rank-preserved c = rw c.line_at.ensures (putting_next _ _ _ _ _ c.loop-rank.invariant (omega arith))

pub returns : goal.returns
returns c = putting_over _ _ _ _ _ c.loop-rank.invariant (omega arith)
