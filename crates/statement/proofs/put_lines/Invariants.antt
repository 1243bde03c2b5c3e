-- `statement::put_lines` meets its contract: what stands there, with the lines from the rank on, is what all lines leave. Assumes nothing.
use lib.ListN.{length}
use Rattle.tenants.specs.Shares.{line_at}
use Rattle.statement.proofs.LineLaws.{Putting}
use Rattle.statement.proofs.put_lines.Given as goal

abbrev pub invariant-loop-rank : goal.invariant-loop-rank
invariant-loop-rank l = Putting (line_at l.bits l.size l.tenants) (length l.tenants) l.initial.lines l.rank l.lines
