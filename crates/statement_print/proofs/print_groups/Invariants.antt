-- `statement_print::print_groups` is safe: it has not counted more groups than lines. Assumes nothing.
use Rattle.std.proofs.Common.{◌≤◌}
use Rattle.statement_print.proofs.print_groups.Given as goal

abbrev pub invariant-loop-tenant : goal.invariant-loop-tenant
invariant-loop-tenant l = l.groups ≤ l.tenant-index
