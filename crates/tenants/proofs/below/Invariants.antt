-- `tenants::below` meets its contract: those counted before a tenant, with those from it on, are all. Assumes nothing.
use Rattle.tenants.specs.Tenants.{is_below}
use Rattle.tenants.proofs.LoopLaws.{Counting}
use Rattle.tenants.proofs.below.Given as goal

abbrev pub invariant-loop-tenant : goal.invariant-loop-tenant
invariant-loop-tenant l = Counting (is_below l.number) l.tenants l.tenant-index l.count
