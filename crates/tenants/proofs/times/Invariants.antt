-- `tenants::times` meets its contract: those counted before a tenant, with those from it on, are all. Assumes nothing.
use Rattle.tenants.specs.Tenants.{has_number}
use Rattle.tenants.proofs.LoopLaws.{Counting}
use Rattle.tenants.proofs.times.Given as goal

abbrev pub invariant-loop-tenant : goal.invariant-loop-tenant
invariant-loop-tenant l = Counting (has_number l.number) l.tenants l.tenant-index l.count
