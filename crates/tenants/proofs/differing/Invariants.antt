-- `tenants::differing` meets its contract: those counted before a tenant, with those from it on, are all. Assumes nothing.
use Rattle.tenants.specs.Tenants.{sharing_otherwise}
use Rattle.tenants.proofs.LoopLaws.{Counting}
use Rattle.tenants.proofs.differing.Given as goal

abbrev pub invariant-loop-tenant : goal.invariant-loop-tenant
invariant-loop-tenant l = Counting (sharing_otherwise l.bits l.key) l.tenants l.tenant-index l.count
