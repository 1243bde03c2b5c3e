-- `tenants::members_below` meets its contract: those counted before a tenant, with those from it on, are all. Assumes nothing.
use Rattle.tenants.specs.Tenants.{sharing_below}
use Rattle.tenants.proofs.LoopLaws.{Counting}
use Rattle.tenants.proofs.members_below.Given as goal

abbrev pub invariant-loop-tenant : goal.invariant-loop-tenant
invariant-loop-tenant l = Counting (sharing_below l.bits l.key l.number) l.tenants l.tenant-index l.count
