-- `tenants::members` meets its contract: those counted before a tenant, with those from it on, are all. Assumes nothing.
use Rattle.tenants.specs.Tenants.{sharing}
use Rattle.tenants.proofs.LoopLaws.{Counting}
use Rattle.tenants.proofs.members.Given as goal

abbrev pub invariant-loop-tenant : goal.invariant-loop-tenant
invariant-loop-tenant l = Counting (sharing l.bits l.key) l.tenants l.tenant-index l.count
