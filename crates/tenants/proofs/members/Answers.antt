-- `tenants::members` meets its contract: those counted before a tenant, with those from it on, are all. Assumes nothing.
use Rattle.std.proofs.Common.{arith, []}
use Rattle.tenants.proofs.LoopLaws.{counting_starts, counting_bit, counting_over}
use Rattle.tenants.proofs.members.Goals as goal

pub loop-tenant-init : goal.loop-tenant-init
loop-tenant-init c = counting_starts _ _

pub overflow_add-count : goal.overflow_add-count
overflow_add-count c =
    let next = counting_bit _ _ _ _ c.loop-tenant.invariant [] _ _ c.loop-tenant-test.true c.from-count.ensures c.shares.ensures in
    omega (arith, next.few, next.inside, c.well_formed)

pub loop-tenant-preserved : goal.loop-tenant-preserved
loop-tenant-preserved c = counting_bit _ _ _ _ c.loop-tenant.invariant [] _ _ c.loop-tenant-test.true c.from-count.ensures c.shares.ensures

pub returns : goal.returns
returns c = (counting_over _ _ _ _ c.loop-tenant.invariant (omega arith)).0
