-- A number stands twice where the chain finds one that does. Assumes nothing.
use Rattle.std.proofs.Common.{rules}
use Rattle.tenants.proofs.ChainLaws.{some_is}
use Rattle.tenants.proofs.are_bad.Goals as goal

pub returns-else-tenants-gt-MOST : goal.returns-else-tenants-gt-MOST
returns-else-tenants-gt-MOST c = rw some_is (search rules)
