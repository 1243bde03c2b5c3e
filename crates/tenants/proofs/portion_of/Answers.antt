-- Even shares, and one more where the rank is below the remainder. Assumes nothing.
use Rattle.std.proofs.Common.{rules}
use Rattle.tenants.specs.Shares.{portion}
use Rattle.tenants.proofs.portion_of.Goals as goal

pub returns-then-members-eq0 : goal.returns-then-members-eq0
unfolding portion
returns-then-members-eq0 c = search rules

pub returns : goal.returns
unfolding portion
returns c = search rules
