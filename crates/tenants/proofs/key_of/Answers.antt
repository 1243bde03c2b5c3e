-- The first that is found, or number 0 with key 0. Assumes nothing.
use Rattle.std.proofs.Common.{rules}
use Rattle.tenants.proofs.ChainLaws.{first_of_is}
use Rattle.tenants.proofs.key_of.Goals as goal

pub returns : goal.returns
returns c = rw first_of_is (search rules)
