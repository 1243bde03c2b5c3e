-- Field by field. Assumes nothing.
use Rattle.std.proofs.Common.{rules}
use Rattle.tenants.specs.Shares.{line_of}
use Rattle.tenants.proofs.ChainLaws.{first_of_is, lowest_is}
use Rattle.tenants.proofs.line_at.Goals as goal

pub returns : goal.returns
unfolding line_of
returns c = rw (c.share_of-share.ensures, c.lowest_of-group.ensures, c.unwrap_or-tenant.ensures, first_of_is, lowest_is) (search rules)
