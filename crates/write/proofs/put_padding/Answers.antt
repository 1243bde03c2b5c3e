-- `write::put_padding` meets its contract: as many zeros as are missing, at most 31. Assumes nothing.
use Rattle.std.proofs.Common.{arith}
use Rattle.write.proofs.put_padding.Goals as goal

pub put_zeros-requires : goal.put_zeros-requires
put_zeros-requires c = (omega (arith, c.padding.ensures), omega (arith, c.padding.ensures))

pub returns : goal.returns
returns c = rw c.padding.ensures at c.put_zeros.ensures
