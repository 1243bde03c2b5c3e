-- `write::put_zeros` meets its contract: as many zeros as are asked for, of 32. Assumes nothing.
use Rattle.std.proofs.Common.{refl, sym}
use Rattle.laws.proofs.PutLaws.{put_as}
use Rattle.write.proofs.BlockPutLaws.{zeros_length, some_zeros}
use Rattle.write.proofs.put_zeros.Goals as goal

pub slice_bounds-put-end : goal.slice_bounds-put-end
slice_bounds-put-end c = sym (zeros_length _ c.requires.1)

pub put-requires : goal.put-requires
put-requires c = rw (zeros_length c.args.count c.requires.1) c.requires.0

pub returns : goal.returns
returns c = put_as c.put.ensures (some_zeros _ _ refl c.requires.1)
