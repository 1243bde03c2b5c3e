-- `write::put_head` meets its contract: the head has 0x20 bytes. Assumes nothing.
use Rattle.laws.proofs.PutLaws.{put_as}
use Rattle.write.proofs.put_head.Goals as goal

pub returns : goal.returns
returns c = put_as c.put.ensures c.block_head-head.ensures
