-- `write::put_block` meets its contract: its head, what it holds, and its padding. Assumes nothing.
use mathlib.Core.Path.{refl}
use Rattle.write.proofs.BlockPutLaws.{head_fits, inside_fits, padding-fits, block-put}
use Rattle.write.proofs.put_block.Goals as goal

pub put_head-at-requires : goal.put_head-at-requires
put_head-at-requires c =
    (head_fits c.args.letters c.args.inside.now c.args.out.now _ _ refl c.requires.0, c.requires.1)

pub put-at-requires : goal.put-at-requires
put-at-requires c =
    inside_fits c.args.letters c.args.inside.now c.args.out.now _ _ refl c.requires.0 c.put_head-at.ensures

pub put_padding-requires : goal.put_padding-requires
put_padding-requires c =
    padding-fits c.args.letters c.args.inside.now c.args.out.now _ _ refl c.requires.0 c.put_head-at.ensures c.put-at.ensures

pub returns : goal.returns
returns c =
    block-put c.args.letters c.args.inside.now c.args.out.now _ _ refl c.requires.0 c.put_head-at.ensures c.put-at.ensures c.put_padding.ensures
