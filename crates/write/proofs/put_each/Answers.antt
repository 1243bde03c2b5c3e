-- `write::put_each` meets its contract: one block, and with audio a second. Assumes nothing.
use Rattle.write.proofs.EachPutLaws.{first_fits, second_fits, both_put, one_put}
use Rattle.write.proofs.put_each.Goals as goal

pub put_block-at-requires : goal.put_block-at-requires
put_block-at-requires c =
    (first_fits (λ stream. c.args.inside.now) c.args.out.now c.args.at c.args.audio c.requires.0, c.requires.1)

pub put_block-requires : goal.put_block-requires
put_block-requires c =
    (second_fits (λ stream. c.args.inside.now) c.args.out.now c.args.at c.put_block-at.ensures c.args.audio c.if-audio.true c.requires.0, c.requires.1)

pub returns-then-audio : goal.returns-then-audio
returns-then-audio c =
    both_put (λ stream. c.args.inside.now) c.args.out.now c.args.at c.put_block-at.ensures c.args.audio c.if-audio.true c.put_block.ensures

pub returns : goal.returns
returns c =
    one_put (λ stream. c.args.inside.now) c.args.out.now c.args.at c.put_block-at.ensures c.args.audio c.if-audio.false
