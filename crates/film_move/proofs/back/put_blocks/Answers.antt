-- `film_move::back::put_blocks` meets its contract: the video's block, and with audio its own. Assumes nothing.
use Rattle.film_move.proofs.OldPutLaws.{video_block_fits, audio-block-fits, both-blocks, one_block}
use Rattle.film_move.proofs.back.put_blocks.Goals as goal

pub put-at-requires : goal.put-at-requires
put-at-requires c =
    let a = c.args in
    rw c.video_block-block.ensures (video_block_fits a.video a.audio a.out.now a.at c.requires)

pub put-requires : goal.put-requires
put-requires c =
    let a = c.args in
    rw c.audio_block-block.ensures (audio-block-fits a.video a.audio a.out.now a.at c.requires (rw c.video_block-block.ensures at c.put-at.ensures) c.if-audio.true)

pub returns-then-audio : goal.returns-then-audio
returns-then-audio c =
    let a = c.args in
    both-blocks a.video a.audio a.out.now a.at c.requires (rw c.video_block-block.ensures at c.put-at.ensures) c.if-audio.true
    (rw c.audio_block-block.ensures at c.put.ensures)

pub returns : goal.returns
returns c =
    let a = c.args in
    one_block a.video a.audio a.out.now a.at c.requires (rw c.video_block-block.ensures at c.put-at.ensures) c.if-audio.false
