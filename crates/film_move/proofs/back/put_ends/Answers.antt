-- `film_move::back::put_ends` meets its contract: one end, and with audio a second. Assumes nothing.
use Rattle.old_film.specs.Blocks.{old_head}
use Rattle.film_move.proofs.OldPutLaws.{video_end_fits, audio_end_fits, both_ends, one_end}
use Rattle.film_move.proofs.back.put_ends.Goals as goal

pub put-at-requires : goal.put-at-requires
unfolding old_head
put-at-requires c =
    video_end_fits c.args.audio c.args.out.now c.args.at c.requires

pub put-requires : goal.put-requires
unfolding old_head
put-requires c =
    audio_end_fits c.args.audio c.args.out.now c.args.at c.requires c.put-at.ensures c.if-audio.true

pub returns-then-audio : goal.returns-then-audio
unfolding old_head
returns-then-audio c =
    both_ends c.args.audio c.args.out.now c.args.at c.requires c.put-at.ensures c.if-audio.true c.put.ensures

pub returns : goal.returns
unfolding old_head
returns c =
    one_end c.args.audio c.args.out.now c.args.at c.requires c.put-at.ensures c.if-audio.false
