-- `film_move::onward::put_ends` meets its contract: one chunk, and with audio a second. Assumes nothing.
use native.Mathlib.Omega.{arith}
use Rattle.film_move.proofs.EndLaws.{video_end_fits, audio_end_fits, both_ends, one_end}
use Rattle.film_move.proofs.onward.put_ends.Goals as goal

pub put_chunk-at-requires : goal.put_chunk-at-requires
put_chunk-at-requires c =
    (video_end_fits c.args.out.now c.args.at c.args.audio c.requires, omega arith)

pub put_chunk-requires : goal.put_chunk-requires
put_chunk-requires c =
    (audio_end_fits c.args.out.now c.args.at c.args.audio c.requires c.put_chunk-at.ensures c.if-audio.true, omega arith)

pub returns-then-audio : goal.returns-then-audio
returns-then-audio c =
    both_ends c.args.out.now c.args.at c.args.audio c.requires c.put_chunk-at.ensures c.if-audio.true c.put_chunk.ensures

pub returns : goal.returns
returns c =
    one_end c.args.out.now c.args.at c.args.audio c.requires c.put_chunk-at.ensures c.if-audio.false
