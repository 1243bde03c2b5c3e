-- `film_move::back::old_size` meets its contract: what is measured fits a number, and is the sum. Assumes nothing.
use native.Mathlib.Omega.{arith}
use Rattle.turns.specs.declared.Form.TheVariants.{Old}
use Rattle.film_move.proofs.FromLaws.{stream_few}
use Rattle.film_move.proofs.OldPutLaws.{blocks_few}
use Rattle.film_move.proofs.back.old_size.Goals as goal

pub overflow_add-frame-2 : goal.overflow_add-frame-2
overflow_add-frame-2 c = omega (arith, blocks_few c.args.film.packing.audio _ c.blocks_size.ensures, c.padding.ensures, c.requires.0)

pub overflow_add-result : goal.overflow_add-result
overflow_add-result c =
    omega (arith, c.stream_size-audio.ensures, c.stream_size-video.ensures, stream_few Old c.args.film.turns.video, stream_few Old c.args.film.turns.audio, c.requires.1, c.requires.2)

pub overflow_add-result-2 : goal.overflow_add-result-2
overflow_add-result-2 c =
    omega (arith, c.stream_size-audio.ensures, c.stream_size-video.ensures, stream_few Old c.args.film.turns.video, stream_few Old c.args.film.turns.audio, blocks_few c.args.film.packing.audio _ c.blocks_size.ensures, c.padding.ensures, c.requires.0, c.requires.1, c.requires.2)

pub returns : goal.returns
returns c = rw (← c.padding.ensures, ← c.blocks_size.ensures, ← c.stream_size-video.ensures, ← c.stream_size-audio.ensures)
