-- `film_move::back::blocks_size` meets its contract: a law for each answer. Assumes nothing.
use Rattle.film_move.proofs.OldPutLaws.{both_size, one_size}
use Rattle.film_move.proofs.back.blocks_size.Goals as goal

pub returns-then-audio : goal.returns-then-audio
returns-then-audio c = both_size _ c.if-audio.true

pub returns : goal.returns
returns c = one_size _ c.if-audio.false
