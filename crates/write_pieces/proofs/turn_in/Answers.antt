-- `write_pieces::turn_in` meets its contract: even turns are the video's. Assumes nothing.
use Rattle.std.proofs.Common.{eq-eqb}
use borrow.Author.Tests.{ne_eqb}
use Rattle.write_pieces.specs.Turns.{turn_in}
use Rattle.write_pieces.proofs.TurnLaws.{or_is}
use Rattle.write_pieces.proofs.turn_in.Goals as goal

pub returns-then-turn-eq0 : goal.returns-then-turn-eq0
unfolding turn_in
returns-then-turn-eq0 c = rw (eq-eqb _ _ c.if-turn-eq0.true, c.or.ensures, or_is, c.piece_of.ensures, c.piece_of-sound.ensures)

pub returns : goal.returns
unfolding turn_in
returns c = rw (ne_eqb _ _ c.if-turn-eq0.false, c.or-2.ensures, or_is, c.piece_of-2.ensures, c.piece_of-sound.ensures)
