-- `write_pieces::write_turn` meets its contract, by cases of what is written at the turn. Assumes nothing.
use mathlib.Core.Path.{sym, ◌∙◌}
use Rattle.write_pieces.proofs.TurnLaws.{turn_over, turn_next}
use Rattle.write_pieces.proofs.write_turn.Goals as goal

pub returns-in-None : goal.returns-in-None
returns-in-None c =
    turn_over c.args.packing _ _ _ (sym (rw c.audio_size-audio.ensures at c.turn_in.ensures) ∙ c.in-None.is) c.over.ensures

pub returns-in-Some : goal.returns-in-Some
returns-in-Some c =
    turn_next c.args.packing _ _ _ _ _ _ (sym (rw c.audio_size-audio.ensures at c.turn_in.ensures) ∙ c.in-Some.is) c.write_head-written.ensures c.piece_reply.ensures
