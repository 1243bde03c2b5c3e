-- A film read piece by piece through C. Ours, beyond the rules.
use Rattle.std.specs.Prelude.{ℕ, List, not, eqb}
use Rattle.reading.specs.declared.Reading.{Reading}
use Rattle.reading.specs.Choices.{applied_to}
use Rattle.codec.specs.Numbers.{codec_by}
use Rattle.pieces.specs.Pieces.{film_step}
use Rattle.piece_replies.specs.declared.StepReply.{StepReply}
use Rattle.piece_replies.specs.PieceReplies.{step_reply}
use Rattle.usm.specs.declared.stepping.AudioBytes.{AudioBytes}

-- what a window says of a place. Without audio in the header none is taken, whatever is asked
abbrev pub stepped_by : List ℕ → ℕ → ℕ → Reading → AudioBytes → StepReply
stepped_by window place total asked audio =
    step_reply (codec_by audio.has_codec audio.codec) (film_step window total (applied_to (not (eqb audio.present 0)) asked) place)
