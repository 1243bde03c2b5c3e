-- Rule O9: the move. "Payloads travel as stored."
use Rattle.std.specs.Prelude.{ℕ, List, Bool}
use Rattle.turns.specs.declared.Form.{Form}
use Rattle.turns.specs.Turns.{chunks_of, read_in}

-- the chunks that bytes begin with in one container, as those of the other
unfoldable pub moved_from : Form → Form → Bool → List ℕ → List ℕ
moved_from old new audio bytes = chunks_of new (read_in old audio bytes).video (read_in old audio bytes).audio
