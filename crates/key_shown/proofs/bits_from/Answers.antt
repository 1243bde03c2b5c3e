-- `key_shown::bits_from` meets its contract: the bits of a clip that shows as much. Assumes nothing.
use mathlib.Core.Path.{ap, ◌∙◌}
use Rattle.clip.specs.Clips.{bits_shown}
use Rattle.key_shown.proofs.bits_from.Goals as goal

pub returns : goal.returns
returns c = c.bits_shown.ensures ∙ ap bits_shown c.shown_from.ensures
