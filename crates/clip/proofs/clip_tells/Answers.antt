-- `clip::clip_tells` meets its contract: it compares by the bits that the clip shows. Assumes nothing.
use Rattle.clip.specs.Clips.{clip_tells}
use Rattle.clip.proofs.clip_tells.Goals as goal

pub returns : goal.returns
unfolding clip_tells
returns c = rw c.bits_shown-bits.ensures
