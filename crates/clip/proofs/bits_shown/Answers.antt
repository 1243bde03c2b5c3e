-- `clip::bits_shown` meets its contract: each part is the definition's, and all of them together fit. Assumes nothing.
use Rattle.key.specs.LaneBits.{bits_in}
use Rattle.clip.proofs.bits_shown.Goals as goal

pub returns : goal.returns
unfolding bits_in
returns c =
    rw (
      c.bits_if-7.ensures.value,
      c.bits_if-6.ensures.value,
      c.bits_if-5.ensures.value,
      c.bits_if-4.ensures.value,
      c.bits_if-3.ensures.value,
      c.bits_if-2.ensures.value,
      c.bits_if.ensures.value,
      c.lanes_shown-shown.ensures,
    )
