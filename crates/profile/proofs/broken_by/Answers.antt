-- `profile::broken_by` meets its contract: its numbers are those that stand in the container. Assumes nothing.
use mathlib.Core.Path.{◌∙◌}
use Rattle.profile.proofs.NumberLaws.{by_numbers}
use Rattle.profile.proofs.broken_by.Goals as goal

pub returns : goal.returns
returns c =
    rw (c.read16-header.ensures.0, c.read32-block.ensures.0) at c.broken_in.ensures ∙ by_numbers _ _ _ _
