-- `chunk::opening_of` meets its contract: each field is what was read. Assumes nothing.
use Rattle.chunk.specs.Openings.{opening_at}
use Rattle.chunk.proofs.opening_of.Goals as goal

pub returns : goal.returns
unfolding opening_at
returns c =
    rw (c.kind_of-kind.ensures, c.read32-block.ensures.0, c.read16-header.ensures.0, c.read16-footer.ensures.0, c.read8-channel.ensures.0, c.read8.ensures.0)
