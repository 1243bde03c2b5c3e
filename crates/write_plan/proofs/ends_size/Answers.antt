-- `write_plan::ends_size` meets its contract: 0x40 bytes for each stream that there is. Assumes nothing.
use mathlib.Core.Path.{sym, ap, ◌∙◌}
use Rattle.write_plan.specs.Sizes.{ends_size}
use Rattle.write_plan.proofs.LengthLaws.{ends_length}
use Rattle.write_plan.proofs.ends_size.Goals as goal

pub returns-then-audio : goal.returns-then-audio
returns-then-audio c = sym (ends_length c.args.audio ∙ ap ends_size c.if-audio.true)

pub returns-else-audio : goal.returns-else-audio
returns-else-audio c = sym (ends_length c.args.audio ∙ ap ends_size c.if-audio.false)
