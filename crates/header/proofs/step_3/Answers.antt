-- `header::step_3` meets its contract: what stands next decides. Assumes nothing.
use mathlib.Core.Path.{sym, ◌∙◌}
use Rattle.header.specs.Headers.{step3}
use Rattle.header.proofs.step_3.Goals as goal

pub returns-in-Sound : goal.returns-in-Sound
unfolding step3
returns-in-Sound c = rw (c.step_3_audio.ensures, sym c.ahead_at.ensures ∙ c.in-Sound.is)

pub returns-in-Other : goal.returns-in-Other
unfolding step3
returns-in-Other c = rw (c.finished.ensures, c.step_4-end.ensures, sym c.ahead_at.ensures ∙ c.in-Other.is)

pub returns-in-Cut : goal.returns-in-Cut
unfolding step3
returns-in-Cut c = rw (c.refused.ensures, sym c.ahead_at.ensures ∙ c.in-Cut.is)
