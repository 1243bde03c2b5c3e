-- `header::step_7` meets its contract: without audio it is step 8, and with audio what stands next decides. Assumes nothing.
use mathlib.Core.Path.{sym, ◌∙◌}
use Rattle.header.specs.Headers.{step7}
use Rattle.header.proofs.step_7.Goals as goal

pub returns-in-Sound : goal.returns-in-Sound
unfolding step7
returns-in-Sound c = rw (c.step_7_table.ensures, c.if-audio.true, sym c.ahead_at.ensures ∙ c.in-Sound.is)

pub returns-in-Other : goal.returns-in-Other
unfolding step7
returns-in-Other c = rw (c.step_8.ensures, c.if-audio.true, sym c.ahead_at.ensures ∙ c.in-Other.is)

pub returns-in-Cut : goal.returns-in-Cut
unfolding step7
returns-in-Cut c = rw (c.refused.ensures, c.if-audio.true, sym c.ahead_at.ensures ∙ c.in-Cut.is)

pub returns : goal.returns
unfolding step7
returns c = rw (c.step_8-2.ensures, c.if-audio.false)
