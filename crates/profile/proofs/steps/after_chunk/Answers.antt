-- `profile::steps::after_chunk` meets its contract: an end chunk closes, another changes nothing. Assumes nothing.
use mathlib.Core.Path.{sym, ap, ◌∙◌}
use Rattle.profile.specs.Streams.{after_end}
use Rattle.profile.proofs.StepLaws.{closed_by, unchanged_by}
use Rattle.profile.proofs.steps.after_chunk.Goals as goal

pub returns-then-is_end : goal.returns-then-is_end
returns-then-is_end c =
    let a = c.args in
    c.after_end.ensures ∙ ap (after_end a.streams) c.read32.ensures.0 ∙ closed_by a.streams a.bytes.now _ (sym c.is_end.ensures ∙ c.if-is_end.true)

pub returns : goal.returns
returns c =
    let a = c.args in
    unchanged_by a.streams a.bytes.now _ (sym c.is_end.ensures ∙ c.if-is_end.false)
