-- `salvage::last_fit` meets its contract: what is left to walk has the answer of the whole. Each chunk leaves fewer bytes, and what a chunk needs lies
-- within the container. Assumes nothing.
use mathlib.Core.Path.{refl, sym, ap, ◌∙◌}
use native.Mathlib.Omega.{arith}
use Rattle.std.proofs.Common.{Ok}
use Rattle.chunk.proofs.FoundLaws.{found}
use Rattle.walk.proofs.WalkLaws.{falls}
use Rattle.salvage.proofs.FitLaws.{fit_over, fit_found, fit_refused}
use Rattle.salvage.proofs.last_fit.Goals as goal

pub loop-chunk-init : goal.loop-chunk-init
loop-chunk-init c = refl

pub returns-in-Ok-None : goal.returns-in-Ok-None
returns-in-Ok-None c = fit_over _ _ _ _ _ _ c.loop-chunk.invariant (sym c.chunk_at.ensures ∙ c.in-Ok-None.is ∙ ap Ok c.in-Ok-None.field-0-is)

pub need_of-requires : goal.need_of-requires
need_of-requires c =
    let w = found _ _ _ _ (sym c.chunk_at.ensures ∙ c.in-Ok-Some.is ∙ ap Ok c.in-Ok-Some.field-0-is) in
    (omega (arith, w.whole, w.start), omega (arith, w.inside))

pub loop-chunk-smaller : goal.loop-chunk-smaller
loop-chunk-smaller c =
    falls _ _ _ _ (sym c.chunk_at.ensures ∙ c.in-Ok-Some.is ∙ ap Ok c.in-Ok-Some.field-0-is)

pub loop-chunk-preserved : goal.loop-chunk-preserved
loop-chunk-preserved c =
    rw (c.max-need.ensures, c.need_of.ensures, c.fitted-best.ensures)
    (fit_found _ _ _ _ _ _ c.loop-chunk.invariant _ (sym c.chunk_at.ensures ∙ c.in-Ok-Some.is ∙ ap Ok c.in-Ok-Some.field-0-is))

pub returns-in-Err : goal.returns-in-Err
returns-in-Err c =
    rw c.fitted-place.ensures (fit_refused _ _ _ _ _ _ c.loop-chunk.invariant _ (sym c.chunk_at.ensures ∙ c.in-Err.is))
