-- `index::put_entries` meets its contract: with the entries of the chunks from here on stored after it, what stands there is the whole index.
-- Each chunk leaves fewer bytes; count and place fit the container. Assumes nothing.
use Rattle.std.specs.Prelude.{Option, None, Ok}
use mathlib.Core.Path.{◌≡◌, sym, ap, ◌∙◌}
use native.Mathlib.Omega.{arith}
use Rattle.chunk.specs.declared.Chunk.{Chunk}
use Rattle.walk.proofs.WalkLaws.{falls}
use Rattle.index.proofs.EntryLaws.{entered, entering_starts, entering_fits, entering_over, entering_refused, entering_found}
use Rattle.index.proofs.put_entries.Goals as goal

pub loop-chunk-init : goal.loop-chunk-init
loop-chunk-init c = entering_starts _ _ _ _

pub returns-in_default : goal.returns-in_default
returns-in_default c =
    let none : ◌≡◌ {A = Option Chunk} c.in_default.field-0 None = cc in
    entering_over _ _ _ _ _ _ c.loop-chunk.invariant (sym c.chunk_at.ensures ∙ c.in_default.is ∙ ap Ok none)

pub put_entry-count-requires : goal.put_entry-count-requires
put_entry-count-requires c = omega (arith, entering_fits _ _ _ _ _ _ c.loop-chunk.invariant)

pub overflow_add-place : goal.overflow_add-place
unfolding entered
overflow_add-place c =
    let more = entering_found _ _ _ _ _ _ c.loop-chunk.invariant _ (sym c.chunk_at.ensures ∙ c.in-Ok-Some.is ∙ ap Ok c.in-Ok-Some.field-0-is) in
    omega (arith, entering_fits _ _ _ _ _ _ more)

pub loop-chunk-smaller : goal.loop-chunk-smaller
loop-chunk-smaller c =
    falls _ _ _ _ (sym c.chunk_at.ensures ∙ c.in-Ok-Some.is ∙ ap Ok c.in-Ok-Some.field-0-is)

pub loop-chunk-preserved : goal.loop-chunk-preserved
unfolding entered
loop-chunk-preserved c =
    rw (c.video_in-place.ensures, c.put_entry-count.ensures.0, c.put_entry-count.ensures.1)
    (entering_found _ _ _ _ _ _ c.loop-chunk.invariant _ (sym c.chunk_at.ensures ∙ c.in-Ok-Some.is ∙ ap Ok c.in-Ok-Some.field-0-is))

pub returns-in_default-2 : goal.returns-in_default-2
returns-in_default-2 c =
    entering_refused _ _ _ _ _ _ c.loop-chunk.invariant _ (sym c.chunk_at.ensures ∙ c.in_default.is)
