-- `film_apart::stream_apart` meets its contract: what is found from here on is what is found of the whole. Assumes nothing.
use mathlib.Core.Path.{◌≡◌, sym, ap, ◌∙◌}
use Rattle.std.specs.Prelude.{Option, None, Ok}
use native.Mathlib.Omega.{arith}
use Rattle.chunk.specs.declared.Chunk.{Chunk}
use Rattle.walk.proofs.WalkLaws.{falls}
use Rattle.film_apart.proofs.ApartLaws.{passing_starts, passing_over, part-fits, passing_found, passing-next, passing_refused}
use Rattle.film_apart.proofs.stream_apart.Goals as goal

pub loop-chunk-init : goal.loop-chunk-init
loop-chunk-init c = passing_starts _ _ _ _ _ _ _

pub returns-in_default : goal.returns-in_default
returns-in_default c =
    let none : ◌≡◌ {A = Option Chunk} c.in_default.field-0 None = cc in
    passing_over _ _ _ _ _ _ _ _ _ c.loop-chunk.invariant (sym c.chunk_at.ensures ∙ c.in_default.is ∙ ap Ok none)

pub overflow_add-byte : goal.overflow_add-byte
overflow_add-byte c =
    omega (arith, part-fits _ _ _ _ _ _ _ _ _ c.loop-chunk.invariant _ (sym c.chunk_at.ensures ∙ c.in-Ok-Some.is ∙ ap Ok c.in-Ok-Some.field-0-is) _ c.part_in-part.ensures, c.well_formed)

pub returns-then-first-part : goal.returns-then-first-part
returns-then-first-part c =
    passing_found _ _ _ _ _ _ _ _ _ c.loop-chunk.invariant _ (sym c.chunk_at.ensures ∙ c.in-Ok-Some.is ∙ ap Ok c.in-Ok-Some.field-0-is) _ c.part_in-part.ensures
    _ c.mask_of-mask.ensures _ c.payload_apart-first.ensures c.if-first-part.true

pub overflow_add-passed : goal.overflow_add-passed
overflow_add-passed c =
    omega (arith, part-fits _ _ _ _ _ _ _ _ _ c.loop-chunk.invariant _ (sym c.chunk_at.ensures ∙ c.in-Ok-Some.is ∙ ap Ok c.in-Ok-Some.field-0-is) _ c.part_in-part.ensures, c.well_formed)

pub loop-chunk-smaller : goal.loop-chunk-smaller
loop-chunk-smaller c =
    falls _ _ _ _ (sym c.chunk_at.ensures ∙ c.in-Ok-Some.is ∙ ap Ok c.in-Ok-Some.field-0-is)

pub loop-chunk-preserved : goal.loop-chunk-preserved
loop-chunk-preserved c =
    passing-next _ _ _ _ _ _ _ _ _ c.loop-chunk.invariant _ (sym c.chunk_at.ensures ∙ c.in-Ok-Some.is ∙ ap Ok c.in-Ok-Some.field-0-is) _ c.part_in-part.ensures
    _ c.mask_of-mask.ensures _ c.payload_apart-first.ensures (omega arith)

pub returns-in_default-2 : goal.returns-in_default-2
returns-in_default-2 c =
    passing_refused _ _ _ _ _ _ _ _ _ c.loop-chunk.invariant _ (sym c.chunk_at.ensures ∙ c.in_default.is)
