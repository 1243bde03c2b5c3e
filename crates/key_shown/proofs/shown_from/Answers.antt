-- `key_shown::shown_from` meets its contract: the most that was shown so far, with what the chunks from here on show, is what all show. Each chunk leaves fewer
-- bytes. Assumes nothing.
use Rattle.std.specs.Prelude.{Option, None, Ok}
use mathlib.Core.Path.{◌≡◌, sym, ap, ◌∙◌}
use Rattle.chunk.specs.declared.Chunk.{Chunk}
use Rattle.walk.proofs.WalkLaws.{falls}
use Rattle.key_shown.proofs.ShownLaws.{showing_starts, showing-over, showing-found, showing-refused}
use Rattle.key_shown.proofs.shown_from.Goals as goal

pub loop-chunk-init : goal.loop-chunk-init
loop-chunk-init c = showing_starts _ _ _ _

pub returns-in_default : goal.returns-in_default
returns-in_default c =
    let none : ◌≡◌ {A = Option Chunk} c.in_default.field-0 None = cc in
    showing-over _ _ _ _ _ _ c.loop-chunk.invariant (sym c.chunk_at.ensures ∙ c.in_default.is ∙ ap Ok none)

pub loop-chunk-smaller : goal.loop-chunk-smaller
loop-chunk-smaller c =
    falls _ _ _ _ (sym c.chunk_at.ensures ∙ c.in-Ok-Some.is ∙ ap Ok c.in-Ok-Some.field-0-is)

pub loop-chunk-preserved : goal.loop-chunk-preserved
loop-chunk-preserved c =
    showing-found _ _ _ _ _ _ c.loop-chunk.invariant _ (sym c.chunk_at.ensures ∙ c.in-Ok-Some.is ∙ ap Ok c.in-Ok-Some.field-0-is) _ (rw (c.max-most.ensures, c.shown_in.ensures))

pub returns-in_default-2 : goal.returns-in_default-2
returns-in_default-2 c =
    showing-refused _ _ _ _ _ _ c.loop-chunk.invariant _ (sym c.chunk_at.ensures ∙ c.in_default.is)
