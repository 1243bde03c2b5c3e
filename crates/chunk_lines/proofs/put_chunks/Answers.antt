-- `chunk_lines::put_chunks` meets its contract: with the lines of the chunks from here on put after it, what stands there is the text of all chunks.
-- Each chunk leaves fewer bytes, and the lines of a container of at most 16,384 bytes are short enough that no place wraps. Assumes nothing.
use Rattle.std.specs.Prelude.{Option, None, Ok}
use mathlib.Core.Path.{◌≡◌, sym, ap, ◌∙◌}
use Prim.Native.Nat.{ℕ}
use native.Mathlib.Omega.{arith}
use Rattle.chunk.specs.declared.Chunk.{Chunk}
use Rattle.walk.proofs.WalkLaws.{falls}
use Rattle.walk.proofs.PutLaws.{put_starts, put-over, put_refused, put-fits, put-found}
use Rattle.chunk_lines.proofs.LineLaws.{lines_short, put_whole}
use Rattle.chunk_lines.proofs.put_chunks.Goals as goal

pub loop-chunk-init : goal.loop-chunk-init
loop-chunk-init c = put_starts _ _ _ _ _

pub returns-in_default : goal.returns-in_default
returns-in_default c =
    let none : ◌≡◌ {A = Option Chunk} c.in_default.field-0 None = cc in
    put_whole (put-over _ _ _ _ _ _ _ _ c.loop-chunk.invariant (sym c.chunk_at.ensures ∙ c.in_default.is ∙ ap Ok none))

pub put_line-end-requires : goal.put_line-end-requires
put_line-end-requires c =
    let fits = put-fits _ _ _ _ _ _ _ _ c.loop-chunk.invariant _ (sym c.chunk_at.ensures ∙ c.in-Ok-Some.is ∙ ap Ok c.in-Ok-Some.field-0-is) in
    omega (arith, fits, lines_short c.args.container.now c.args.reading (λ (i : ℕ). omega (arith, c.shared_slice_known-1.given i)) c.requires c.args.place)

pub loop-chunk-smaller : goal.loop-chunk-smaller
loop-chunk-smaller c =
    falls _ _ _ _ (sym c.chunk_at.ensures ∙ c.in-Ok-Some.is ∙ ap Ok c.in-Ok-Some.field-0-is)

pub loop-chunk-preserved : goal.loop-chunk-preserved
loop-chunk-preserved c =
    put-found _ _ _ _ _ _ _ _ c.loop-chunk.invariant _ (sym c.chunk_at.ensures ∙ c.in-Ok-Some.is ∙ ap Ok c.in-Ok-Some.field-0-is) _ _ c.put_line-end.ensures.ends c.put_line-end.ensures.holds

pub returns-in_default-2 : goal.returns-in_default-2
returns-in_default-2 c =
    put_whole (put_refused _ _ _ _ _ _ _ _ c.loop-chunk.invariant _ (sym c.chunk_at.ensures ∙ c.in_default.is))
