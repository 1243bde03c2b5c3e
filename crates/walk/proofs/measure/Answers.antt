-- `walk::measure` meets its contract: what was added, with what the walk from here comes to, is what the whole walk comes to.
-- Each chunk leaves fewer bytes, and sums that fit the container do not wrap. There is at most one bit for each chunk. Assumes nothing.
use Rattle.std.proofs.Common.{◌-◌, sym, ap, ◌∙◌, Ok, arith}
use Rattle.std.proofs.lemmas.Result.{err_from_is_err_and}
use Rattle.walk.proofs.WalkLaws.{falls}
use Rattle.walk.proofs.LoopLaws.{loop_starts}
use Rattle.walk.proofs.SumLaws.{sums_over, sums_found, found_fits, sums_refused}
use Rattle.chunk.proofs.EndLaws.{no_more}
use Rattle.walk.proofs.measure.Goals as goal

pub loop-chunk-init : goal.loop-chunk-init
loop-chunk-init c = (loop_starts _ _ _ _ _, omega arith)

pub overflow_add-count : goal.overflow_add-count
overflow_add-count c =
    omega (arith, found_fits _ _ _ _ _ c.loop-chunk.invariant.0 _ (sym c.chunk_at.ensures ∙ c.in_ok-chunk.was ∙ ap Ok c.in-Some.is))

pub overflow_add-video : goal.overflow_add-video
overflow_add-video c =
    omega (arith, found_fits _ _ _ _ _ c.loop-chunk.invariant.0 _ (sym c.chunk_at.ensures ∙ c.in_ok-chunk.was ∙ ap Ok c.in-Some.is))

pub overflow_add-audio : goal.overflow_add-audio
overflow_add-audio c =
    omega (arith, found_fits _ _ _ _ _ c.loop-chunk.invariant.0 _ (sym c.chunk_at.ensures ∙ c.in_ok-chunk.was ∙ ap Ok c.in-Some.is))

pub overflow_add-bits : goal.overflow_add-bits
overflow_add-bits c =
    omega (arith, found_fits _ _ _ _ _ c.loop-chunk.invariant.0 _ (sym c.chunk_at.ensures ∙ c.in_ok-chunk.was ∙ ap Ok c.in-Some.is))

pub loop-chunk-smaller : goal.loop-chunk-smaller
loop-chunk-smaller c =
    falls _ _ _ _ (sym c.chunk_at.ensures ∙ c.in_ok-chunk.was ∙ ap Ok c.in-Some.is)

pub loop-chunk-preserved : goal.loop-chunk-preserved
loop-chunk-preserved c =
    (rw (c.video_in-video.ensures, c.audio_in-audio.ensures) (sums_found _ _ _ _ _ c.loop-chunk.invariant.0 _ (sym c.chunk_at.ensures ∙ c.in_ok-chunk.was ∙ ap Ok c.in-Some.is)), omega arith)

pub returns-in_err-chunk : goal.returns-in_err-chunk
returns-in_err-chunk c =
    let p = err_from_is_err_and c.from_residual.result c.from_residual.ensures.1 in rw (p.1, p.2)
    (sums_refused _ _ _ _ _ c.loop-chunk.invariant.0 _ (sym c.chunk_at.ensures ∙ c.in_err-chunk.was))

pub returns : goal.returns
returns c =
    rw c.kept.ensures (sums_over _ _ _ _ _ c.loop-chunk.invariant.0 (sym c.chunk_at.ensures ∙ c.in_ok-chunk.was ∙ ap Ok (no_more _ c.in_default.not-Some)))
