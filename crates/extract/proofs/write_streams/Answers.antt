-- `extract::write_streams` meets its contract: what was written of each stream, with the pieces of the chunks from here on, is what the whole stream
-- leaves. Each chunk leaves fewer bytes, and each piece has room. Assumes nothing.
use Rattle.std.specs.Prelude.{◌≡◌, Option, None, Ok}
use Prim.Native.Nat.{◌-◌}
use mathlib.Core.Path.{sym, ap, ◌∙◌}
use native.Mathlib.Omega.{arith}
use Rattle.chunk.specs.declared.Chunk.{Chunk}
use Rattle.walk.proofs.WalkLaws.{falls}
use Rattle.extract.proofs.WrittenLaws.{none_written, as_long, all_written, all_before_refusal, room_for, one-more-written}
use Rattle.extract.proofs.write_streams.Goals as goal

pub loop-chunk-init : goal.loop-chunk-init
loop-chunk-init c = (none_written _ _ _ _ _, none_written _ _ _ _ _)

pub returns-in_default : goal.returns-in_default
returns-in_default c =
    let w = c.loop-chunk.invariant in
    let none : ◌≡◌ {A = Option Chunk} c.in_default.field-0 None = cc in
    let e = sym c.chunk_at.ensures ∙ c.in_default.is ∙ ap Ok none in
    (all_written _ _ _ _ _ _ _ _ w.0 e, all_written _ _ _ _ _ _ _ _ w.1 e)

pub returns-in_default-2 : goal.returns-in_default-2
returns-in_default-2 c =
    let w = c.loop-chunk.invariant in
    let e = sym c.chunk_at.ensures ∙ c.in_default.is in
    (all_before_refusal _ _ _ _ _ _ _ _ w.0 _ e, all_before_refusal _ _ _ _ _ _ _ _ w.1 _ e)

pub put_video-requires : goal.put_video-requires
put_video-requires c =
    let w = c.loop-chunk.invariant in
    room_for _ _ _ _ _ _ _ _ w.0 _ (sym c.chunk_at.ensures ∙ c.in-Ok-Some.is ∙ ap Ok c.in-Ok-Some.field-0-is) _ _ c.payload_of-payload.ensures.2 c.video_part-for_video.ensures c.requires.0

pub put_audio-requires : goal.put_audio-requires
put_audio-requires c =
    let w = c.loop-chunk.invariant in
    room_for _ _ _ _ _ _ _ _ w.1 _ (sym c.chunk_at.ensures ∙ c.in-Ok-Some.is ∙ ap Ok c.in-Ok-Some.field-0-is) _ _ c.payload_of-payload.ensures.2 c.audio_part-for_audio.ensures c.requires.1

pub overflow_add-seen : goal.overflow_add-seen
overflow_add-seen c =
    let w = c.loop-chunk.invariant in
    let e = sym c.chunk_at.ensures ∙ c.in-Ok-Some.is ∙ ap Ok c.in-Ok-Some.field-0-is in
    let room = room_for _ _ _ _ _ _ _ _ w.0 _ e _ _ c.payload_of-payload.ensures.2 c.video_part-for_video.ensures c.requires.0 in
    omega (arith, room, as_long _ _ _ _ _ _ _ _ w.0, c.well_formed)

pub overflow_add-heard : goal.overflow_add-heard
overflow_add-heard c =
    let w = c.loop-chunk.invariant in
    let e = sym c.chunk_at.ensures ∙ c.in-Ok-Some.is ∙ ap Ok c.in-Ok-Some.field-0-is in
    let room = room_for _ _ _ _ _ _ _ _ w.1 _ e _ _ c.payload_of-payload.ensures.2 c.audio_part-for_audio.ensures c.requires.1 in
    omega (arith, room, as_long _ _ _ _ _ _ _ _ w.1, c.well_formed)

pub loop-chunk-smaller : goal.loop-chunk-smaller
loop-chunk-smaller c =
    falls _ _ _ _ (sym c.chunk_at.ensures ∙ c.in-Ok-Some.is ∙ ap Ok c.in-Ok-Some.field-0-is)

pub loop-chunk-preserved : goal.loop-chunk-preserved
loop-chunk-preserved c =
    let w = c.loop-chunk.invariant in
    let e = sym c.chunk_at.ensures ∙ c.in-Ok-Some.is ∙ ap Ok c.in-Ok-Some.field-0-is in (
      one-more-written _ _ _ _ _ _ _ _ w.0 _ e _ _ c.payload_of-payload.ensures.2 c.video_part-for_video.ensures _ c.put_video.ensures,
      one-more-written _ _ _ _ _ _ _ _ w.1 _ e _ _ c.payload_of-payload.ensures.2 c.audio_part-for_audio.ensures _ c.put_audio.ensures,
    )
