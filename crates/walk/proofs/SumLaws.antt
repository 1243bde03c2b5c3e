-- A loop that adds up: count and sizes of the chunks, and that they fit the container. Assumes nothing.
use Rattle.std.proofs.Common.{◌≡◌, ℕ, ◌+◌, ◌≤◌, List, [], ◌∷◌, length, sym, ap, ◌∙◌, add-zero, zero-add, arith, Some, None, Ok, Err}
use Rattle.refusal.specs.declared.Refusal.{Refusal}
use Rattle.reading.specs.declared.Applied.{Applied}
use Rattle.chunk.specs.declared.Chunk.{Chunk}
use Rattle.chunk.specs.Chunks.{chunk_at}
use Rattle.walk.specs.Walks.{walk_from, video_in, audio_in, size_of, video_size, audio_size, measure_of}
use Rattle.walk.proofs.WalkLaws.{sizes_fit, count_fits}
use Rattle.walk.proofs.LoopLaws.{gathered, Loop, loop_goes_on, loop_over, loop_refused}

pub record Sums : Type 0 where
  pub count : ℕ
  pub video : ℕ
  pub audio : ℕ

abbrev pub sums : ℕ → ℕ → ℕ → Sums
sums count video audio = record { count = count; video = video; audio = audio }

-- with a chunk more
abbrev pub added : Sums → Chunk → Sums
added s chunk = sums (s.count + 1) (s.video + video_in chunk.kind chunk.len) (s.audio + audio_in chunk.kind chunk.len)

added_up : (s : Sums) (chunks : List Chunk) → gathered added s chunks ≡ sums (s.count + length chunks) (s.video + video_size chunks) (s.audio + audio_size chunks)
unfolding gathered size_of
added_up s [] = rw (add-zero s.count, add-zero s.video, add-zero s.audio)
added_up s (chunk ∷ chunks) =
    let t = added s chunk in
    let n : t.count + length chunks ≡ s.count + length (chunk ∷ chunks) = omega arith in
    let v : t.video + video_size chunks ≡ s.video + video_size (chunk ∷ chunks) = omega arith in
    let a : t.audio + audio_size chunks ≡ s.audio + audio_size (chunk ∷ chunks) = omega arith in
    added_up t chunks ∙ rw (n, v, a)

all_added : (chunks : List Chunk) → gathered added (sums 0 0 0) chunks ≡ sums (length chunks) (video_size chunks) (audio_size chunks)
all_added chunks = added_up (sums 0 0 0) chunks ∙ rw (zero-add (length chunks), zero-add (video_size chunks), zero-add (audio_size chunks))

-- the loop of `measure` stands at c
abbrev pub Counting : List ℕ → Applied → ℕ → ℕ → Sums → Type 0
Counting container reading start c s = Loop added container reading start (sums 0 0 0) c s

sums_fit : (container : List ℕ) (reading : Applied) (start c : ℕ) (s : Sums) → Counting container reading start c s
    → (s.count ≤ length container) × (s.video + s.audio ≤ length container)
sums_fit container reading start c s loop =
    let rest = (walk_from container reading c).chunks in
    let e = sym (added_up s rest) ∙ loop.whole ∙ all_added (walk_from container reading start).chunks in
    let n = ap (λ (t : Sums). t.count) e in
    let v = ap (λ (t : Sums). t.video) e in
    let a = ap (λ (t : Sums). t.audio) e in
    omega (arith, n, v, a, sizes_fit container reading start, count_fits container reading start)

module _ (container : List ℕ) (reading : Applied) (start c : ℕ) (s : Sums) (loop : Counting container reading start c s) where
  pub sums_over : chunk_at container reading c ≡ Ok None → Ok (record { count = s.count; video = s.video; audio = s.audio }) ≡ measure_of (walk_from container reading start)
  unfolding measure_of
  sums_over e =
      let l = loop_over added container reading start (sums 0 0 0) c s loop e in
      rw (l.0 ∙ all_added (walk_from container reading start).chunks, ← l.1)

  pub sums_found : (chunk : Chunk) → chunk_at container reading c ≡ Ok (Some chunk) → Counting container reading start chunk.next (added s chunk)
  sums_found chunk e = loop_goes_on added container reading start (sums 0 0 0) c s loop chunk e

  -- with a chunk more the sums still fit
  pub found_fits : (chunk : Chunk) → chunk_at container reading c ≡ Ok (Some chunk)
      → (s.count + 1 ≤ length container) × (s.video + video_in chunk.kind chunk.len + (s.audio + audio_in chunk.kind chunk.len) ≤ length container)
  found_fits chunk e = sums_fit container reading start chunk.next (added s chunk) (sums_found chunk e)

  pub sums_refused : (refusal : Refusal) → chunk_at container reading c ≡ Err refusal → Err refusal ≡ measure_of (walk_from container reading start)
  unfolding measure_of
  sums_refused refusal e = rw (← (loop_refused added container reading start (sums 0 0 0) c s loop refusal e).1)
