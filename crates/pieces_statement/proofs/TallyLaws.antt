-- A tally with chunks more is what it was, with what those chunks come to by themselves. Assumes nothing.
use Rattle.std.specs.Prelude.{Option}
use Prim.Native.Nat.{ℕ, ◌+◌, ◌≤◌, max, min}
use mathlib.Core.Path.{◌≡◌, refl, ◌∙◌}
use mathlib.Core.Bool.{Bool, true, false, ◌||◌}
use mathlib.Core.List.{List, [], ◌∷◌}
use native.Mathlib.Omega.{arith}
use Rattle.chunk.specs.declared.Chunk.{Chunk}
use Rattle.walk.specs.Walks.{video_in, audio_in, size_of, video_size, audio_size}
use Rattle.pieces_bits.specs.PayloadBits.{payload_bits, most_bits}
use Rattle.pieces_statement.specs.declared.Tally.{Tally}
use Rattle.pieces_statement.specs.Tallies.{added, is_masked, mask_in, nothing, with_chunks, some_masked}

abbrev most : ℕ
most = 0xFFFFFFFFFFFFFFFF

abbrev tally : ℕ → Bool → ℕ → ℕ → Tally
tally bits masked video audio = record { bits = bits; masked = masked; video = video; audio = audio }

same : (bits bits' : ℕ) (masked masked' : Bool) (video video' audio audio' : ℕ) → bits ≡ bits' → masked ≡ masked' → video ≡ video' → audio ≡ audio'
    → tally bits masked video audio ≡ tally bits' masked' video' audio'
same bits bits' masked masked' video video' audio audio' b m v a = rw (b, m, v, a)

or_later : (a b c : Bool) → ((a || b) || c) ≡ (a || (b || c))
or_later true b c = refl
or_later false b c = refl

or_none : (a : Bool) → a ≡ (a || false)
or_none true = refl
or_none false = refl

module _ (codec : Option ℕ) where
  all_gathered : (bits : ℕ) (masked : Bool) (video audio : ℕ) (chunks : List Chunk) → video ≤ most → audio ≤ most
      → with_chunks codec (tally bits masked video audio) chunks
      ≡ tally (max bits (most_bits codec chunks)) (masked || some_masked codec chunks) (min (video + video_size chunks) most) (min (audio + audio_size chunks) most)
  unfolding with_chunks most_bits some_masked size_of
  all_gathered bits masked video audio [] v a =
      same bits (max bits 0) masked (masked || false) video (min (video + 0) most) audio (min (audio + 0) most) (omega arith) (or_none masked) (omega arith) (omega arith)
  all_gathered bits masked video audio (chunk ∷ chunks) v a =
      let shows = payload_bits (mask_in codec chunk) chunk.len in
      let is = is_masked (mask_in codec chunk) in
      let videos = video_in chunk.kind chunk.len in
      let audios = audio_in chunk.kind chunk.len in
      all_gathered (max bits shows) (masked || is) (added video videos) (added audio audios) chunks (omega arith) (omega arith)
      ∙ same (max (max bits shows) (most_bits codec chunks)) (max bits (max shows (most_bits codec chunks))) ((masked || is) || some_masked codec chunks) (masked || (is || some_masked codec chunks))
      (min (added video videos + video_size chunks) most) (min (video + (videos + video_size chunks)) most)
      (min (added audio audios + audio_size chunks) most) (min (audio + (audios + audio_size chunks)) most)
      (omega arith) (or_later masked is (some_masked codec chunks)) (omega arith) (omega arith)

  -- from none on, of streams whose sizes fit
  pub whole_tally : (chunks : List Chunk) → video_size chunks + audio_size chunks ≤ 0x40000000
      → with_chunks codec nothing chunks ≡ record { bits = most_bits codec chunks; masked = some_masked codec chunks; video = video_size chunks; audio = audio_size chunks }
  whole_tally chunks fit =
      all_gathered 0 false 0 0 chunks (omega arith) (omega arith)
      ∙ same (max 0 (most_bits codec chunks)) (most_bits codec chunks) (some_masked codec chunks) (some_masked codec chunks) (min (0 + video_size chunks) most) (video_size chunks)
      (min (0 + audio_size chunks) most) (audio_size chunks) (omega arith) refl (omega arith) (omega arith)
