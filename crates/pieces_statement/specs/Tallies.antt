-- Rules S: what a statement goes by, gathered chunk by chunk.
use Rattle.std.specs.Prelude.{ℕ, ◌+◌, max, min, Bool, true, false, ◌||◌, List, [], ◌∷◌, Option}
use Rattle.chunk.specs.declared.Chunk.{Chunk}
use Rattle.unmasking.specs.declared.Mask.{Mask}
use Rattle.unmasking.specs.declared.Mask.TheVariants.{Clear, VideoMask, AudioMask}
use Rattle.chunk_mask.specs.ChunkMasks.{mask_of}
use Rattle.walk.specs.Walks.{video_in, audio_in}
use Rattle.pieces_bits.specs.PayloadBits.{payload_bits}
use Rattle.pieces_statement.specs.declared.Tally.{Tally}

-- sizes that are added: the largest number of 64 bits stands for all that are larger
abbrev pub added : ℕ → ℕ → ℕ
added a b = min (a + b) 0xFFFFFFFFFFFFFFFF

-- rule C7 without the key
abbrev pub is_masked : Mask → Bool
is_masked Clear = false
is_masked VideoMask = true
is_masked AudioMask = true

-- the mask of a chunk's payload, in a film whose audio codec this is
abbrev pub mask_in : Option ℕ → Chunk → Mask
mask_in codec chunk = mask_of codec chunk.kind chunk.data_type

abbrev pub nothing : Tally
nothing = record { bits = 0; masked = false; video = 0; audio = 0 }

-- what one payload shows, a longer one shows too: so the largest number is that of all
abbrev pub with_chunk : Option ℕ → Tally → Chunk → Tally
with_chunk codec tally chunk = record {
  bits = max tally.bits (payload_bits (mask_in codec chunk) chunk.len);
  masked = tally.masked || is_masked (mask_in codec chunk);
  video = added tally.video (video_in chunk.kind chunk.len);
  audio = added tally.audio (audio_in chunk.kind chunk.len);
}

-- a tally with all of these chunks more
unfoldable pub with_chunks : Option ℕ → Tally → List Chunk → Tally
with_chunks codec tally [] = tally
with_chunks codec tally (chunk ∷ chunks) = with_chunks codec (with_chunk codec tally chunk) chunks

-- whether the payload of one of these chunks is masked
unfoldable pub some_masked : Option ℕ → List Chunk → Bool
some_masked codec [] = false
some_masked codec (chunk ∷ chunks) = is_masked (mask_in codec chunk) || some_masked codec chunks
