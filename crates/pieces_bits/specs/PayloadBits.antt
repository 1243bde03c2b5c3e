-- Rule D5a: the bits of a key that a payload shows, and those that a film's payloads show together.
use Rattle.std.specs.Prelude.{ℕ, max, cond, List, [], ◌∷◌, ltb, Option}
use Rattle.chunk.specs.declared.Chunk.{Chunk}
use Rattle.clip.specs.Clips.{bits_shown}
use Rattle.unmasking.specs.declared.Mask.{Mask}
use Rattle.unmasking.specs.declared.Mask.TheVariants.{Clear, VideoMask, AudioMask}
use Rattle.chunk_mask.specs.ChunkMasks.{mask_of}

-- "below 0x240 bytes both answers are the payload"
abbrev pub video_bits : ℕ → ℕ
video_bits n = cond (ltb n 0x240) 0 (bits_shown n)

abbrev pub payload_bits : Mask → ℕ → ℕ
payload_bits Clear n = 0
payload_bits VideoMask n = video_bits n
payload_bits AudioMask n = bits_shown n

-- the largest number of all payloads: what one shows, a longer one shows too
unfoldable pub most_bits : Option ℕ → List Chunk → ℕ
most_bits codec [] = 0
most_bits codec (chunk ∷ chunks) = max (payload_bits (mask_of codec chunk.kind chunk.data_type) chunk.len) (most_bits codec chunks)
