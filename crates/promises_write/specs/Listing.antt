-- The chunks of a written film, as the walk finds them: payloads by turns, then the ends.
use Rattle.std.specs.Prelude.{ℕ, ◌+◌, List, [], ◌∷◌, ◌++◌, map, Bool, cond, length}
use Rattle.chunk.specs.declared.Kind.{Kind}
use Rattle.chunk.specs.declared.Kind.TheVariants as kind
use Rattle.chunk.specs.declared.Chunk.{Chunk}
use Rattle.write_plan.specs.declared.Stream.{Stream}
use Rattle.write_plan.specs.declared.Stream.TheVariants.{Video, Audio}
use Rattle.write_plan.specs.Payloads.{payloads_of, by_turns}
use Rattle.write_plan.specs.Sizes.{block_size}

-- a chunk: its kind, its payload's length, 0 for an end, and how many bytes it takes
pub record Line : Type 0 where
  pub kind : Kind
  pub len : ℕ
  pub size : ℕ

abbrev pub kind_for : Stream → Kind
kind_for Video = kind.Video
kind_for Audio = kind.Audio

abbrev pub payload_line : Stream → List ℕ → Line
payload_line stream payload = record { kind = kind_for stream; len = length payload; size = block_size (length payload) }

abbrev pub end_line : Line
end_line = record { kind = kind.End; len = 0; size = 0x40 }

-- an end for each stream that there is
abbrev pub end_lines : Bool → List Line
end_lines audio = end_line ∷ cond audio (end_line ∷ []) []

-- the lines of a film, by its streams
abbrev pub lines_of : List ℕ → List ℕ → Bool → List Line
lines_of video audio present = by_turns (map (payload_line Video) (payloads_of video)) (map (payload_line Audio) (payloads_of audio)) ++ end_lines present

-- the chunk of a line at c, of channel and data type 0, with its payload 0x20 bytes on
abbrev pub chunk_in : ℕ → Line → Chunk
chunk_in c line = record { start = c; kind = line.kind; channel = 0; data_type = 0; payload = c + 0x20; len = line.len; next = c + line.size }

-- the chunks of lines from c on, one after the other
unfoldable pub chunks_from : ℕ → List Line → List Chunk
chunks_from c [] = []
chunks_from c (line ∷ lines) = chunk_in c line ∷ chunks_from (c + line.size) lines
