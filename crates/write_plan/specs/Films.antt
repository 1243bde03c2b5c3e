-- Rule W7: the sequence of blocks.
use Rattle.std.specs.Prelude.{ℕ, List, [], ◌∷◌, ◌++◌, map, Bool, cond, take}
use Rattle.signature.specs.Signatures.{CRID, SFV, SFA, header_end, metadata_end, contents_end, mpeg_codec, audio_codec}
use Rattle.unmasking.specs.declared.Unmasking.{Unmasking}
use Rattle.unmasking.specs.Unmasking.{unmasking_of}
use Rattle.write_blocks.specs.Blocks.{block_of}
use Rattle.write_blocks.specs.Tables.{marker_of, empty_table, name_table, codec_table}
use Rattle.write_plan.specs.declared.Stream.{Stream}
use Rattle.write_plan.specs.declared.Stream.TheVariants.{Video, Audio}
use Rattle.write_plan.specs.declared.Packing.{Packing}
use Rattle.write_plan.specs.Payloads.{payloads_of, stored_as, by_turns}

-- a block: its letters and what it holds
pub record Block : Type 0 where
  pub letters : ℕ
  pub inside : List ℕ

-- the bytes of blocks, one after the other
unfoldable pub bytes_of : List Block → List ℕ
bytes_of [] = []
bytes_of (block ∷ blocks) = block_of block.letters block.inside ++ bytes_of blocks

abbrev pub letters_of : Stream → ℕ
letters_of Video = SFV
letters_of Audio = SFA

-- a block of a stream
abbrev pub block_in : Stream → List ℕ → Block
block_in stream inside = record { letters = letters_of stream; inside = inside }

-- a block "for each present stream, video first"
abbrev pub in_each : Bool → (Stream → List ℕ) → List Block
in_each audio inside = block_in Video (inside Video) ∷ cond audio (block_in Audio (inside Audio) ∷ []) []

-- the table that says a stream's codec
abbrev pub codec_in : Packing → Stream → List ℕ
codec_in packing Video = codec_table mpeg_codec packing.mpeg_codec
codec_in packing Audio = codec_table audio_codec packing.audio_codec

-- the blocks of the header walk, steps H1 to H8
unfoldable pub header_blocks : List ℕ → Packing → List Block
header_blocks name packing =
    record { letters = CRID; inside = name_table name }
    ∷ (in_each packing.audio (codec_in packing)
    ++ (in_each packing.audio (λ stream. marker_of header_end)
    ++ (in_each packing.audio (λ stream. empty_table)
    ++ in_each packing.audio (λ stream. marker_of metadata_end))))

-- a stream's chunks
abbrev pub chunks_of : Unmasking → Stream → List ℕ → List Block
chunks_of by stream bytes = map (λ payload. block_in stream (stored_as by stream payload)) (payloads_of bytes)

-- the first of them, if there is one. It serves the contract of `put_next`
abbrev pub next_chunk : Unmasking → Stream → List ℕ → List Block
next_chunk by stream [] = []
next_chunk by stream (byte ∷ bytes) = block_in stream (stored_as by stream (take 0x10000 (byte ∷ bytes))) ∷ []

-- the chunks of both streams
unfoldable pub chunk_blocks : Unmasking → List ℕ → List ℕ → List Block
chunk_blocks by video audio = by_turns (chunks_of by Video video) (chunks_of by Audio audio)

-- "after the last payload one `#CONTENTS END` chunk for each present stream, video first"
abbrev pub end_blocks : Packing → List Block
end_blocks packing = in_each packing.audio (λ stream. marker_of contents_end)

-- where there is no audio, none is looked at
abbrev pub audio_in : Packing → List ℕ → List ℕ
audio_in packing audio = cond packing.audio audio []

-- the bytes of a film
unfoldable pub film_bytes : List ℕ → List ℕ → List ℕ → Packing → List ℕ
film_bytes name video audio packing =
    bytes_of (header_blocks name packing)
    ++ (bytes_of (chunk_blocks (unmasking_of packing.key packing.audio_codec) video audio) ++ bytes_of (end_blocks packing))
