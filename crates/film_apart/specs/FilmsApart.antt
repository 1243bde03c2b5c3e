-- The first byte at which the streams of a film differ under two keys. Ours: a bill says by it why two tenants have two copies.
use Rattle.std.specs.Prelude.{ℕ, ◌+◌, cond, List, [], ◌∷◌, ltb, Option, Some, None, Result, Ok, Err}
use Rattle.std.specs.Option.{option_or}
use Rattle.refusal.specs.declared.Refusal.{Refusal}
use Rattle.refusal.specs.Numbers.{number_of, beside_of}
use Rattle.chunk.specs.declared.Kind.{Kind}
use Rattle.chunk.specs.declared.Chunk.{Chunk}
use Rattle.chunk_mask.specs.ChunkMasks.{mask_of}
use Rattle.walk.specs.Walks.{video_in, audio_in}
use Rattle.key_apart.specs.PayloadsApart.{apart_in}
use Rattle.film.specs.Films.{Film, film, refused}
use Rattle.film_apart.specs.declared.Stream.{Stream}
use Rattle.film_apart.specs.declared.Stream.TheVariants.{VideoStream, AudioStream}
use Rattle.film_apart.specs.declared.Parting.{Parting}
use Rattle.film_apart.specs.declared.ApartReply.{ApartReply}

-- a payload's share in a stream
abbrev pub part_in : Stream → Kind → ℕ → ℕ
part_in VideoStream = video_in
part_in AudioStream = audio_in

-- the first position of a chunk's share that differs, or the share's length
abbrev pub apart_of : Stream → Option ℕ → ℕ → ℕ → Chunk → ℕ
apart_of stream codec key key' chunk = apart_in (mask_of codec chunk.kind chunk.data_type) key key' (part_in stream chunk.kind chunk.len)

-- of all chunks' shares, one after the other, the first byte that differs, where so many bytes stand before them
unfoldable pub apart_from : Stream → Option ℕ → ℕ → ℕ → ℕ → List Chunk → Option Parting
apart_from stream codec key key' passed [] = None
apart_from stream codec key key' passed (chunk ∷ chunks) =
    cond (ltb (apart_of stream codec key key' chunk) (part_in stream chunk.kind chunk.len))
    (Some (record { stream = stream; byte = passed + apart_of stream codec key key' chunk; chunk = chunk.start; offset = apart_of stream codec key key' chunk }))
    (apart_from stream codec key key' (passed + part_in stream chunk.kind chunk.len) chunks)

-- of the video, or else of the audio
abbrev pub chunks_apart : Option ℕ → ℕ → ℕ → List Chunk → Option Parting
chunks_apart codec key key' chunks = option_or (apart_from VideoStream codec key key' 0 chunks) (apart_from AudioStream codec key key' 0 chunks)

abbrev pub film_apart : ℕ → ℕ → Film → Result (Option Parting) Refusal
film_apart key key' (film header applied chunks) = Ok (chunks_apart header.audio_codec key key' chunks)
film_apart key key' (refused refusal) = Err refusal

-- ---- the answer as C reads it

abbrev pub stream_number : Stream → ℕ
stream_number VideoStream = 1
stream_number AudioStream = 2

abbrev pub apart_reply : Result (Option Parting) Refusal → ApartReply
apart_reply (Ok None) = record { refused_at = 0; byte = 0; chunk = 0; offset = 0; number = 0; unknown_type = 0; stream = 0 }
apart_reply (Ok (Some parting)) = record { refused_at = 0; byte = parting.byte; chunk = parting.chunk; offset = parting.offset; number = 0; unknown_type = 0; stream = stream_number parting.stream }
apart_reply (Err refusal) = record {
  refused_at = refusal.place;
  byte = 0;
  chunk = 0;
  offset = 0;
  number = number_of refusal.cause;
  unknown_type = (beside_of refusal.cause).unknown_type;
  stream = 0;
}
