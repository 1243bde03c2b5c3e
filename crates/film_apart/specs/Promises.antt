-- What is promised of the byte at which the streams of a film first differ. Each is proved under the same name in proofs/Promises.antt.
use Rattle.std.specs.Prelude.{ℕ, ◌+◌, ◌<◌, ◌≡◌, List, ◌∷◌, ◌++◌, Option, Some, None, Result, Ok, Err}
use Rattle.refusal.specs.declared.Refusal.{Refusal}
use Rattle.reading.specs.declared.Reading.{Reading}
use Rattle.chunk.specs.declared.Chunk.{Chunk}
use Rattle.walk.specs.Walks.{size_of}
use Rattle.key.specs.CountingBits.{AgreeWhereItCounts}
use Rattle.key_shown.specs.KeyBits.{shown_bits}
use Rattle.film.specs.Films.{film_of}
use Rattle.extract.specs.declared.Contents.{Contents}
use Rattle.extract.specs.Extraction.{Extraction}
use Rattle.key_apart.specs.Promises.{PartAt}
use Rattle.film_apart.specs.declared.Stream.{Stream}
use Rattle.film_apart.specs.declared.Stream.TheVariants.{VideoStream, AudioStream}
use Rattle.film_apart.specs.declared.Parting.{Parting}
use Rattle.film_apart.specs.declared.WhySame.{WhySame}
use Rattle.film_apart.specs.declared.WhySame.TheVariants.{Differ, OneKey, NeverCount, NotShown}
use Rattle.film_apart.specs.FilmsApart.{part_in, chunks_apart, film_apart}
use Rattle.film_apart.specs.Reasons.{why_same}

-- the byte that is named is the first that differs: of the video, or of the audio where the videos are the same
abbrev pub PartIn : Stream → ℕ → List ℕ → List ℕ → List ℕ → List ℕ → Type 0
PartIn VideoStream byte video audio video' audio' = PartAt byte video video'
PartIn AudioStream byte video audio video' audio' = (video ≡ video') × PartAt byte audio audio'

-- what an answer says of the outputs that extraction leaves under two keys
abbrev pub Means : Result (Option Parting) Refusal → List ℕ → List ℕ → List ℕ → List ℕ → Type 0
Means (Ok None) video audio video' audio' = (video ≡ video') × (audio ≡ audio')
Means (Ok (Some parting)) video audio video' audio' = PartIn parting.stream parting.byte video audio video' audio'
Means (Err refusal) video audio video' audio' = ⊥

-- Of a film that is extracted under two keys into the same outputs: where the streams are said to be the same they are; else the byte that is named is the first
-- of its stream that differs, and where it is one of the audio the videos are the same.
abbrev pub StreamsPartThere : Type 0
StreamsPartThere =
    (container : List ℕ) (reading : Reading) (key key' : ℕ) (video audio video_after audio_after video_after' audio_after' : List ℕ) (contents contents' : Contents)
    → Extraction container reading (Some key) video audio (Ok contents) video_after audio_after
    → Extraction container reading (Some key') video audio (Ok contents') video_after' audio_after'
    → Means (film_apart key key' (film_of container reading)) video_after audio_after video_after' audio_after'

-- the byte of a stream stands in a chunk of these, at an offset of its payload
pub record Holds (chunks : List Chunk) (stream : Stream) (byte start offset : ℕ) : Type 0 where
  pub before : List Chunk
  pub chunk : Chunk
  pub after : List Chunk
  pub split : chunks ≡ before ++ chunk ∷ after
  pub starts : chunk.start ≡ start
  pub there : size_of (part_in stream) before + offset ≡ byte
  pub within : offset < part_in stream chunk.kind chunk.len

-- The chunk that is named is one of the film's, and holds the byte at the offset that is named.
abbrev pub PartingNamesTheChunk : Type 0
PartingNamesTheChunk =
    (codec : Option ℕ) (key key' : ℕ) (chunks : List Chunk) (stream : Stream) (byte start offset : ℕ)
    → chunks_apart codec key key' chunks ≡ Some (record { stream = stream; byte = byte; chunk = start; offset = offset }) → Holds chunks stream byte start offset

-- what a reason says of two keys, and of the outputs that extraction leaves under them
abbrev pub Says : WhySame → ℕ → ℕ → Type 0 → Type 0
Says Differ key key' same = same → ⊥
Says OneKey key key' same = (key ≡ key') × same
Says NeverCount key key' same = AgreeWhereItCounts key key' × same
Says NotShown key key' same = (AgreeWhereItCounts key key' → ⊥) × same

-- By the bits that a film shows: a reason is given exactly where extraction under both keys, into the same outputs, leaves the same two streams, and it is so.
abbrev pub ReasonsAreSo : Type 0
ReasonsAreSo =
    (container : List ℕ) (reading : Reading) (key key' : ℕ) (video audio video_after audio_after video_after' audio_after' : List ℕ) (contents contents' : Contents)
    → Extraction container reading (Some key) video audio (Ok contents) video_after audio_after
    → Extraction container reading (Some key') video audio (Ok contents') video_after' audio_after'
    → Says (why_same (shown_bits (film_of container reading)) key key') key key' ((video_after ≡ video_after') × (audio_after ≡ audio_after'))
