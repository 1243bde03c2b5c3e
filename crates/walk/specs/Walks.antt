-- Rules C: the chunks of a container from a place on, how they end, and what they come to.
use Rattle.std.specs.Prelude.{ℕ, zero, suc, ◌+◌, ◌-◌, List, [], ◌∷◌, ◌++◌, length, Option, Some, None, Result, Ok, Err}
use Rattle.walk.specs.declared.Sizes.{Sizes}
use Rattle.refusal.specs.declared.Refusal.{Refusal}
use Rattle.reading.specs.declared.Applied.{Applied}
use Rattle.chunk.specs.declared.Kind.{Kind}
use Rattle.chunk.specs.declared.Kind.TheVariants.{Video, Audio, Other, End}
use Rattle.chunk.specs.declared.Chunk.{Chunk}
use Rattle.chunk.specs.Chunks.{chunk_at}

-- "clean end", or "the walk's first refusal in reading order"
pub data Ending : Type 0 where
  clean : Ending
  stopped : Refusal → Ending

pub record Walk : Type 0 where
  pub chunks : List Chunk
  pub ending : Ending

-- a walk with one chunk before it
abbrev pub onto : Chunk → Walk → Walk
onto chunk walk = record { chunks = chunk ∷ walk.chunks; ending = walk.ending }

-- "next at c + 8 + block size": a step, and the rest from the chunk's next place on
abbrev pub go_on : Result (Option Chunk) Refusal → (ℕ → Walk) → Walk
go_on (Ok None) rest = record { chunks = []; ending = clean }
go_on (Ok (Some chunk)) rest = onto chunk (rest chunk.next)
go_on (Err refusal) rest = record { chunks = []; ending = stopped refusal }

-- at most n chunks
unfoldable pub walk_for : List ℕ → Applied → ℕ → ℕ → Walk
walk_for container reading zero c = record { chunks = []; ending = clean }
walk_for container reading (suc n) c = go_on (chunk_at container reading c) (walk_for container reading n)

-- all chunks from c on: there are no more of them than bytes left. `WalkGoesByChunks` of Promises.antt says that this number cuts no walk short
unfoldable pub walk_from : List ℕ → Applied → ℕ → Walk
walk_from container reading c = walk_for container reading (length container - c) c

-- what each chunk gives, one after the other
unfoldable pub joined : {A : Type 0} → (Chunk → List A) → List Chunk → List A
joined piece [] = []
joined piece (chunk ∷ chunks) = piece chunk ++ joined piece chunks

-- "`@SFV` payloads go to video, `@SFA` to audio": how many of a payload's n bytes are the stream's. A skipped chunk's length is 0
abbrev pub video_in : Kind → ℕ → ℕ
video_in Video n = n
video_in Audio n = 0
video_in Other n = 0
video_in End n = 0

abbrev pub audio_in : Kind → ℕ → ℕ
audio_in Video n = 0
audio_in Audio n = n
audio_in Other n = 0
audio_in End n = 0

-- the size of a stream, by its share of each payload
unfoldable pub size_of : (Kind → ℕ → ℕ) → List Chunk → ℕ
size_of share [] = 0
size_of share (chunk ∷ chunks) = share chunk.kind chunk.len + size_of share chunks

abbrev pub video_size : List Chunk → ℕ
video_size = size_of video_in

abbrev pub audio_size : List Chunk → ℕ
audio_size = size_of audio_in

-- "chunk count" and "both sizes", "sums over the chunk rules"; of a walk that does not end clean, its refusal
abbrev pub measured_as : List Chunk → Ending → Result Sizes Refusal
measured_as chunks clean = Ok (record { count = length chunks; video = video_size chunks; audio = audio_size chunks })
measured_as chunks (stopped refusal) = Err refusal

unfoldable pub measure_of : Walk → Result Sizes Refusal
measure_of walk = measured_as walk.chunks walk.ending
