-- Request 8: what a jump finds by an index that was built. "Prove it agrees with the extracted stream before unmasking at every byte". Each is proved under the same
-- name in proofs/Promises.antt.
use Rattle.std.specs.Prelude.{ℕ, ◌+◌, ◌≤◌, ◌<◌, ◌≡◌, List, ◌∷◌, ◌++◌, take, Option, Some, None, Result, Ok, Err}
use Rattle.refusal.specs.declared.Refusal.{Refusal}
use Rattle.laws.specs.Lists.{at}
use Rattle.reading.specs.declared.AudioChoice.{AudioChoice}
use Rattle.reading.specs.declared.Applied.{Applied}
use Rattle.reading.specs.Choices.{as_original}
use Rattle.chunk.specs.declared.Kind.TheVariants.{Video}
use Rattle.chunk.specs.declared.Chunk.{Chunk}
use Rattle.chunk.specs.Chunks.{chunk_at, payload_of}
use Rattle.walk.specs.Walks.{video_size}
use Rattle.header.specs.declared.Header.{Header}
use Rattle.film.specs.Films.{film, film_of}
use Rattle.extract.specs.declared.Contents.{Contents}
use Rattle.extract.specs.Extraction.{Extraction}
use Rattle.list.specs.declared.ListReply.{ListReply}
use Rattle.seek.specs.declared.Sought.{Sought}
use Rattle.seek.specs.Seeking.{sought_in}
use Rattle.index.specs.Indexing.{silent, Indexing}

-- a chunk with a video payload that reaches past an offset and has a byte there
abbrev pub HoldsAt : List ℕ → Result (Option Chunk) Refusal → ℕ → ℕ → Type 0
HoldsAt container (Ok None) offset byte = ⊥
HoldsAt container (Ok (Some chunk)) offset byte = (chunk.kind ≡ Video) × (offset < chunk.len) × (at (payload_of container chunk) offset ≡ byte)
HoldsAt container (Err refusal) offset byte = ⊥

-- an answer that leads to a byte: such a chunk stands at the start that it gives
abbrev pub LeadsTo : List ℕ → Applied → Option Sought → ℕ → Type 0
LeadsTo container reading (Some place) byte = HoldsAt container (chunk_at container reading place.chunk) place.offset byte
LeadsTo container reading None byte = ⊥

-- For every byte of the video that extraction writes without a key, with whatever choice of audio, a jump by an index that was built leads to that byte; an empty payload never
-- answers.
abbrev pub JumpsAgreeWithTheStream : Type 0
JumpsAgreeWithTheStream =
    (container : List ℕ) (list index : List (List ℕ)) (r : ListReply) (video audio video_after audio_after : List ℕ) (contents : Contents) (header : Header) (applied : Applied)
    (chunks : List Chunk) (choice : AudioChoice) (n : ℕ)
    → Indexing container list r index → r.number ≡ 0
    → Extraction container (as_original choice) None video audio (Ok contents) video_after audio_after
    → film_of container silent ≡ film header applied chunks
    → n < contents.video_size → LeadsTo container applied (sought_in (take r.count index) n) (at video_after n)

-- the chunk that holds byte n of the video: one of the film's, with a video payload that begins where those before it end and reaches past the byte. The answer is
-- where it starts, and the byte's offset in its payload
pub record Holds (chunks : List Chunk) (n : ℕ) (answer : Option Sought) : Type 0 where
  pub before : List Chunk
  pub chunk : Chunk
  pub after : List Chunk
  pub offset : ℕ
  pub split : chunks ≡ before ++ chunk ∷ after
  pub video : chunk.kind ≡ Video
  pub there : video_size before + offset ≡ n
  pub within : offset < chunk.len
  pub answers : answer ≡ Some (record { chunk = chunk.start; offset = offset })

-- "gives its chunk's start and offset in the payload": the place itself, and not only the byte that stands there.
abbrev pub JumpsNameTheChunk : Type 0
JumpsNameTheChunk =
    (container : List ℕ) (list index : List (List ℕ)) (r : ListReply) (video audio video_after audio_after : List ℕ) (contents : Contents) (header : Header) (applied : Applied)
    (chunks : List Chunk) (choice : AudioChoice) (n : ℕ)
    → Indexing container list r index → r.number ≡ 0
    → Extraction container (as_original choice) None video audio (Ok contents) video_after audio_after
    → film_of container silent ≡ film header applied chunks
    → n < contents.video_size → Holds chunks n (sought_in (take r.count index) n)

-- ""past the end" for n at or above the size"
abbrev pub PastTheSizeIsPastTheEnd : Type 0
PastTheSizeIsPastTheEnd =
    (container : List ℕ) (list index : List (List ℕ)) (r : ListReply) (video audio video_after audio_after : List ℕ) (contents : Contents) (choice : AudioChoice) (n : ℕ)
    → Indexing container list r index → r.number ≡ 0
    → Extraction container (as_original choice) None video audio (Ok contents) video_after audio_after
    → contents.video_size ≤ n → sought_in (take r.count index) n ≡ None
