-- What is promised of a film that is read piece by piece. Each is proved under the same name in proofs/Promises.antt.
use Rattle.std.specs.Prelude.{ℕ, ◌≤◌, ◌≡◌, List, ◌⊎◌, length, take, drop, Option, Some, None, Ok, Err}
use Rattle.refusal.specs.declared.Refusal.{Refusal}
use Rattle.reading.specs.declared.Reading.{Reading}
use Rattle.reading.specs.declared.Applied.{Applied}
use Rattle.reading.specs.Choices.{applied_to}
use Rattle.header.specs.declared.Header.{Header}
use Rattle.header.specs.Headers.{header_of}
use Rattle.chunk.specs.declared.Chunk.{Chunk}
use Rattle.chunk.specs.Chunks.{chunk_at}
use Rattle.walk.specs.Walks.{Ending, clean}
use Rattle.film.specs.Films.{refused, ended_as, film_of}
use Rattle.extract.specs.Extraction.{video_of, audio_of}
use Rattle.pieces.specs.Pieces.{header_in, film_step, Learnt, Windows, Payloads, video_by, audio_by}

-- A beginning asks for more, or says what the film says, an answer or a refusal: never another.
abbrev pub BeginningsNeverMislead : Type 0
BeginningsNeverMislead =
    (container : List ℕ) (n : ℕ) (how : Reading)
    → (header_in (take n container) (length container) how ≡ None) ⊎ (header_in (take n container) (length container) how ≡ Some (header_of container how))

-- The whole film never asks for more.
abbrev pub TheWholeIsEnough : Type 0
TheWholeIsEnough = (container : List ℕ) (how : Reading) → header_in container (length container) how ≡ Some (header_of container how)

-- A window of 45 bytes or more gives the step of the film.
abbrev pub StepsOfAFilm : Type 0
StepsOfAFilm =
    (container : List ℕ) (reading : Applied) (c k : ℕ) → length container ≤ 0x40000000 → 45 ≤ k
    → film_step (take k (drop c container)) (length container) reading c ≡ Some (chunk_at container reading c)

-- A film that is opened by a beginning, and whose chunks are learnt by windows from the first to the last, is the film that is read whole: with the same header
-- and the same chunks, or with the same refusal.
abbrev pub FilmByPieces : Type 0
FilmByPieces =
    (container : List ℕ) (n : ℕ) (how : Reading) (window : ℕ → List ℕ) (size : ℕ → ℕ) (header : Header) (chunks : List Chunk) (ending : Ending)
    → Windows container window size
    → header_in (take n container) (length container) how ≡ Some (Ok header)
    → Learnt window (length container) (applied_to header.audio how) header.start chunks ending
    → film_of container how ≡ ended_as header (applied_to header.audio how) chunks ending

-- One that is refused by a beginning is refused alike.
abbrev pub RefusedByABeginning : Type 0
RefusedByABeginning =
    (container : List ℕ) (n : ℕ) (how : Reading) (refusal : Refusal)
    → header_in (take n container) (length container) how ≡ Some (Err refusal) → film_of container how ≡ refused refusal

-- The payloads of such a film, each made clear by itself and put together, are both streams of the film, under every key and under none.
abbrev pub StreamsByPieces : Type 0
StreamsByPieces =
    (container : List ℕ) (n : ℕ) (how : Reading) (key : Option ℕ) (window : ℕ → List ℕ) (size : ℕ → ℕ) (payload : Chunk → List ℕ) (header : Header) (chunks : List Chunk)
    → Windows container window size → Payloads container payload
    → header_in (take n container) (length container) how ≡ Some (Ok header)
    → Learnt window (length container) (applied_to header.audio how) header.start chunks clean
    → (video_by payload key header.audio_codec chunks ≡ video_of container key (film_of container how))
    × (audio_by payload key header.audio_codec chunks ≡ audio_of container key (film_of container how))
