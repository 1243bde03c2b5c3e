-- What is promised of the byte that is found chunk by chunk. Each is proved under the same name in proofs/Promises.antt.
use Rattle.std.specs.Prelude.{ℕ, ◌≡◌, List, ◌++◌, Option, None, Ok}
use Rattle.reading.specs.declared.Reading.{Reading}
use Rattle.header.specs.declared.Header.{Header}
use Rattle.chunk.specs.declared.Chunk.{Chunk}
use Rattle.film.specs.Films.{film_of}
use Rattle.film_apart.specs.declared.Stream.TheVariants.{VideoStream, AudioStream}
use Rattle.film_apart.specs.FilmsApart.{film_apart}
use Rattle.promises_pieces.specs.Promises.{ReadByPieces}
use Rattle.pieces_apart.specs.declared.Passed.{Passed}
use Rattle.pieces_apart.specs.Passing.{unparted, past_all, parting_of}

-- All chunks of a film that is read piece by piece passed in both streams, from none on: the parting is that of the whole film.
abbrev pub PartingChunkByChunk : Type 0
PartingChunkByChunk =
    (container : List ℕ) (how : Reading) (header : Header) (chunks : List Chunk) (key key' : ℕ)
    → ReadByPieces container how header chunks
    → parting_of (past_all VideoStream header.audio_codec key key' unparted chunks) (past_all AudioStream header.audio_codec key key' unparted chunks)
    ≡ film_apart key key' (film_of container how)

-- A video that has parted is enough: no chunk after that changes the parting, so a reader may stop there.
abbrev pub PartedVideoIsEnough : Type 0
PartedVideoIsEnough =
    (codec : Option ℕ) (key key' : ℕ) (video audio : Passed) (before after : List Chunk)
    → ((past_all VideoStream codec key key' video before).parting ≡ Ok None → ⊥)
    → parting_of (past_all VideoStream codec key key' video before) audio
    ≡ parting_of (past_all VideoStream codec key key' video (before ++ after)) (past_all AudioStream codec key key' audio after)
