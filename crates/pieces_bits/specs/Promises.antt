-- What is promised of the bits that payloads show. Each is proved under the same name in proofs/Promises.antt.
use Rattle.std.specs.Prelude.{ℕ, ◌≡◌, List, length, take, Some, Ok}
use Rattle.reading.specs.declared.Reading.{Reading}
use Rattle.reading.specs.Choices.{applied_to}
use Rattle.header.specs.declared.Header.{Header}
use Rattle.chunk.specs.declared.Chunk.{Chunk}
use Rattle.walk.specs.Walks.{clean}
use Rattle.film.specs.Films.{film_of}
use Rattle.key_shown.specs.KeyBits.{shown_bits}
use Rattle.pieces.specs.Pieces.{header_in, Learnt, Windows}
use Rattle.pieces_bits.specs.PayloadBits.{most_bits}

-- The largest number that a payload of a film shows, of a film that is opened by a beginning and whose chunks are learnt by windows from the first to the last, is
-- the number of the bits that the whole film shows.
abbrev pub BitsByPieces : Type 0
BitsByPieces =
    (container : List ℕ) (n : ℕ) (how : Reading) (window : ℕ → List ℕ) (size : ℕ → ℕ) (header : Header) (chunks : List Chunk)
    → Windows container window size
    → header_in (take n container) (length container) how ≡ Some (Ok header)
    → Learnt window (length container) (applied_to header.audio how) header.start chunks clean
    → most_bits header.audio_codec chunks ≡ shown_bits (film_of container how)
