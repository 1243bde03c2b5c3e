-- What is promised of a film that is written piece by piece. Each is proved under the same name in proofs/Promises.antt.
use Rattle.std.specs.Prelude.{ℕ, ◌+◌, ◌≡◌, List, ◌++◌, map, Bool, length, take, Ok}
use Rattle.write_blocks.specs.Blocks.{head_of}
use Rattle.write_plan.specs.declared.Packing.{Packing}
use Rattle.write_plan.specs.declared.Stream.{Stream}
use Rattle.write_plan.specs.Films.{letters_of, bytes_of, header_blocks, audio_in, film_bytes}
use Rattle.write_plan.specs.Sizes.{size_in}
use Rattle.write_plan.specs.Planning.{any_marked, sized_of, marked_by, planned_of}
use Rattle.write.specs.Writing.{HeaderWriting, HeadWriting, ends_of, EndsWriting}
use Rattle.write_pieces.specs.declared.Piece.{Piece}
use Rattle.write_pieces.specs.Writers.{Taken, payload_of, Under, piece_bytes, bytes_by, pieces_from, Call, WentOn, put_by}

-- The header, the pieces in the order of their turns, and the ends, put one after the other, are the film that is written whole: for every name, streams, packing and key.
abbrev pub FilmOfPieces : Type 0
FilmOfPieces =
    (name video audio : List ℕ) (packing : Packing) (number : ℕ) (pieces : List Piece)
    → Under number packing.key → Taken (length video) (size_in packing (length audio)) 0 pieces
    → bytes_of (header_blocks name packing) ++ (bytes_by (piece_bytes number packing video (audio_in packing audio)) pieces ++ ends_of packing.audio)
    ≡ film_bytes name video (audio_in packing audio) packing

-- Such a film is refused exactly as the film that is written whole: 23 and 11 with its header, 15 with a payload.
abbrev pub RefusedByPieces : Type 0
RefusedByPieces =
    (name video audio : List ℕ) (packing : Packing) (pieces : List Piece) → Taken (length video) (size_in packing (length audio)) 0 pieces
    → planned_of name video (audio_in packing audio) packing
    ≡ marked_by (any_marked (map (payload_of video (audio_in packing audio)) pieces)) (sized_of (length name) (length video) (size_in packing (length audio)) packing)

-- By results alone: where no call is refused, the first bytes of each output, as many as were answered, the payloads as they were left and the zeros, put one after
-- the other, are the film that is written whole, which is not refused either. However long the outputs are, and whatever stood in them.
abbrev pub WhoeverWritesThePieces : Type 0
WhoeverWritesThePieces =
    (name video audio : List ℕ) (packing : Packing) (number : ℕ) (out out' : List ℕ) (n : ℕ) (calls : List Call) (last : Call) (end end' : List ℕ) (m : ℕ)
    → Under number packing.key
    → HeaderWriting name (length video) (length audio) packing out (Ok n) out'
    → WentOn number video audio packing last 0 calls
    → EndsWriting packing.audio end (Ok m) end'
    → (take n out' ++ (bytes_by put_by calls ++ take m end') ≡ film_bytes name video (audio_in packing audio) packing)
    × (planned_of name video (audio_in packing audio) packing ≡ Ok (length (film_bytes name video (audio_in packing audio) packing)))

-- Whoever goes on from turn 0 with each next turn comes to the end of both streams.
abbrev pub TurnsEnd : Type 0
TurnsEnd = (video audio : ℕ) → Taken video audio 0 (pieces_from video audio (video + audio + 2) 0)

-- The first bytes of an output, as many as were answered, are the piece that was written there.
abbrev pub OutputsHoldPieces : Type 0
OutputsHoldPieces =
    ((name : List ℕ) (video audio : ℕ) (packing : Packing) (out out' : List ℕ) (n : ℕ) → HeaderWriting name video audio packing out (Ok n) out'
    → take n out' ≡ bytes_of (header_blocks name packing))
    × ((stream : Stream) (len : ℕ) (out out' : List ℕ) (n : ℕ) → HeadWriting stream len out (Ok n) out' → take n out' ≡ head_of (letters_of stream) len)
    × ((audio : Bool) (out out' : List ℕ) (n : ℕ) → EndsWriting audio out (Ok n) out' → take n out' ≡ ends_of audio)
