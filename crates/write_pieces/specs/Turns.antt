-- Rule W5 by numbers: which payload is written at a turn, by the lengths of both streams. Turn 0 is the first payload of video, turn 1 the first of audio, turn 2 the
-- second of video, and so on: in round k both streams have their payload k.
use Rattle.std.specs.Prelude.{ℕ, ◌+◌, ◌-◌, ◌*◌, ◌/◌, ◌%◌, min, cond, eqb, Option, Some, None}
use Rattle.write_pieces.specs.declared.Piece.{Piece}
use Rattle.write_plan.specs.declared.Stream.{Stream}
use Rattle.write_plan.specs.declared.Stream.TheVariants.{Video, Audio}

-- "payloads of 65,536 bytes (the last shorter)": how many bytes payload k has, 0 where the stream is over
abbrev pub payload_len : ℕ → ℕ → ℕ
payload_len size k = min 0x10000 (size - k * 0x10000)

-- "video and audio by turns"
abbrev pub turn_after : Stream → ℕ → ℕ
turn_after Video k = 2 * k + 1
turn_after Audio k = 2 * k + 2

-- payload k of a stream of so many bytes
abbrev pub piece_of : Stream → ℕ → ℕ → Option Piece
piece_of stream size k =
    cond (eqb (payload_len size k) 0) None (Some (record { stream = stream; from = k * 0x10000; len = payload_len size k; next = turn_after stream k }))

-- a stream that is over has no turn: the other's comes
abbrev pub first_of : Option Piece → Option Piece → Option Piece
first_of (Some piece) other = Some piece
first_of None other = other

unfoldable pub turn_in : ℕ → ℕ → ℕ → Option Piece
turn_in video audio turn =
    cond (eqb (turn % 2) 0) (first_of (piece_of Video video (turn / 2)) (piece_of Audio audio (turn / 2)))
    (first_of (piece_of Audio audio (turn / 2)) (piece_of Video video (turn / 2 + 1)))
