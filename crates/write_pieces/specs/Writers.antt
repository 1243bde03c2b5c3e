-- Who writes a film piece by piece: it asks turn after turn, and puts for each what it is answered. Ours, beyond the rules.
use Rattle.std.specs.Prelude.{ℕ, zero, suc, ◌≡◌, List, [], ◌∷◌, ◌++◌, cond, length, take, drop, eqb, Option, Some, None, Ok}
use Rattle.word.specs.Bytes.{zeros, padding}
use Rattle.unmasking.specs.Unmasking.{mask_by}
use Rattle.write_blocks.specs.Blocks.{head_of}
use Rattle.write_plan.specs.declared.Packing.{Packing}
use Rattle.write_plan.specs.declared.Stream.{Stream}
use Rattle.write_plan.specs.declared.Stream.TheVariants.{Video, Audio}
use Rattle.write_plan.specs.Films.{letters_of, audio_in}
use Rattle.write_pieces.specs.declared.Piece.{Piece}
use Rattle.write_pieces.specs.declared.TurnReply.{TurnReply}
use Rattle.write_pieces.specs.Turns.{turn_in}
use Rattle.write_pieces.specs.Storing.{mask_in, stored_by, Storing}
use Rattle.write_pieces.specs.TurnReplies.{TurnWriting}

-- what it is answered, from a turn on: these pieces, and then that both streams are over
abbrev pub Taken : ℕ → ℕ → ℕ → List Piece → Type 0
Taken video audio turn [] = turn_in video audio turn ≡ None
Taken video audio turn (piece ∷ pieces) = (turn_in video audio turn ≡ Some piece) × Taken video audio piece.next pieces

-- the bytes that it reads for a piece
abbrev pub stream_in : List ℕ → List ℕ → Stream → List ℕ
stream_in video audio Video = video
stream_in video audio Audio = audio

abbrev pub payload_of : List ℕ → List ℕ → Piece → List ℕ
payload_of video audio piece = take piece.len (drop piece.from (stream_in video audio piece.stream))

-- the number that it masks with: the key, and any number where there is none
abbrev pub Under : ℕ → Option ℕ → Type 0
Under number None = Unit
Under number (Some given) = number ≡ given

-- what it puts for a piece: the head, the payload as it is stored, the zeros
abbrev pub piece_bytes : ℕ → Packing → List ℕ → List ℕ → Piece → List ℕ
piece_bytes number packing video audio piece =
    head_of (letters_of piece.stream) piece.len
    ++ (stored_by number (mask_in packing.key packing.audio_codec piece.stream) (payload_of video audio piece) ++ zeros (padding piece.len))

-- what is put, one after the other
unfoldable pub bytes_by : {A : Type 0} → (A → List ℕ) → List A → List ℕ
bytes_by put [] = []
bytes_by put (one ∷ others) = put one ++ bytes_by put others

-- the pieces from a turn on, n of them at most
abbrev pub after_turn : (ℕ → List Piece) → Option Piece → List Piece
after_turn go None = []
after_turn go (Some piece) = piece ∷ go piece.next

unfoldable pub pieces_from : ℕ → ℕ → ℕ → ℕ → List Piece
pieces_from video audio zero turn = []
pieces_from video audio (suc n) turn = after_turn (pieces_from video audio n) (turn_in video audio turn)

-- ---- by what it is replied, and what is left in its outputs

-- the calls of a turn: the head's output before and after it, the reply, the payload as it was left, and how many bytes were answered of it
pub record Call : Type 0 where
  pub out : List ℕ
  pub out' : List ℕ
  pub reply : TurnReply
  pub stored : List ℕ
  pub size : ℕ

-- the bytes that a reply says
abbrev pub payload_by : List ℕ → List ℕ → TurnReply → List ℕ
payload_by video audio reply = take reply.length (drop reply.from (cond (eqb reply.kind 0) video audio))

abbrev pub Asked : List ℕ → List ℕ → Packing → ℕ → Call → Type 0
Asked video audio packing turn call = TurnWriting (length video) (length audio) turn packing call.out call.reply call.out'

-- a turn that has a payload; neither its head nor the payload is refused
abbrev pub Went : ℕ → List ℕ → List ℕ → Packing → ℕ → Call → Type 0
Went number video audio packing turn call =
    Asked video audio packing turn call
    × (call.reply.found ≡ 1)
    × (call.reply.head.number ≡ 0)
    × Storing number (mask_by call.reply.mask) (payload_by video (audio_in packing audio) call.reply) (Ok call.size) call.stored

-- turn after turn from one on, up to a last that has none
abbrev pub WentOn : ℕ → List ℕ → List ℕ → Packing → Call → ℕ → List Call → Type 0
WentOn number video audio packing last turn [] = Asked video audio packing turn last × (last.reply.found ≡ 0)
WentOn number video audio packing last turn (call ∷ calls) =
    Went number video audio packing turn call × WentOn number video audio packing last call.reply.next calls

-- what it puts: the head, as many bytes as were answered, the payload, and as many zeros as the reply says
abbrev pub put_by : Call → List ℕ
put_by call = take call.reply.head.size call.out' ++ (call.stored ++ zeros call.reply.padding)
