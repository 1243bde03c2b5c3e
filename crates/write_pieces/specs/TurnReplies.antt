-- What is replied at a turn, field by field, and the output of the head after it. Ours, beyond the rules.
use Rattle.std.specs.Prelude.{ℕ, ◌≡◌, List, length, Option, Some, None, Result, Ok}
use Rattle.refusal.specs.declared.Refusal.{Refusal}
use Rattle.word.specs.Bytes.{padding}
use Rattle.chunk.specs.declared.Kind.TheVariants as kind
use Rattle.chunk.specs.Chunks.{kind_number}
use Rattle.unmasking.specs.Unmasking.{mask_number}
use Rattle.lent.specs.Written.{written_in, left_by, size_reply}
use Rattle.write_blocks.specs.Blocks.{head_of}
use Rattle.write_plan.specs.declared.Packing.{Packing}
use Rattle.write_plan.specs.declared.Stream.{Stream}
use Rattle.write_plan.specs.declared.Stream.TheVariants.{Video, Audio}
use Rattle.write_plan.specs.Films.{letters_of}
use Rattle.write_plan.specs.Sizes.{size_in}
use Rattle.write_pieces.specs.declared.Piece.{Piece}
use Rattle.write_pieces.specs.declared.TurnReply.{TurnReply}
use Rattle.write_pieces.specs.Turns.{turn_in}
use Rattle.write_pieces.specs.Storing.{mask_in}

-- the number of a stream's chunks, as in a listing
abbrev pub kind_of : Stream → ℕ
kind_of Video = kind_number kind.Video
kind_of Audio = kind_number kind.Audio

-- both streams are over: all is 0
abbrev pub over_reply : TurnReply
over_reply = record { head = size_reply (Ok 0); next = 0; from = 0; length = 0; padding = 0; found = 0; kind = 0; mask = 0 }

-- the payload is said also where the output is too short for its head
abbrev pub piece_reply : Packing → Result ℕ Refusal → Piece → TurnReply
piece_reply packing written piece = record {
  head = size_reply written;
  next = piece.next;
  from = piece.from;
  length = piece.len;
  padding = padding piece.len;
  found = 1;
  kind = kind_of piece.stream;
  mask = mask_number (mask_in packing.key packing.audio_codec piece.stream);
}

-- a head has 0x20 bytes
abbrev pub replied_on : Packing → ℕ → Option Piece → TurnReply
replied_on packing room None = over_reply
replied_on packing room (Some piece) = piece_reply packing (written_in room (Ok 0x20)) piece

abbrev pub head_in : Option Piece → List ℕ → List ℕ
head_in None out = out
head_in (Some piece) out = left_by (written_in (length out) (Ok 0x20)) out (head_of (letters_of piece.stream) piece.len)

-- where there is no audio, its length is not looked at
abbrev pub TurnWriting : ℕ → ℕ → ℕ → Packing → List ℕ → TurnReply → List ℕ → Type 0
TurnWriting video audio turn packing out r out' =
    (r ≡ replied_on packing (length out) (turn_in video (size_in packing audio) turn)) × (out' ≡ head_in (turn_in video (size_in packing audio) turn) out)
