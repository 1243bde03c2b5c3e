-- What a writer learns of its calls: each that goes well is a piece, and what it puts is the piece's bytes. Assumes nothing.
use Rattle.std.specs.Prelude.{Option, Some, None, Result, Ok}
use Rattle.refusal.specs.declared.Refusal.{Refusal}
use Prim.Native.Nat.{ℕ, ◌+◌, ◌≤◌}
use mathlib.Core.Path.{◌≡◌, refl, sym, ap, ap₂, ◌∙◌, subst}
use mathlib.Core.List.{List, [], ◌∷◌, ◌++◌, map}
use mathlib.Core.Bool.{Bool, true, false, cond}
use native.Mathlib.Omega.{arith}
use lib.ListN.{length, take, drop}
use lib.Seq.{sets, sets-eq, take_at}
use lib.Dec.{ltb, eqb}
use borrow.Author.Tests.{ltb-false}
use Rattle.refusal.specs.declared.Cause.TheVariants.{MarkedPayload}
use Rattle.signature.specs.Signatures.{contents_end, stands_at}
use Rattle.word.specs.Bytes.{zeros}
use Rattle.unmasking.specs.declared.Mask.{Mask}
use Rattle.unmasking.specs.Unmasking.{mask_by}
use Rattle.unmasking.proofs.Promises.{MaskOfItsNumber}
use Rattle.lent.specs.Written.{written_in, left_by, size_reply}
use Rattle.write_blocks.specs.Blocks.{head_of}
use Rattle.write_plan.specs.declared.Packing.{Packing}
use Rattle.write_plan.specs.declared.Stream.{Stream}
use Rattle.write_plan.specs.declared.Stream.TheVariants.{Video, Audio}
use Rattle.write_plan.specs.Films.{letters_of, audio_in}
use Rattle.write_plan.specs.Sizes.{size_in}
use Rattle.write_plan.specs.Planning.{any_marked, refused_by}
use Rattle.write_plan.proofs.LengthLaws.{head_length}
use Rattle.write_pieces.specs.declared.Piece.{Piece}
use Rattle.write_pieces.specs.declared.TurnReply.{TurnReply}
use Rattle.write_pieces.specs.Turns.{turn_in}
use Rattle.write_pieces.specs.Storing.{mask_in, stored_by, Storing}
use Rattle.write_pieces.specs.TurnReplies.{kind_of, piece_reply, replied_on, head_in}
use Rattle.write_pieces.specs.Writers.{Taken, stream_in, payload_of, piece_bytes, bytes_by, Call, payload_by, Asked, Went, WentOn, put_by}

-- the first bytes of an output in which others were put
pub first_bytes : (bytes out out' : List ℕ) (n : ℕ) → length bytes ≡ n → n ≤ length out → out' ≡ sets out 0 bytes → take n out' ≡ bytes
first_bytes bytes out out' n e h f = rw (f, sets-eq bytes out 0 (omega arith)) (take_at bytes (drop (0 + length bytes) out) n e)

-- an output that has room for a head, where it is not refused
head_room : (t : Bool) (room : ℕ) → ltb room 0x20 ≡ t → (size_reply (written_in room (Ok 0x20))).number ≡ 0 → t ≡ false
head_room true room e z = let y : ◌≡◌ {A = ℕ} 16 0 = rw e at z in absurd (omega arith)
head_room false room e z = refl

-- a payload that was stored
module _ (number : ℕ) (mask : Mask) (payload stored : List ℕ) (n : ℕ) where
  stored_by_lem : (t : Bool) → stands_at contents_end payload 0 ≡ t → Storing number mask payload (Ok n) stored → (t ≡ false) × (stored ≡ stored_by number mask payload)
  stored_by_lem true e s = let y : Ok n ≡ refused_by MarkedPayload = s.0 ∙ rw e in let z : ◌≡◌ {A = ℕ} 0 1 = cc in absurd (omega arith)
  stored_by_lem false e s = (refl, s.1 ∙ rw e)

-- the stream that a kind says
by_kind : (video audio : List ℕ) (stream : Stream) → cond (eqb (kind_of stream) 0) video audio ≡ stream_in video audio stream
by_kind video audio Video = refl
by_kind video audio Audio = refl

module _ (number : ℕ) (video audio : List ℕ) (packing : Packing) where
  abbrev there : List ℕ
  there = audio_in packing audio

  abbrev answer_at : ℕ → Option Piece
  answer_at turn = turn_in (length video) (size_in packing (length audio)) turn

  -- what is learnt of a call
  record Answered (turn : ℕ) (call : Call) : Type 0 where
    pub piece : Piece
    pub is : answer_at turn ≡ Some piece
    pub next : call.reply.next ≡ piece.next
    pub put : put_by call ≡ piece_bytes number packing video there piece
    pub unmarked : stands_at contents_end (payload_of video there piece) 0 ≡ false

  module _ (turn : ℕ) (call : Call) (w : Went number video audio packing turn call) where
    no_over : answer_at turn ≡ None → Answered turn call
    no_over e =
        let r : call.reply ≡ replied_on packing (length call.out) None = w.0.0 ∙ ap (replied_on packing (length call.out)) e in
        let y : ◌≡◌ {A = ℕ} 0 1 = sym (ap (λ (q : TurnReply). q.found) r) ∙ w.1 in
        absurd (omega arith)

    module _ (piece : Piece) (e : answer_at turn ≡ Some piece) where
      abbrev head : List ℕ
      head = head_of (letters_of piece.stream) piece.len

      abbrev mask : Mask
      mask = mask_in packing.key packing.audio_codec piece.stream

      reply-is : call.reply ≡ piece_reply packing (written_in (length call.out) (Ok 0x20)) piece
      reply-is = w.0.0 ∙ ap (replied_on packing (length call.out)) e

      room : ltb (length call.out) 0x20 ≡ false
      room = head_room (ltb (length call.out) 0x20) (length call.out) refl (sym (ap (λ (q : TurnReply). q.head.number) reply-is) ∙ w.2)

      written : written_in (length call.out) (Ok 0x20) ≡ Ok 0x20
      written = rw room

      size_is : call.reply.head.size ≡ 0x20
      size_is = ap (λ (q : TurnReply). q.head.size) reply-is ∙ ap (λ (a : Result ℕ Refusal). (size_reply a).size) written

      head-put : call.out' ≡ sets call.out 0 head
      head-put = w.0.1 ∙ ap (λ (t : Option Piece). head_in t call.out) e ∙ ap (λ (a : Result ℕ Refusal). left_by a call.out head) written

      head-there : take call.reply.head.size call.out' ≡ head
      head-there =
          ap (λ (n : ℕ). take n call.out') size_is
          ∙ first_bytes head call.out call.out' 0x20 (head_length (letters_of piece.stream) piece.len) (ltb-false (length call.out) 0x20 room) head-put

      payload_is : payload_by video there call.reply ≡ payload_of video there piece
      payload_is = ap (payload_by video there) reply-is ∙ ap (λ (l : List ℕ). take piece.len (drop piece.from l)) (by_kind video there piece.stream)

      mask_is : mask_by call.reply.mask ≡ mask
      mask_is = ap (λ (q : TurnReply). mask_by q.mask) reply-is ∙ MaskOfItsNumber mask

      stored-so : (stands_at contents_end (payload_by video there call.reply) 0 ≡ false)
          × (call.stored ≡ stored_by number (mask_by call.reply.mask) (payload_by video there call.reply))
      stored-so = stored_by_lem number (mask_by call.reply.mask) (payload_by video there call.reply) call.stored call.size (stands_at contents_end (payload_by video there call.reply) 0) refl w.3

      a_piece : Answered turn call
      a_piece =
          record {
            piece = piece;
            is = e;
            next = ap (λ (q : TurnReply). q.next) reply-is;
            put =
                ap₂ (λ (h t : List ℕ). h ++ t) head-there
                (ap₂ (λ (p z : List ℕ). p ++ z) (stored-so.1 ∙ ap₂ (stored_by number) mask_is payload_is) (ap (λ (q : TurnReply). zeros q.padding) reply-is));
            unmarked = sym (ap (λ (l : List ℕ). stands_at contents_end l 0) payload_is) ∙ stored-so.0;
          }

    by_answer : (answer : Option Piece) → answer_at turn ≡ answer → Answered turn call
    by_answer None e = no_over e
    by_answer (Some piece) e = a_piece piece e

  -- what is learnt of all calls
  pub record AllAnswered (turn : ℕ) (calls : List Call) : Type 0 where
    pub pieces : List Piece
    pub taken : Taken (length video) (size_in packing (length audio)) turn pieces
    pub bytes : bytes_by put_by calls ≡ bytes_by (piece_bytes number packing video (audio_in packing audio)) pieces
    pub unmarked : any_marked (map (payload_of video (audio_in packing audio)) pieces) ≡ false

  module _ (turn : ℕ) (last : Call) (w : Asked video audio packing turn last) (z : last.reply.found ≡ 0) where
    over_by : (answer : Option Piece) → answer_at turn ≡ answer → answer_at turn ≡ None
    over_by None e = e
    over_by (Some piece) e =
        let y : ◌≡◌ {A = ℕ} 1 0 = sym (ap (λ (q : TurnReply). q.found) (w.0 ∙ ap (replied_on packing (length last.out)) e)) ∙ z in absurd (omega arith)

  pub all_answered : (last : Call) (turn : ℕ) (calls : List Call) → WentOn number video audio packing last turn calls → AllAnswered turn calls
  unfolding bytes_by any_marked
  all_answered last turn [] w = record { pieces = []; taken = over_by turn last w.0 w.1 (answer_at turn) refl; bytes = refl; unmarked = refl }
  all_answered last turn (call ∷ calls) w =
      let one = by_answer turn call w.0 (answer_at turn) refl in
      let rest = all_answered last call.reply.next calls w.1 in
      record {
        pieces = one.piece ∷ rest.pieces;
        taken = (one.is, subst (λ (t : ℕ). Taken (length video) (size_in packing (length audio)) t rest.pieces) one.next rest.taken);
        bytes = ap₂ (λ (h t : List ℕ). h ++ t) one.put rest.bytes;
        unmarked = rw one.unmarked rest.unmarked;
      }
