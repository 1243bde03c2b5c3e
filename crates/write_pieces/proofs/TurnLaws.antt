-- A law for each answer of the functions of a turn. Assumes nothing.
use Rattle.std.specs.Prelude.{Option, Some, None, Result}
use Rattle.refusal.specs.declared.Refusal.{Refusal}
use Prim.Native.Nat.{ℕ, ◌*◌}
use mathlib.Core.Path.{◌≡◌, refl, sym, ◌∙◌}
use mathlib.Core.List.{List}
use lib.ListN.{length}
use borrow.Author.Tests.{eq-eqb, ne_eqb}
use Rattle.write.specs.Writing.{HeadWriting}
use Rattle.write_plan.specs.declared.Packing.{Packing}
use Rattle.write_plan.specs.declared.Stream.{Stream}
use Rattle.write_pieces.specs.declared.Piece.{Piece}
use Rattle.write_pieces.specs.declared.TurnReply.{TurnReply}
use Rattle.write_pieces.specs.Turns.{payload_len, turn_after, piece_of, first_of}
use Rattle.std.specs.Option.{option_or}
use Rattle.write_pieces.specs.TurnReplies.{over_reply, piece_reply, replied_on, head_in}

module _ (stream : Stream) (size k n : ℕ) (e : n ≡ payload_len size k) where
  pub none_of : n ≡ 0 → None ≡ piece_of stream size k
  none_of z = rw (eq-eqb (payload_len size k) 0 (sym e ∙ z))

  pub some_of : (n ≡ 0 → ⊥) → (next : ℕ) → next ≡ turn_after stream k
      → Some (record { stream = stream; from = k * 0x10000; len = n; next = next }) ≡ piece_of stream size k
  some_of z next f = rw (ne_eqb (payload_len size k) 0 (λ y. z (e ∙ y)), e, f)

module _ (packing : Packing) (turn : Option Piece) (out : List ℕ) (r : TurnReply) where
  pub turn_over : turn ≡ None → r ≡ over_reply → (r ≡ replied_on packing (length out) turn) × (out ≡ head_in turn out)
  turn_over e f = (f ∙ rw e, rw e)

  pub turn_next : (piece : Piece) (written : Result ℕ Refusal) (out' : List ℕ) → turn ≡ Some piece → HeadWriting piece.stream piece.len out written out'
      → r ≡ piece_reply packing written piece → (r ≡ replied_on packing (length out) turn) × (out' ≡ head_in turn out)
  turn_next piece written out' e w f = (f ∙ rw (e, w.0), w.1 ∙ rw (e, w.0))

-- std's word for the first of two turns that there is
pub or_is : (some other : Option Piece) → option_or some other ≡ first_of some other
or_is (Some piece) other = refl
or_is None other = refl
