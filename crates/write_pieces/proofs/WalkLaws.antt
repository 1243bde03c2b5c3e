-- Turn after turn: whatever is made of the payloads of both streams, round by round, is made of the pieces that a writer is answered. Assumes nothing.
use Rattle.std.specs.Prelude.{Option, Some, None}
use Prim.Native.Nat.{ℕ, zero, suc, ◌+◌, ◌*◌, ◌/◌, ◌%◌, ◌≤◌, ◌<◌}
use mathlib.Core.Path.{◌≡◌, refl, sym, ap, ◌∙◌}
use mathlib.Core.List.{List, [], ◌∷◌}
use mathlib.Core.Bool.{true, false, cond}
use mathlib.Core.Logic.{⊎_elim}
use native.Mathlib.Omega.{arith}
use lib.Dec.{eqb}
use borrow.Author.Tests.{eq-eqb, ne_eqb}
use Rattle.laws.proofs.Side.{side}
use Rattle.write_plan.specs.declared.Stream.{Stream}
use Rattle.write_plan.specs.declared.Stream.TheVariants.{Video, Audio}
use Rattle.write_pieces.specs.declared.Piece.{Piece}
use Rattle.write_pieces.specs.Turns.{payload_len, turn_after, piece_of, first_of, turn_in}
use Rattle.write_pieces.specs.Writers.{Taken, after_turn, pieces_from}

-- ---- payload k of a stream

abbrev pub piece_at : Stream → ℕ → ℕ → Piece
piece_at stream size k = record { stream = stream; from = k * 0x10000; len = payload_len size k; next = turn_after stream k }

module _ (stream : Stream) (size k : ℕ) where
  pub no_piece : payload_len size k ≡ 0 → piece_of stream size k ≡ None
  no_piece z = rw (eq-eqb (payload_len size k) 0 z)

  pub a_piece : (payload_len size k ≡ 0 → ⊥) → piece_of stream size k ≡ Some (piece_at stream size k)
  a_piece z = rw (ne_eqb (payload_len size k) 0 z)

  -- a stream is over, or goes on
  pub over_or_on : {A : Type 0} → (payload_len size k ≡ 0 → A) → ((payload_len size k ≡ 0 → ⊥) → A) → A
  over_or_on none some = ⊎_elim (λ (h : payload_len size k < 1). none (omega arith)) (λ (h : 1 ≤ payload_len size k). some (λ z. omega arith)) (side (payload_len size k) 1)

-- ---- turns

even_turn : (k : ℕ) → (eqb (2 * k % 2) 0 ≡ true) × (2 * k / 2 ≡ k)
even_turn k = (eq-eqb (2 * k % 2) 0 (omega arith), omega arith)

odd_turn : (k : ℕ) → (eqb ((2 * k + 1) % 2) 0 ≡ false) × ((2 * k + 1) / 2 ≡ k)
odd_turn k = (ne_eqb ((2 * k + 1) % 2) 0 (λ e. omega arith), omega arith)

-- a turn is that of the video in a round, or that of the audio
by_parity : {A : Type 0} (turn : ℕ) → ((k : ℕ) → turn ≡ 2 * k → A) → ((k : ℕ) → turn ≡ 2 * k + 1 → A) → A
by_parity turn even odd =
    ⊎_elim (λ (h : turn % 2 < 1). even (turn / 2) (omega arith)) (λ (h : 1 ≤ turn % 2). odd (turn / 2) (omega arith)) (side (turn % 2) 1)

module _ (video audio : ℕ) where
  turn_even : (k : ℕ) → turn_in video audio (2 * k) ≡ first_of (piece_of Video video k) (piece_of Audio audio k)
  unfolding turn_in
  turn_even k = rw ((even_turn k).0, (even_turn k).1)

  turn_odd : (k : ℕ) → turn_in video audio (2 * k + 1) ≡ first_of (piece_of Audio audio k) (piece_of Video video (k + 1))
  unfolding turn_in
  turn_odd k = rw ((odd_turn k).0, (odd_turn k).1)

  -- ---- what is made of the payloads, from the video of a round on and from its audio on

  module _ {M : Type 0} (one : Piece → M → M) (over : M) (seen heard : ℕ → M) where
    -- from a turn on
    abbrev from_turn : ℕ → M
    from_turn turn = cond (eqb (turn % 2) 0) (seen (turn / 2)) (heard (turn / 2))

    from_even : (k : ℕ) → from_turn (2 * k) ≡ seen k
    from_even k = rw ((even_turn k).0, (even_turn k).1)

    from_odd : (k : ℕ) → from_turn (2 * k + 1) ≡ heard k
    from_odd k = rw ((odd_turn k).0, (odd_turn k).1)

    from_next : (k : ℕ) → from_turn (2 * k + 2) ≡ seen (k + 1)
    from_next k = let e : 2 * k + 2 ≡ 2 * (k + 1) = omega arith in ap from_turn e ∙ from_even (k + 1)

    -- a round's video, where there is one and where there is none; its audio; and where both are over
    module _ (video-on : (k : ℕ) → (payload_len video k ≡ 0 → ⊥) → seen k ≡ one (piece_at Video video k) (heard k))
        (video-off : (k : ℕ) → payload_len video k ≡ 0 → seen k ≡ heard k)
        (audio-on : (k : ℕ) → (payload_len audio k ≡ 0 → ⊥) → heard k ≡ one (piece_at Audio audio k) (seen (k + 1)))
        (audio-off : (k : ℕ) → payload_len audio k ≡ 0 → heard k ≡ seen (k + 1))
        (none : (k : ℕ) → payload_len video k ≡ 0 → payload_len audio k ≡ 0 → seen k ≡ over) where
      -- what a turn is answered, and what is made from it on
      abbrev Step : ℕ → Option Piece → Type 0
      Step turn None = from_turn turn ≡ over
      Step turn (Some piece) = from_turn turn ≡ one piece (from_turn piece.next)

      step-as : (turn : ℕ) (some other : Option Piece) → some ≡ other → Step turn other → Step turn some
      step-as turn some other e s = rw e s

      step-even : (k : ℕ) → Step (2 * k) (turn_in video audio (2 * k))
      step-even k =
          over_or_on Video video k
          (λ z. over_or_on Audio audio k
          (λ y. step-as (2 * k) (turn_in video audio (2 * k)) None (turn_even k ∙ rw (no_piece Video video k z, no_piece Audio audio k y)) (from_even k ∙ none k z y))
          (λ y. step-as (2 * k) (turn_in video audio (2 * k)) (Some (piece_at Audio audio k)) (turn_even k ∙ rw (no_piece Video video k z, a_piece Audio audio k y))
          (from_even k ∙ video-off k z ∙ audio-on k y ∙ ap (one (piece_at Audio audio k)) (sym (from_next k)))))
          (λ z. step-as (2 * k) (turn_in video audio (2 * k)) (Some (piece_at Video video k)) (turn_even k ∙ rw (a_piece Video video k z))
          (from_even k ∙ video-on k z ∙ ap (one (piece_at Video video k)) (sym (from_odd k))))

      step-odd : (k : ℕ) → Step (2 * k + 1) (turn_in video audio (2 * k + 1))
      step-odd k =
          over_or_on Audio audio k
          (λ z. over_or_on Video video (k + 1)
          (λ y. step-as (2 * k + 1) (turn_in video audio (2 * k + 1)) None (turn_odd k ∙ rw (no_piece Audio audio k z, no_piece Video video (k + 1) y))
          (let x : payload_len audio (k + 1) ≡ 0 = omega arith in from_odd k ∙ audio-off k z ∙ none (k + 1) y x))
          (λ y. step-as (2 * k + 1) (turn_in video audio (2 * k + 1)) (Some (piece_at Video video (k + 1))) (turn_odd k ∙ rw (no_piece Audio audio k z, a_piece Video video (k + 1) y))
          (from_odd k ∙ audio-off k z ∙ video-on (k + 1) y ∙ ap (one (piece_at Video video (k + 1))) (sym (from_odd (k + 1))))))
          (λ z. step-as (2 * k + 1) (turn_in video audio (2 * k + 1)) (Some (piece_at Audio audio k)) (turn_odd k ∙ rw (a_piece Audio audio k z))
          (from_odd k ∙ audio-on k z ∙ ap (one (piece_at Audio audio k)) (sym (from_next k))))

      step : (turn : ℕ) → Step turn (turn_in video audio turn)
      step turn = by_parity turn (λ k e. rw e (step-even k)) (λ k e. rw e (step-odd k))

      -- what is made of pieces
      module _ (make : List Piece → M) (make-none : make [] ≡ over) (make-more : (piece : Piece) (pieces : List Piece) → make (piece ∷ pieces) ≡ one piece (make pieces)) where
        made-from : (turn : ℕ) (pieces : List Piece) → Taken video audio turn pieces → from_turn turn ≡ make pieces
        made-from turn [] taken = step-as turn None (turn_in video audio turn) (sym taken) (step turn) ∙ sym make-none
        made-from turn (piece ∷ pieces) taken =
            step-as turn (Some piece) (turn_in video audio turn) (sym taken.0) (step turn)
            ∙ ap (one piece) (made-from piece.next pieces taken.1)
            ∙ sym (make-more piece pieces)

        -- from the first turn on
        pub made_of : (pieces : List Piece) → Taken video audio 0 pieces → seen 0 ≡ make pieces
        made_of pieces taken = sym (from_even 0) ∙ made-from 0 pieces taken

  -- ---- turns end

  -- each answer's next turn is a later one, and past the streams both are over
  abbrev Later : ℕ → Option Piece → Type 0
  Later turn None = Unit
  Later turn (Some piece) = turn < piece.next

  later_as : (turn : ℕ) (some other : Option Piece) → some ≡ other → Later turn other → Later turn some
  later_as turn some other e s = rw e s

  later : (turn : ℕ) → Later turn (turn_in video audio turn)
  later turn =
      by_parity turn
      (λ k e. rw e
      (over_or_on Video video k
      (λ z. over_or_on Audio audio k (λ y. later_as (2 * k) _ None (turn_even k ∙ rw (no_piece Video video k z, no_piece Audio audio k y)) tt)
      (λ y. later_as (2 * k) _ (Some (piece_at Audio audio k)) (turn_even k ∙ rw (no_piece Video video k z, a_piece Audio audio k y)) (omega arith)))
      (λ z. later_as (2 * k) _ (Some (piece_at Video video k)) (turn_even k ∙ rw (a_piece Video video k z)) (omega arith))))
      (λ k e. rw e
      (over_or_on Audio audio k
      (λ z. over_or_on Video video (k + 1) (λ y. later_as (2 * k + 1) _ None (turn_odd k ∙ rw (no_piece Audio audio k z, no_piece Video video (k + 1) y)) tt)
      (λ y. later_as (2 * k + 1) _ (Some (piece_at Video video (k + 1))) (turn_odd k ∙ rw (no_piece Audio audio k z, a_piece Video video (k + 1) y)) (omega arith)))
      (λ z. later_as (2 * k + 1) _ (Some (piece_at Audio audio k)) (turn_odd k ∙ rw (a_piece Audio audio k z)) (omega arith))))

  past : (turn : ℕ) → video + audio + 2 ≤ turn → turn_in video audio turn ≡ None
  past turn h =
      by_parity turn
      (λ k e. rw e
      (let v : payload_len video k ≡ 0 = omega arith in
      let a : payload_len audio k ≡ 0 = omega arith in
      turn_even k ∙ rw (no_piece Video video k v, no_piece Audio audio k a)))
      (λ k e. rw e
      (let v : payload_len video (k + 1) ≡ 0 = omega arith in
      let a : payload_len audio k ≡ 0 = omega arith in
      turn_odd k ∙ rw (no_piece Audio audio k a, no_piece Video video (k + 1) v)))

  module _ (n turn : ℕ) (h : video + audio + 2 ≤ suc n + turn) (rest : (next : ℕ) → video + audio + 2 ≤ n + next → Taken video audio next (pieces_from video audio n next)) where
    ends_after : (answer : Option Piece) → turn_in video audio turn ≡ answer → Later turn answer → Taken video audio turn (after_turn (pieces_from video audio n) answer)
    ends_after None e l = e
    ends_after (Some piece) e l = (e, rest piece.next (omega arith))

  pub all_taken : (n turn : ℕ) → video + audio + 2 ≤ n + turn → Taken video audio turn (pieces_from video audio n turn)
  unfolding pieces_from
  all_taken zero turn h = past turn (omega arith)
  all_taken (suc n) turn h = ends_after n turn h (all_taken n) (turn_in video audio turn) refl (later turn)
