-- The promise of specs/Promises.antt, under its name: after each piece, what is clear is the beginning of the payload made clear as a whole. Assumes nothing.
use mathlib.Core.Path.{◌≡◌, refl, sym, ap, ap₂, subst, ◌∙◌}
use mathlib.Core.Logic.{◌⊎◌, inl, inr}
use mathlib.Core.Bool.{true}
use mathlib.Core.List.{List, [], ◌∷◌, ◌++◌}
use Prim.Native.Nat.{ℕ, zero, suc, ◌+◌, ◌-◌, ◌≤◌, ◌<◌}
use native.Mathlib.Omega.{arith}
use lib.ListN.{length, take, drop, length-append, length-drop}
use lib.Seq.{get_or-take, get_or-drop, length-take-le, take_all, take-add, take_at, drop_at, drop-drop}
use Rattle.laws.specs.Lists.{at}
use Rattle.unmasking.specs.declared.Mask.{Mask}
use Rattle.unmasking.specs.Unmasking.{cleared_by}
use Rattle.payload_pieces.specs.Pieces.{is_piece, cleared_after, piece_left}
use Rattle.payload_pieces.specs.Promises as promised
use Rattle.payload_pieces.specs.Promises.{joined, last_row, clear_in_turn, AllAccepted}
use Rattle.payload_pieces.proofs.PieceLaws.{Edge, After, Piece, known_piece, left_first, left_after}
use Rattle.payload_pieces.proofs.BeginningLaws.{cleared_length, clear_beginning, clear_all}
use Rattle.payload_pieces.proofs.OnwardLaws.{clear_onward}

module _ (number : ℕ) (mask : Mask) (s : List ℕ) where
  -- the payload made clear as a whole
  abbrev whole : List ℕ
  whole = cleared_by number mask s

  first_end : (n : ℕ) → n ≤ length s → (0 + n ≡ length s) ⊎ Edge (0 + n) → cleared_by number mask (take n s) ≡ take n whole
  first_end n h (inl e) = clear_all number mask s n (omega arith)
  first_end n h (inr e) = clear_beginning s n h number mask (omega (arith, e.far))

  -- one piece, at k, after what is clear
  module _ (clear piece : List ℕ) (k : ℕ) (l : k ≤ length s) (e : clear ≡ take k whole) (here : piece ≡ take (length piece) (drop k s)) where
    clear_length : length clear ≡ k
    clear_length = ap length e ∙ length-take-le k whole (omega (arith, cleared_length number mask s))

    row_at : 0x20 ≤ k → (lane : ℕ) → lane < 0x20 → at (last_row clear) lane ≡ at whole (k - 0x20 + lane)
    row_at h lane b =
        let q : length clear - 0x20 + lane ≡ k - 0x20 + lane = omega (arith, clear_length) in
        get_or-drop (length clear - 0x20) clear lane 0 ∙ ap (at clear) q ∙ ap (λ (z : List ℕ). at z (k - 0x20 + lane)) e
        ∙ get_or-take k whole (k - 0x20 + lane) 0 (omega arith)

    made : (is_piece (length s) (length clear) (length (last_row clear)) (length piece) ≡ true)
        → Piece (length s) (length clear) (length (last_row clear)) (length piece)
        → (length clear ≡ 0) ⊎ After (length clear) (length (last_row clear))
        → piece_left number mask (length s) (length clear) (last_row clear) piece ≡ take (length piece) (drop k whole)
    made told known (inl z) =
        let o : k ≡ 0 = omega (arith, clear_length) in
        sym (left_first number mask (length s) (length clear) (last_row clear) piece told z)
        ∙ ap (cleared_by number mask) (here ∙ ap (λ (m : ℕ). take (length piece) (drop m s)) o)
        ∙ first_end (length piece) (omega (arith, known.inside)) (subst (λ (m : ℕ). (m + length piece ≡ length s) ⊎ Edge (m + length piece)) z known.end)
        ∙ ap (λ (m : ℕ). take (length piece) (drop m whole)) (sym o)
    made told known (inr a) =
        let edge = subst Edge clear_length a.edge in
        sym (left_after number mask (length s) (length clear) (last_row clear) piece told (λ z. omega (arith, a.edge.far)))
        ∙ ap (cleared_after number mask (last_row clear)) here
        ∙ clear_onward number mask s k (length piece) edge (omega (arith, known.inside, clear_length)) (last_row clear) a.row (row_at (omega (arith, edge.far)))

    pub piece_made : (is_piece (length s) (length clear) (length (last_row clear)) (length piece) ≡ true)
        → (clear ++ piece_left number mask (length s) (length clear) (last_row clear) piece ≡ take (k + length piece) whole) × (k + length piece ≤ length s)
    piece_made told =
        let known = known_piece (length s) (length clear) (length (last_row clear)) (length piece) told in
        (ap₂ ◌++◌ e (made told known known.start) ∙ sym (take-add k (length piece) whole), omega (arith, known.inside, clear_length))

  in_turn : (pieces : List (List ℕ)) (clear : List ℕ) (k : ℕ) → k ≤ length s → clear ≡ take k whole → drop k s ≡ joined pieces
      → AllAccepted number mask (length s) clear pieces → clear_in_turn number mask (length s) clear pieces ≡ whole
  unfolding joined clear_in_turn AllAccepted
  in_turn [] clear k l e rest all =
      let n : length s - k ≡ 0 = sym (length-drop k s) ∙ ap length rest in
      e ∙ take_all k whole (omega (arith, cleared_length number mask s))
  in_turn (piece ∷ pieces) clear k l e rest all =
      let here : piece ≡ take (length piece) (drop k s) = sym (ap (take (length piece)) rest ∙ take_at piece (joined pieces) (length piece) refl) in
      let next = piece_made clear piece k l e here all.0 in
      in_turn pieces (clear ++ piece_left number mask (length s) (length clear) (last_row clear) piece) (k + length piece) next.1 next.0
      (sym (drop-drop (length piece) k s) ∙ ap (drop (length piece)) rest ∙ drop_at piece (joined pieces) (length piece) refl) all.1

pub ClearByPieces : promised.ClearByPieces
ClearByPieces number mask pieces all = in_turn number mask (joined pieces) pieces [] 0 (omega arith) refl refl all
