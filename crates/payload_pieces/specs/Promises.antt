-- What is promised of a payload that is made clear piece by piece. Each is proved under the same name in proofs/Promises.antt.
use Rattle.std.specs.Prelude.{ℕ, ◌+◌, ◌-◌, ◌≡◌, true, List, [], ◌∷◌, ◌++◌, length, drop}
use Rattle.unmasking.specs.declared.Mask.{Mask}
use Rattle.unmasking.specs.Unmasking.{cleared_by}
use Rattle.payload_pieces.specs.Pieces.{is_piece, piece_left}

-- the pieces one after the other
unfoldable pub joined : List (List ℕ) → List ℕ
joined [] = []
joined (piece ∷ pieces) = piece ++ joined pieces

-- the last row of what is clear so far
abbrev pub last_row : List ℕ → List ℕ
last_row clear = drop (length clear - 0x20) clear

-- what a caller has who makes each piece clear at the place where the one before it ended, after the last clear row
unfoldable pub clear_in_turn : ℕ → Mask → ℕ → List ℕ → List (List ℕ) → List ℕ
clear_in_turn number mask total clear [] = clear
clear_in_turn number mask total clear (piece ∷ pieces) =
    clear_in_turn number mask total (clear ++ piece_left number mask total (length clear) (last_row clear) piece) pieces

-- each of these calls said that it made its piece clear
unfoldable pub AllAccepted : ℕ → Mask → ℕ → List ℕ → List (List ℕ) → Type 0
AllAccepted number mask total clear [] = Unit
AllAccepted number mask total clear (piece ∷ pieces) =
    (is_piece total (length clear) (length (last_row clear)) (length piece) ≡ true)
    × AllAccepted number mask total (clear ++ piece_left number mask total (length clear) (last_row clear) piece) pieces

-- However a payload is cut into pieces: where none is refused, the clear pieces one after the other are the payload made clear as a whole.
abbrev pub ClearByPieces : Type 0
ClearByPieces =
    (number : ℕ) (mask : Mask) (pieces : List (List ℕ))
    → AllAccepted number mask (length (joined pieces)) [] pieces
    → clear_in_turn number mask (length (joined pieces)) [] pieces ≡ cleared_by number mask (joined pieces)
