-- Rule F5: "A payload can be cut between two rows, from 0x240 on. The first piece is made clear as a payload is; each other by the clear row before it."
use Rattle.std.specs.Prelude.{ℕ, ◌+◌, ◌%◌, List, Bool, cond, ◌&&◌, ◌||◌, length, leb, eqb}
use Rattle.key.specs.KeyTable.{keys_of}
use Rattle.mask.specs.Rows.{cleared_on, xored_rows}
use Rattle.unmasking.specs.declared.Mask.{Mask}
use Rattle.unmasking.specs.declared.Mask.TheVariants.{Clear, VideoMask, AudioMask}
use Rattle.unmasking.specs.Unmasking.{cleared_by}

-- "between two rows, from 0x240 on"
abbrev pub is_edge : ℕ → Bool
is_edge place = leb 0x240 place && eqb (place % 0x20) 0

-- a piece begins with the payload, or at an edge and after a clear row of 0x20 bytes
abbrev pub begins : ℕ → ℕ → Bool
begins place lent = eqb place 0 || (eqb lent 0x20 && is_edge place)

-- and it ends with the payload, or at an edge
abbrev pub ends : ℕ → ℕ → Bool
ends total place = eqb place total || is_edge place

-- whether so many bytes at a place of a payload of `total` bytes are a piece, after so many clear bytes that are lent
unfoldable pub is_piece : ℕ → ℕ → ℕ → ℕ → Bool
is_piece total place lent bytes = leb (place + bytes) total && (begins place lent && ends total (place + bytes))

-- "each other by the clear row before it"
abbrev pub cleared_after : ℕ → Mask → List ℕ → List ℕ → List ℕ
cleared_after number Clear row piece = piece
cleared_after number VideoMask row piece = cleared_on (keys_of number).v row piece
cleared_after number AudioMask row piece = xored_rows (keys_of number).a piece

-- "The first piece is made clear as a payload is"
unfoldable pub cleared_piece : ℕ → Mask → ℕ → List ℕ → List ℕ → List ℕ
cleared_piece number mask place row piece = cond (eqb place 0) (cleared_by number mask piece) (cleared_after number mask row piece)

-- what is left of a lent piece: made clear, or as it was where it is none
unfoldable pub piece_left : ℕ → Mask → ℕ → ℕ → List ℕ → List ℕ → List ℕ
piece_left number mask total place row piece = cond (is_piece total place (length row) (length piece)) (cleared_piece number mask place row piece) piece
