-- A piece that does not fit is left out; one that does is put after the line. Assumes nothing.
use Rattle.std.proofs.Common.{◌≡◌, List, [], ◌∷◌, ℕ, ◌-◌, ◌*◌, ◌≤◌, ◌<◌, arith, length, lt-ltb, le-ltb}
use Rattle.text.specs.Numbers.{hex_bytes}
use Rattle.laws.specs.Outputs.{Put}
use Rattle.print_line.specs.declared.Line.{Line}
use Rattle.print_line.specs.Lines.{with_piece}

module _ (line : Line) (piece : List ℕ) where
  pub left_out : 8200 - line.len < length piece → line ≡ with_piece line piece
  unfolding with_piece
  left_out h = rw (lt-ltb _ _ h)

  pub put_after : (bytes : List ℕ) (end : ℕ) → length piece ≤ 8200 - line.len → Put piece line.bytes line.len bytes end → record { bytes = bytes; len = end } ≡ with_piece line piece
  unfolding with_piece
  put_after bytes end h put = rw (le-ltb _ _ h, put.holds, put.ends)

pub hex_length : (bytes : List ℕ) → length (hex_bytes bytes) ≡ 2 * length bytes
unfolding hex_bytes
hex_length [] = omega arith
hex_length (x ∷ xs) = omega (arith, hex_length xs)
