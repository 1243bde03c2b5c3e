-- A line that is made piece by piece.
use Rattle.std.specs.Prelude.{ℕ, ◌+◌, ◌-◌, cond, List, length, ltb}
use Rattle.std.proofs.lemmas.List.Edits.{sets}
use Rattle.print_line.specs.declared.Line.{Line}

-- a line with a piece after it; a piece that does not fit into 8,200 bytes is left out
unfoldable pub with_piece : Line → List ℕ → Line
with_piece line piece =
    cond (ltb (8200 - line.len) (length piece)) line
    (record { bytes = sets line.bytes line.len piece; len = line.len + length piece })
