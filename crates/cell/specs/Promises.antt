-- What a cell's numbers promise beyond their definitions. Each is proved under the same name in proofs/Promises.antt.
use Rattle.std.specs.Prelude.{ℕ, ◌^◌, ◌<◌, ◌≡◌}
use Rattle.cell.specs.Cells.{float_cell}
use Rattle.cell.specs.CellNumbers.{value_of}

-- A float cell keeps its 32 bits, a NaN's too.
abbrev pub FloatBitsKept : Type 0
FloatBitsKept = (bits : ℕ) → bits < 2 ^ 32 → value_of (float_cell bits) ≡ bits
