-- Rules T: where a column has its values, by its type byte; and what it takes there.
-- m is the table's mode, b its body, l its layout.
use Rattle.std.specs.Prelude.{ℕ, ◌+◌, ◌/◌, ◌%◌, List, cond, ◌||◌, eqb, Result, Ok, Err}
use Rattle.refusal.specs.declared.Cause.{Cause}
use Rattle.reading.specs.declared.TableMode.{TableMode}
use Rattle.reading.specs.declared.TableMode.TheVariants.{Original, ZeroColumns}
use Rattle.refusal.specs.declared.Cause.TheVariants.{UnknownStorage}
use Rattle.layout.specs.declared.Layout.{Layout}
use Rattle.cell.specs.declared.Cell.{Cell}
use Rattle.cell.specs.declared.Cell.TheVariants.{Nothing}
use Rattle.cell.specs.Types.{width_of}
use Rattle.cell.specs.Cells.{cell_at, zero_cell}
use Rattle.column.specs.declared.Storage.{Storage}
use Rattle.column.specs.declared.Storage.TheVariants.{Constant, Stored, Zero, Unknown}

-- rules T, as the Rust does: "Every other nibble, 1 included, is stored per row"
-- request 5: "a table mode where high nibble 1 stores nothing"; "In this mode nibbles 1, 3, 5 and 7 are the only kinds."
abbrev pub other_storage : TableMode → ℕ → Storage
other_storage Original nibble = Stored
other_storage ZeroColumns nibble = cond (eqb nibble 1) Zero (cond (eqb nibble 5) Stored Unknown)

-- in both modes: "high nibble 3 or 7 means a constant whose value follows"
abbrev pub storage_of : TableMode → ℕ → Storage
storage_of m tag = cond (eqb (tag / 16) 3 || eqb (tag / 16) 7) Constant (other_storage m (tag / 16))

-- in its record a column takes "type byte, name offset", and a constant's value
abbrev pub record_of : Storage → ℕ → ℕ
record_of Constant width = 5 + width
record_of Stored width = 5
record_of Zero width = 5
record_of Unknown width = 5

abbrev pub in_record : TableMode → ℕ → ℕ
in_record m tag = record_of (storage_of m tag) (width_of (tag % 16))

-- in a row it takes a stored value's width, and else nothing
abbrev pub row_of : Storage → ℕ → ℕ
row_of Constant width = 0
row_of Stored width = width
row_of Zero width = 0
row_of Unknown width = 0

abbrev pub in_row : TableMode → ℕ → ℕ
in_row m tag = row_of (storage_of m tag) (width_of (tag % 16))

-- the constant of type k that stands at body byte p of a record. "18 unknown storage kind in the new mode, checked after the column's name and before its value"
abbrev pub constant_at : List ℕ → Storage → ℕ → ℕ → Layout → Result Cell Cause
constant_at b Constant k p l = cell_at b k p l
constant_at b Stored k p l = Ok Nothing
constant_at b Zero k p l = Ok Nothing
constant_at b Unknown k p l = Err UnknownStorage

-- the cell in a row of a column with this constant: type k, at body byte p where it is stored. "an unknown type in a zero column is 8 once per-row values are read"
abbrev pub cell_in : List ℕ → Storage → Cell → ℕ → ℕ → Layout → Result Cell Cause
cell_in b Constant constant k p l = Ok constant
cell_in b Stored constant k p l = cell_at b k p l
cell_in b Zero constant k p l = zero_cell k
cell_in b Unknown constant k p l = Err UnknownStorage
