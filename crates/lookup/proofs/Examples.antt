-- The smallest tables on which the two modes differ, by computing: one column, whose record is the whole body. Assumes nothing.
use Rattle.std.specs.Prelude.{Result, Ok, Err}
use Rattle.cell.specs.declared.Cell.{Cell}
use Rattle.refusal.specs.declared.Refusal.{Refusal}
use Prim.Native.Nat.{ℕ}
use mathlib.Core.Path.{◌≡◌, refl}
use mathlib.Core.List.{List, [], ◌∷◌, map}
use lib.IntN.{pos}
use Rattle.reading.specs.declared.TableMode.{TableMode}
use Rattle.reading.specs.declared.TableMode.TheVariants.{Original, ZeroColumns}
use Rattle.refusal.specs.declared.Cause.{Cause}
use Rattle.refusal.specs.declared.Cause.TheVariants.{RanOut, UnknownType, UnknownStorage}
use Rattle.layout.specs.Layouts.{counted_in, layout_in}
use Rattle.cell.specs.declared.Cell.TheVariants.{Nothing, Unsigned, Signed, Text, Data}
use Rattle.cell.specs.Parts.{zero_in}
use Rattle.cell.specs.Cells.{float_cell, value_at, cell_at, zero_cell}
use Rattle.column.specs.Columns.{column_from, named, column_at}
use Rattle.table.specs.Walks.{columns_from, row_from, rows_from, walk_of}
use Rattle.table.specs.Tables.{table_of}
use Rattle.lookup.specs.Names.{spells}
use Rattle.lookup.specs.Search.{search_from}
use Rattle.lookup.specs.Lookups.{body_cell, cell_from, cell_of}

-- 37 bytes: a column of this type byte and of the empty name, and so many rows, for which no byte is there
abbrev small : ℕ → ℕ → List ℕ
small tag rows =
    0x40 ∷ 0x55 ∷ 0x54 ∷ 0x46 ∷ 0 ∷ 0 ∷ 0 ∷ 29 ∷ 0 ∷ 0 ∷ 0 ∷ 0 ∷ 0 ∷ 0 ∷ 0 ∷ 25 ∷ 0 ∷ 0 ∷ 0 ∷ 0 ∷ 0 ∷ 0 ∷ 0 ∷ 0 ∷ 0 ∷ 1 ∷ 0 ∷ 0 ∷ 0 ∷ 0 ∷ 0 ∷ rows
    ∷ tag ∷ 0 ∷ 0 ∷ 0 ∷ 0 ∷ []

abbrev asked : ℕ → ℕ → TableMode → Result Cell Refusal
asked tag rows m = cell_of (small tag rows) 0 m [] 0

abbrev refused : Cause → Result Cell Refusal
refused why = Err (record { cause = why; place = 0 })

-- a zero column with a row; an unknown storage kind without one
differ : map (asked 0x10 1) (Original ∷ ZeroColumns ∷ []) ≡ (refused RanOut ∷ Ok (Unsigned 0) ∷ [])
    × (map (asked 0x00 0) (Original ∷ ZeroColumns ∷ []) ≡ (Ok Nothing ∷ refused UnknownStorage ∷ []))
unfolding cell_from body_cell table_of layout_in counted_in walk_of columns_from rows_from row_from column_at named column_from cell_at value_at zero_cell search_from spells zero_in
differ = (refl, refl)

-- "numbers and floats are 0, strings and data empty"; "an unknown type in a zero column is 8 once per-row values are read"
zeros : map (λ (tag : ℕ). asked tag 1 ZeroColumns) (0x11 ∷ 0x18 ∷ 0x1A ∷ 0x1B ∷ 0x17 ∷ [])
    ≡ (Ok (Signed (pos 0)) ∷ Ok (float_cell 0) ∷ Ok (Text 0 0) ∷ Ok (Data 0 0) ∷ refused (UnknownType 7) ∷ [])
    × (asked 0x17 0 ZeroColumns ≡ Ok Nothing)
unfolding cell_from body_cell table_of layout_in counted_in walk_of columns_from rows_from row_from column_at named column_from cell_at value_at zero_cell search_from spells zero_in
zeros = (refl, refl)
