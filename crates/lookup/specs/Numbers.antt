-- Rules T: "each column: type byte, name offset", "Then all rows, column by column, from the row offset." A column, and its cell in a row, by the column's number.
-- b is the table's body, which starts at byte `by` of the slice that holds the table; l is the table's layout.
use Rattle.std.specs.Prelude.{ℕ, zero, suc, ◌+◌, ◌*◌, List, Bool, true, cond, ◌&&◌, drop, ltb, Result, Ok, Err}
use Rattle.refusal.specs.declared.Refusal.{Refusal}
use Rattle.cell.specs.declared.Cell.{Cell}
use Rattle.refusal.specs.declared.Cause.{Cause}
use Rattle.laws.specs.Lists.{at}
use Rattle.reading.specs.declared.TableMode.{TableMode}
use Rattle.layout.specs.declared.Layout.{Layout}
use Rattle.layout.specs.Layouts.{layout_in, body_of}
use Rattle.cell.specs.declared.Cell.TheVariants.{Nothing}
use Rattle.cell.specs.Cells.{cell_at}
use Rattle.column.specs.Storages.{in_record, in_row}
use Rattle.column.specs.Columns.{column_at}
use Rattle.lookup.specs.declared.numbers.Line.{Line}
use Rattle.lookup.specs.declared.numbers.Line.TheVariants.{Names, Row}
use Rattle.lookup.specs.Lookups.{moved, column_cell, placed}

-- where the record of column k stands in the body, and where its cell stands in a row. For as many as there are columns: a row's length
unfoldable pub record_at : List ℕ → Layout → ℕ → ℕ
record_at b l zero = 0
record_at b l (suc k) = record_at b l k + in_record l.mode (at b (record_at b l k))

unfoldable pub offset_at : List ℕ → Layout → ℕ → ℕ
offset_at b l zero = 0
offset_at b l (suc k) = offset_at b l k + in_row l.mode (at b (record_at b l k))

-- a column's name is read as a string is, by the offset after the type byte: "names and strings lie at string offset + their own offset"
unfoldable pub line_cell : List ℕ → ℕ → Layout → Line → ℕ → Result Cell Cause
line_cell b by l Names k = moved by (cell_at b 0x0A (record_at b l k + 1) l)
line_cell b by l (Row row) k = column_cell b by (l.start + row * offset_at b l l.columns + offset_at b l k) l (column_at b (record_at b l k) l)

-- "nothing where .. no such row exists"
abbrev pub on_line : Layout → Line → Bool
on_line l Names = true
on_line l (Row row) = ltb row l.rows

abbrev pub numbered_in : List ℕ → ℕ → Line → ℕ → Result Layout Cause → Result Cell Refusal
numbered_in bytes place line k (Ok l) =
    cond (ltb k l.columns && on_line l line) (placed place (line_cell (body_of (drop place bytes) l) (place + 32) l line k)) (Ok Nothing)
numbered_in bytes place line k (Err why) = Err (record { cause = why; place = place })

-- the name of column k, or its cell in a row, of the table at a place of a slice, read in mode m
unfoldable pub cell_by : List ℕ → ℕ → TableMode → Line → ℕ → Result Cell Refusal
cell_by bytes place m line k = numbered_in bytes place line k (layout_in (drop place bytes) m)

-- its type byte, 0 where there is no such column
abbrev pub tag_in : List ℕ → ℕ → ℕ → Result Layout Cause → ℕ
tag_in bytes place k (Ok l) = cond (ltb k l.columns) (at (body_of (drop place bytes) l) (record_at (body_of (drop place bytes) l) l k)) 0
tag_in bytes place k (Err why) = 0

unfoldable pub tag_by : List ℕ → ℕ → TableMode → ℕ → ℕ
tag_by bytes place m k = tag_in bytes place k (layout_in (drop place bytes) m)
