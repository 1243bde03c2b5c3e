-- Rules T: "for a name and row, that cell, or nothing where no column has the name or no such row exists".
-- b is the table's body, which starts at byte `by` of the slice that holds the table; l is the table's layout.
use Rattle.std.specs.Prelude.{ℕ, ◌+◌, ◌*◌, ◌-◌, List, cond, drop, ltb, eqb, Option, Some, None, Result, Ok, Err}
use Rattle.refusal.specs.declared.Refusal.{Refusal}
use Rattle.column.specs.declared.Column.{Column}
use Rattle.refusal.specs.declared.Cause.{Cause}
use Rattle.reading.specs.declared.TableMode.{TableMode}
use Rattle.layout.specs.declared.Layout.{Layout}
use Rattle.layout.specs.Layouts.{body_of}
use Rattle.cell.specs.declared.Cell.{Cell}
use Rattle.cell.specs.declared.Cell.TheVariants.{Nothing, Unsigned, Signed, Float, NotANumber, Text, Data}
use Rattle.column.specs.declared.Storage.{Storage}
use Rattle.column.specs.declared.Storage.TheVariants.{Constant, Stored, Zero, Unknown}
use Rattle.column.specs.Storages.{cell_in}
use Rattle.column.specs.Columns.{column_at}
use Rattle.table.specs.Tables.{table_at}
use Rattle.lookup.specs.declared.Mark.{Mark}
use Rattle.lookup.specs.declared.Search.{Search}
use Rattle.lookup.specs.Search.{search_from}

-- where a cell's part ends, 0 where it has none
abbrev pub end_of_part : Cell → ℕ
end_of_part Nothing = 0
end_of_part (Unsigned n) = 0
end_of_part (Signed z) = 0
end_of_part (Float x) = 0
end_of_part (NotANumber n) = 0
end_of_part (Text a n) = a + n
end_of_part (Data a n) = a + n

abbrev pub end_of_answer : Result Cell Cause → ℕ
end_of_answer (Ok c) = end_of_part c
end_of_answer (Err why) = 0

-- a cell of the body as one of the slice. An empty data cell's "start is given as 0"
abbrev pub shifted : ℕ → Cell → Cell
shifted by Nothing = Nothing
shifted by (Unsigned n) = Unsigned n
shifted by (Signed z) = Signed z
shifted by (Float x) = Float x
shifted by (NotANumber n) = NotANumber n
shifted by (Text a n) = Text (by + a) n
shifted by (Data a n) = Data (cond (eqb n 0) 0 (by + a)) n

abbrev pub moved : ℕ → Result Cell Cause → Result Cell Cause
moved by (Ok c) = Ok (shifted by c)
moved by (Err why) = Err why

-- request 5: a zero cell is no part of the body; "empty" starts at 0
abbrev pub shift_in : Storage → ℕ → ℕ
shift_in Constant by = by
shift_in Stored by = by
shift_in Zero by = 0
shift_in Unknown by = by

-- the cell of a column that in this row has its bytes at body byte p
abbrev pub column_cell : List ℕ → ℕ → ℕ → Layout → Result Column Cause → Result Cell Cause
column_cell b by p l (Ok c) = moved (shift_in c.storage by) (cell_in b c.storage c.constant c.kind p l)
column_cell b by p l (Err cause) = Ok Nothing

-- the cell of a mark in the row that starts at body byte p
abbrev pub marked_cell : List ℕ → ℕ → ℕ → Layout → Option Mark → Result Cell Cause
marked_cell b by p l None = Ok Nothing
marked_cell b by p l (Some mark) = column_cell b by (p + mark.offset) l (column_at b mark.entry l)

-- rows stand one after the other
abbrev pub searched_cell : List ℕ → ℕ → Layout → ℕ → Search → Result Cell Cause
searched_cell b by l row found = marked_cell b by (l.start + row * found.width) l found.mark

unfoldable pub body_cell : List ℕ → ℕ → Layout → List ℕ → ℕ → Result Cell Cause
body_cell b by l name row = searched_cell b by l row (search_from b l name l.columns 0 0 None)

abbrev pub placed : ℕ → Result Cell Cause → Result Cell Refusal
placed place (Ok c) = Ok c
placed place (Err why) = Err (record { cause = why; place = place })

-- "nothing where .. no such row exists"
unfoldable pub cell_from : List ℕ → ℕ → List ℕ → ℕ → Layout → Result Cell Refusal
cell_from bytes place name row l =
    cond (ltb row l.rows) (placed place (body_cell (body_of (drop place bytes) l) (place + 32) l name row)) (Ok Nothing)

abbrev pub after_table : (Layout → Result Cell Refusal) → Result Layout Refusal → Result Cell Refusal
after_table k (Ok l) = k l
after_table k (Err refusal) = Err refusal

-- the cell of the last column of a name, in a row of the table at a place of a slice, read in mode m
abbrev pub cell_of : List ℕ → ℕ → TableMode → List ℕ → ℕ → Result Cell Refusal
cell_of bytes place m name row = after_table (cell_from bytes place name row) (table_at bytes place m)

-- the last row; without rows there is no cell in row 0
abbrev pub last_row : Result Layout Refusal → ℕ
last_row (Ok l) = l.rows - 1
last_row (Err refusal) = 0

abbrev pub last_cell_of : List ℕ → ℕ → TableMode → List ℕ → Result Cell Refusal
last_cell_of bytes place m name = cell_of bytes place m name (last_row (table_at bytes place m))
