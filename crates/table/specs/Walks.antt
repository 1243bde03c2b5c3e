-- Rules T, the order: "each column", "Then all rows, column by column, from the row offset."
-- b is the table's body, l its layout.
use Rattle.std.specs.Prelude.{ℕ, zero, suc, ◌+◌, ◌%◌, List, Result, Ok, Err}
use Rattle.column.specs.declared.Column.{Column}
use Rattle.cell.specs.declared.Cell.{Cell}
use Rattle.refusal.specs.declared.Cause.{Cause}
use Rattle.laws.specs.Lists.{at}
use Rattle.layout.specs.declared.Layout.{Layout}
use Rattle.cell.specs.declared.Cell.TheVariants.{Nothing}
use Rattle.column.specs.Storages.{storage_of, in_record, in_row, cell_in}
use Rattle.column.specs.Columns.{column_at}

-- what comes after a column: k, from where its record ends
abbrev pub after_column : (ℕ → Result ℕ Cause) → Result Column Cause → Result ℕ Cause
after_column k (Ok c) = k c.next
after_column k (Err cause) = Err cause

-- n columns from body byte p: where their records end, or the first refusal
unfoldable pub columns_from : List ℕ → Layout → ℕ → ℕ → Result ℕ Cause
columns_from b l zero p = Ok p
columns_from b l (suc n) p = after_column (columns_from b l n) (column_at b p l)

-- what comes after a cell that is read
abbrev pub after_cell : Result ℕ Cause → Result Cell Cause → Result ℕ Cause
after_cell w (Ok c) = w
after_cell w (Err cause) = Err cause

-- the cells of one row from body byte q: n columns, whose records stand from body byte p on. What a constant is was read with its column
unfoldable pub row_from : List ℕ → Layout → ℕ → ℕ → ℕ → Result ℕ Cause
row_from b l zero p q = Ok q
row_from b l (suc n) p q =
    after_cell (row_from b l n (p + in_record l.mode (at b p)) (q + in_row l.mode (at b p))) (cell_in b (storage_of l.mode (at b p)) Nothing (at b p % 16) q l)

abbrev pub after_walk : (ℕ → Result ℕ Cause) → Result ℕ Cause → Result ℕ Cause
after_walk k (Ok q) = k q
after_walk k (Err cause) = Err cause

-- n rows from body byte q on
unfoldable pub rows_from : List ℕ → Layout → ℕ → ℕ → Result ℕ Cause
rows_from b l zero q = Ok q
rows_from b l (suc n) q = after_walk (rows_from b l n) (row_from b l l.columns 0 q)

-- all columns, then all rows
unfoldable pub walk_of : List ℕ → Layout → Result ℕ Cause
walk_of b l = after_walk (λ p. rows_from b l l.rows l.start) (columns_from b l l.columns 0)
