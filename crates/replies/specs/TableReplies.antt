-- The replies on a table, on a cell and on a column, field by field. Ours, beyond the rules: it has the numbers and what is also returned, and names no struct.
use Rattle.std.specs.Prelude.{ℕ, cond, eqb, Result, Ok, Err}
use Rattle.layout.specs.declared.Layout.{Layout}
use Rattle.refusal.specs.declared.Refusal.{Refusal}
use Rattle.reading.specs.declared.TableMode.{TableMode}
use Rattle.column.specs.declared.Storage.{Storage}
use Rattle.column.specs.declared.Storage.TheVariants.{Constant, Stored, Zero, Unknown}
use Rattle.column.specs.Storages.{storage_of}
use Rattle.cell.specs.declared.Cell.{Cell}
use Rattle.refusal.specs.Numbers.{number_of, beside_of}
use Rattle.cell.specs.CellNumbers.{case_of, value_of, length_of}
use Rattle.replies.specs.declared.TableReply.{TableReply}
use Rattle.replies.specs.declared.CellReply.{CellReply}
use Rattle.replies.specs.declared.ColumnReply.{ColumnReply}

-- "a table gives its column and row counts"; refused, its number and place, and "the type" beside 8
abbrev pub table_reply : Result Layout Refusal → TableReply
table_reply (Ok layout) = record { refused_at = 0; columns = layout.columns; rows = layout.rows; number = 0; unknown_type = 0 }
table_reply (Err refusal) = record { refused_at = refusal.place; columns = 0; rows = 0; number = number_of refusal.cause; unknown_type = (beside_of refusal.cause).unknown_type }

-- "and, for a name and row, that cell, or nothing"
abbrev pub cell_reply : Result Cell Refusal → CellReply
cell_reply (Ok cell) = record { refused_at = 0; value = value_of cell; length = length_of cell; number = 0; unknown_type = 0; kind = case_of cell }
cell_reply (Err refusal) = record { refused_at = refusal.place; value = 0; length = 0; number = number_of refusal.cause; unknown_type = (beside_of refusal.cause).unknown_type; kind = 0 }

-- a column: where it has its values, as a number
abbrev pub storage_number : Storage → ℕ
storage_number Constant = 1
storage_number Stored = 2
storage_number Zero = 3
storage_number Unknown = 4

abbrev pub held_column : TableMode → ℕ → Cell → ColumnReply
held_column m tag name = record {
  refused_at = 0;
  name_start = value_of name;
  name_length = length_of name;
  number = 0;
  unknown_type = 0;
  storage = storage_number (storage_of m tag);
  type_byte = tag;
}

abbrev pub no_column : ColumnReply
no_column = record { refused_at = 0; name_start = 0; name_length = 0; number = 0; unknown_type = 0; storage = 0; type_byte = 0 }

-- by its name and its type byte; all 0 where there is no such column
abbrev pub column_reply : TableMode → ℕ → Result Cell Refusal → ColumnReply
column_reply m tag (Ok name) = cond (eqb (case_of name) 0) no_column (held_column m tag name)
column_reply m tag (Err refusal) = record {
  refused_at = refusal.place;
  name_start = 0;
  name_length = 0;
  number = number_of refusal.cause;
  unknown_type = (beside_of refusal.cause).unknown_type;
  storage = 0;
  type_byte = 0;
}
