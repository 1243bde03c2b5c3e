-- Tables for C: what is replied on a column, and what is replied where a table is written as CSV, with the output after it. Ours, beyond the rules.
use Rattle.std.specs.Prelude.{ℕ, List, length}
use Rattle.reading.specs.declared.TableMode.{TableMode}
use Rattle.table.specs.Tables.{table_at}
use Rattle.lent.specs.declared.SizeReply.{SizeReply}
use Rattle.lent.specs.Written.{written_in}
use Rattle.csv_text.specs.Written.{csv_of}
use Rattle.table_csv.specs.Writing.{texts_at, to_write}
use Rattle.lookup.specs.declared.numbers.Line.TheVariants.{Names}
use Rattle.lookup.specs.Numbers.{cell_by, tag_by}
use Rattle.replies.specs.declared.ColumnReply.{ColumnReply}
use Rattle.replies.specs.TableReplies.{column_reply}
use Rattle.usm.specs.Writes.{WrittenAs}

-- the column of a number
abbrev pub column_for : List ℕ → ℕ → TableMode → ℕ → ColumnReply
column_for bytes place m column = column_reply m (tag_by bytes place m column) (cell_by bytes place m Names column)

abbrev pub CsvFor : List ℕ → ℕ → TableMode → List ℕ → SizeReply → List ℕ → Type 0
CsvFor bytes place m out r out' =
    WrittenAs (written_in (length out) (to_write (length (csv_of (texts_at bytes place m))) (table_at bytes place m))) (csv_of (texts_at bytes place m)) out r out'
