-- Which causes a look-up can be refused for: those of its table. Assumes nothing.
use Rattle.std.specs.Prelude.{Option, Some, None, Result, Ok, Err}
use Rattle.refusal.specs.declared.Refusal.{Refusal}
use Rattle.column.specs.declared.Column.{Column}
use Rattle.cell.specs.declared.Cell.{Cell}
use Rattle.refusal.specs.declared.Cause.{Cause}
use Prim.Native.Nat.{ℕ, ◌+◌, ◌*◌}
use mathlib.Core.List.{List}
use lib.ListN.{drop}
use lib.Dec.{ltb}
use Rattle.reading.specs.declared.TableMode.{TableMode}
use Rattle.layout.specs.declared.Layout.{Layout}
use Rattle.layout.specs.Layouts.{body_of}
use Rattle.column.specs.Storages.{cell_in}
use Rattle.column.specs.Columns.{column_at}
use Rattle.table.specs.Tables.{table_at}
use Rattle.table.proofs.RefusalLaws.{Fair, FairCell, FairTable, either, cell_in_fair, table_fair}
use Rattle.lookup.specs.declared.Mark.{Mark}
use Rattle.lookup.specs.Search.{search_from}
use Rattle.lookup.specs.Lookups.{moved, column_cell, marked_cell, body_cell, placed, cell_from, after_table, cell_of}

abbrev pub FairLookup : Result Cell Refusal → Type 0
FairLookup (Ok cell) = Unit
FairLookup (Err refusal) = Fair refusal.cause

moved_fair : (by : ℕ) (x : Result Cell Cause) → FairCell x → FairCell (moved by x)
moved_fair by (Ok cell) h = tt
moved_fair by (Err why) h = h

column_cell_fair : (b : List ℕ) (by p : ℕ) (l : Layout) (x : Result Column Cause) → FairCell (column_cell b by p l x)
column_cell_fair b by p l (Ok c) = moved_fair _ (cell_in b c.storage c.constant c.kind p l) (cell_in_fair b c.storage c.constant c.kind p l)
column_cell_fair b by p l (Err why) = tt

marked_fair : (b : List ℕ) (by p : ℕ) (l : Layout) (mark : Option Mark) → FairCell (marked_cell b by p l mark)
marked_fair b by p l None = tt
marked_fair b by p l (Some mark) = column_cell_fair b by (p + mark.offset) l (column_at b mark.entry l)

body_fair : (b : List ℕ) (by : ℕ) (l : Layout) (name : List ℕ) (row : ℕ) → FairCell (body_cell b by l name row)
unfolding body_cell
body_fair b by l name row = let found = search_from b l name l.columns 0 0 None in marked_fair b by (l.start + row * found.width) l found.mark

placed_fair : (place : ℕ) (x : Result Cell Cause) → FairCell x → FairLookup (placed place x)
placed_fair place (Ok cell) h = tt
placed_fair place (Err why) h = h

from_cell : (bytes : List ℕ) (place : ℕ) (name : List ℕ) (row : ℕ) (l : Layout) → FairLookup (cell_from bytes place name row l)
unfolding cell_from
from_cell bytes place name row l =
    either FairLookup (ltb row l.rows) _ _ (placed_fair place (body_cell (body_of (drop place bytes) l) (place + 32) l name row) (body_fair (body_of (drop place bytes) l) (place + 32) l name row)) tt

after_table_lem : (place : ℕ) (k : Layout → Result Cell Refusal) → ((l : Layout) → FairLookup (k l)) → (x : Result Layout Refusal) → FairTable place x → FairLookup (after_table k x)
after_table_lem place k rest (Ok l) h = rest l
after_table_lem place k rest (Err refusal) h = h.0

pub lookup_fair : (bytes : List ℕ) (place : ℕ) (m : TableMode) (name : List ℕ) (row : ℕ) → FairLookup (cell_of bytes place m name row)
lookup_fair bytes place m name row = after_table_lem place (cell_from bytes place name row) (from_cell bytes place name row) (table_at bytes place m) (table_fair bytes place m)
