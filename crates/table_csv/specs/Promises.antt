-- What a table written as CSV promises. Each is proved under the same name in proofs/Promises.antt.
use Rattle.std.specs.Prelude.{ℕ, zero, suc, ◌+◌, ◌≡◌, List, length, take, drop, Result, Ok, Err}
use Rattle.cell.specs.declared.Cell.{Cell}
use Rattle.refusal.specs.declared.Cause.{Cause}
use Rattle.laws.specs.Lists.{at}
use Rattle.reading.specs.declared.TableMode.{TableMode}
use Rattle.layout.specs.declared.Layout.{Layout}
use Rattle.layout.specs.Layouts.{body_of}
use Rattle.column.specs.Storages.{in_record, in_row}
use Rattle.table.specs.Tables.{table_at}
use Rattle.csv_text.specs.Reading.{records_in}
use Rattle.refusal.specs.declared.Refusal.{Refusal}
use Rattle.table_csv.specs.declared.Line.{Line}
use Rattle.table_csv.specs.declared.Line.TheVariants.{Names, Cells}
use Rattle.table_csv.specs.Texts.{cell_on, row_end}
use Rattle.table_csv.specs.Writing.{texts_at, Writing}

-- Reading the written bytes back by the RFC's rules gives exactly the table's texts, name by name and cell by cell.
abbrev pub ReadingBack : Type 0
ReadingBack =
    (bytes : List ℕ) (place : ℕ) (m : TableMode) (out out' : List ℕ) (size : ℕ) → Writing bytes place m out (Ok size) out'
    → records_in (take size out') ≡ texts_at bytes place m

-- "outputs untouched": a refusal leaves the output as it was
abbrev pub RefusalsLeaveTheOutput : Type 0
RefusalsLeaveTheOutput =
    (bytes : List ℕ) (place : ℕ) (m : TableMode) (out out' : List ℕ) (refusal : Refusal) → Writing bytes place m out (Err refusal) out' → out' ≡ out

-- bytes past the CSV stay: the output is as long as before, and from the size on it is the same
abbrev pub BytesPastTheCsvStay : Type 0
BytesPastTheCsvStay =
    (bytes : List ℕ) (place : ℕ) (m : TableMode) (out out' : List ℕ) (size : ℕ) → Writing bytes place m out (Ok size) out'
    → (length out' ≡ length out) × (drop size out' ≡ drop size out)

-- ---- no empty text stands for a cell that cannot be read

abbrev pub IsRead : Result Cell Cause → Type 0
IsRead (Ok c) = Unit
IsRead (Err why) = ⊥

-- what a line of n columns shows, as `lineFrom` goes through it
unfoldable pub LineIsRead : List ℕ → Layout → Line → ℕ → ℕ → ℕ → Type 0
LineIsRead b l line zero p q = Unit
LineIsRead b l line (suc n) p q = IsRead (cell_on b l line p q) × LineIsRead b l line n (p + in_record l.mode (at b p)) (q + in_row l.mode (at b p))

-- and what n rows show, as `rowTexts` does
unfoldable pub RowsAreRead : List ℕ → Layout → ℕ → ℕ → Type 0
RowsAreRead b l zero q = Unit
RowsAreRead b l (suc n) q = LineIsRead b l Cells l.columns 0 q × RowsAreRead b l n (row_end b l l.columns 0 q)

-- Of a table that is accepted, every name and every cell that the CSV shows is read.
abbrev pub EveryCellIsRead : Type 0
EveryCellIsRead =
    (bytes : List ℕ) (place : ℕ) (m : TableMode) (l : Layout) → table_at bytes place m ≡ Ok l
    → LineIsRead (body_of (drop place bytes) l) l Names l.columns 0 0 × RowsAreRead (body_of (drop place bytes) l) l l.rows l.start
