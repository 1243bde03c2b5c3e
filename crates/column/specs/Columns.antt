-- Rules T: a column. b is the table's body, l its layout.
use Rattle.std.specs.Prelude.{ℕ, ◌+◌, ◌%◌, List, cond, length, leb, Option, Some, None, Result, Ok, Err}
use Rattle.column.specs.declared.Column.{Column}
use Rattle.cell.specs.declared.Cell.{Cell}
use Rattle.refusal.specs.declared.Cause.{Cause}
use Rattle.laws.specs.Lists.{at}
use Rattle.word.specs.Numbers.{be32}
use Rattle.refusal.specs.declared.Cause.TheVariants.{RanOut}
use Rattle.layout.specs.declared.Layout.{Layout}
use Rattle.cell.specs.Parts.{end_of}
use Rattle.column.specs.declared.Storage.{Storage}
use Rattle.column.specs.Storages.{storage_of, in_record, constant_at}

-- "A column record holds its constant as a cell"
abbrev pub column_of : ℕ → Storage → ℕ → ℕ → Result Cell Cause → Result Column Cause
column_of name storage kind next (Ok c) = Ok (record { name = name; storage = storage; kind = kind; constant = c; next = next })
column_of name storage kind next (Err cause) = Err cause

-- the column of a name, type byte x, whose record stands at body byte p
abbrev pub column_by : List ℕ → ℕ → ℕ → ℕ → Layout → Result Column Cause
column_by b p x name l =
    column_of name (storage_of l.mode x) (x % 16) (p + in_record l.mode x) (constant_at b (storage_of l.mode x) (x % 16) (p + 5) l)

unfoldable pub column_from : List ℕ → ℕ → ℕ → Layout → Result Column Cause
column_from b p name l = column_by b p (at b p) name l

unfoldable pub named : List ℕ → ℕ → ℕ → Layout → Option ℕ → Result Column Cause
named b p name l (Some z) = column_from b p name l
named b p name l None = Err RanOut

-- "each column: type byte, name offset, name up to a zero byte"; "names and strings lie at string offset + their own offset"
unfoldable pub column_at : List ℕ → ℕ → Layout → Result Column Cause
column_at b p l =
    cond (leb (p + 5) (length b)) (named b p (l.strings + be32 b (p + 1)) l (end_of b (l.strings + be32 b (p + 1)))) (Err RanOut)
