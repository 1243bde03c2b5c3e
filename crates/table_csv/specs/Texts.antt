-- Rules V: the texts of a table, name by name and cell by cell. b is the table's body, l its layout.
use Rattle.std.specs.Prelude.{ℕ, zero, suc, ◌+◌, ◌%◌, List, [], ◌∷◌, cond, eqb, ℤ, pos, negsuc, Result, Ok, Err}
use Rattle.refusal.specs.declared.Cause.{Cause}
use Rattle.std.specs.Float.{binary32}
use Rattle.std.specs.Float.Ieee.{to_bits}
use Rattle.laws.specs.Lists.{at}
use Rattle.part.specs.Parts.{part_at}
use Rattle.text.specs.Numbers.{decimal, hex, hex_bytes}
use Rattle.layout.specs.declared.Layout.{Layout}
use Rattle.cell.specs.declared.Cell.{Cell}
use Rattle.cell.specs.declared.Cell.TheVariants.{Nothing, Unsigned, Signed, Float, NotANumber, Text, Data}
use Rattle.cell.specs.Cells.{cell_at}
use Rattle.column.specs.Storages.{storage_of, in_record, in_row, constant_at, cell_in}
use Rattle.table_csv.specs.declared.Line.{Line}
use Rattle.table_csv.specs.declared.Line.TheVariants.{Names, Cells}

-- "Numbers in decimal with sign": a minus sign, and no plus
unfoldable pub signed_text : ℤ → List ℕ
signed_text (pos n) = decimal n
signed_text (negsuc k) = 0x2D ∷ decimal (k + 1)

-- "data as lower-case hex, floats as eight hex digits of their bits, strings as their bytes"
unfoldable pub text_of : List ℕ → Cell → List ℕ
text_of b Nothing = []
text_of b (Unsigned n) = decimal n
text_of b (Signed z) = signed_text z
text_of b (Float x) = hex 8 (to_bits binary32 x)
text_of b (NotANumber bits) = hex 8 bits
text_of b (Text start len) = part_at b start len
text_of b (Data start len) = hex_bytes (part_at b start len)

-- the text of a cell that is read. A table that is accepted has no other, as `EveryCellIsRead` says
abbrev pub text_in : List ℕ → Result Cell Cause → List ℕ
text_in b (Ok c) = text_of b c
text_in b (Err why) = []

abbrev pub with_constant : (Cell → Result Cell Cause) → Result Cell Cause → Result Cell Cause
with_constant k (Ok c) = k c
with_constant k (Err why) = Err why

-- the cell of the column whose record stands at body byte p, in a row where it has its bytes at body byte q
unfoldable pub row_cell : List ℕ → Layout → ℕ → ℕ → Result Cell Cause
row_cell b l p q =
    with_constant (λ c. cell_in b (storage_of l.mode (at b p)) c (at b p % 16) q l) (constant_at b (storage_of l.mode (at b p)) (at b p % 16) (p + 5) l)

-- what a column shows on a line. Its name is read as a string is, by the offset after the type byte: "names and strings lie at string offset + their own offset"
abbrev pub cell_on : List ℕ → Layout → Line → ℕ → ℕ → Result Cell Cause
cell_on b l Names p q = cell_at b 0x0A (p + 1) l
cell_on b l Cells p q = row_cell b l p q

-- the texts on a line of n columns, whose records stand from body byte p on, and their cells from body byte q on. "Repeated names are all shown."
unfoldable pub line_from : List ℕ → Layout → Line → ℕ → ℕ → ℕ → List (List ℕ)
line_from b l line zero p q = []
line_from b l line (suc n) p q = text_in b (cell_on b l line p q) ∷ line_from b l line n (p + in_record l.mode (at b p)) (q + in_row l.mode (at b p))

-- where such a row ends
unfoldable pub row_end : List ℕ → Layout → ℕ → ℕ → ℕ → ℕ
row_end b l zero p q = q
row_end b l (suc n) p q = row_end b l n (p + in_record l.mode (at b p)) (q + in_row l.mode (at b p))

-- n rows from body byte q on, one after the other
unfoldable pub row_texts : List ℕ → Layout → ℕ → ℕ → List (List (List ℕ))
row_texts b l zero q = []
row_texts b l (suc n) q = line_from b l Cells l.columns 0 q ∷ row_texts b l n (row_end b l l.columns 0 q)

abbrev pub name_texts : List ℕ → Layout → List (List ℕ)
name_texts b l = line_from b l Names l.columns 0 0

-- "names first"; "A table without columns writes nothing"
unfoldable pub texts_of : List ℕ → Layout → List (List (List ℕ))
texts_of b l = cond (eqb l.columns 0) [] (name_texts b l ∷ row_texts b l l.rows l.start)
