-- The bytes of a string or data cell, as a part of the slice that holds the table.
use Rattle.std.specs.Prelude.{ℕ, List}
use Rattle.std.specs.Borrow.{Bor}
use Rattle.part.specs.Parts.{PartAt}
use Rattle.cell.specs.declared.Cell.{Cell}
use Rattle.cell.specs.declared.Cell.TheVariants.{Nothing, Unsigned, Signed, Float, NotANumber, Text, Data}
use Rattle.cell.specs.CellNumbers.{length_of}

-- where the part starts; any other cell has the empty part at byte 0
abbrev pub start_of : Cell → ℕ
start_of Nothing = 0
start_of (Unsigned n) = 0
start_of (Signed z) = 0
start_of (Float x) = 0
start_of (NotANumber bits) = 0
start_of (Text start len) = start
start_of (Data start len) = start

-- r is that part
abbrev pub PartOf : Bor (List ℕ) → Cell → Bor (List ℕ) → Type 0
PartOf s cell r = PartAt s (start_of cell) (length_of cell) r
