-- Rules T: "nothing, a number, a signed number, a float, a string part or a data part", as numbers.
-- "Where an answer is an enum, a definition tells you this paper's number and values for each of its cases."
use Rattle.std.specs.Prelude.{ℕ}
use Rattle.std.specs.Float.{binary32}
use Rattle.std.specs.Float.Ieee.{to_bits}
use Rattle.cell.specs.declared.Cell.{Cell}
use Rattle.cell.specs.declared.Cell.TheVariants.{Nothing, Unsigned, Signed, Float, NotANumber, Text, Data}
use Rattle.cell.specs.Cells.{bits_of}

-- the six cases, in the document's order
abbrev pub case_of : Cell → ℕ
case_of Nothing = 0
case_of (Unsigned n) = 1
case_of (Signed z) = 2
case_of (Float x) = 3
case_of (NotANumber bits) = 3
case_of (Text start len) = 4
case_of (Data start len) = 5

-- a number, a signed number's 64 bits, a float's 32 bits, or a part's start
abbrev pub value_of : Cell → ℕ
value_of Nothing = 0
value_of (Unsigned n) = n
value_of (Signed z) = bits_of z 0xFFFFFFFFFFFFFFFF
value_of (Float x) = to_bits binary32 x
value_of (NotANumber bits) = bits
value_of (Text start len) = start
value_of (Data start len) = start

-- a part's length
abbrev pub length_of : Cell → ℕ
length_of Nothing = 0
length_of (Unsigned n) = 0
length_of (Signed z) = 0
length_of (Float x) = 0
length_of (NotANumber bits) = 0
length_of (Text start len) = len
length_of (Data start len) = len
