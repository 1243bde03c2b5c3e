-- Rules T: a codec.
use Rattle.std.specs.Prelude.{◌%◌, ◌^◌, ℕ, Option, Some, None}
use Rattle.cell.specs.declared.Cell.{Cell}
use Rattle.cell.specs.declared.Cell.TheVariants.{Nothing, Unsigned, Signed, Float, NotANumber, Text, Data}
use Rattle.cell.specs.Cells.{bits_of}

-- "A codec is that cell in the first row: signed values are sign-extended to 32 bits, 64-bit values keep the low 32, a float, string or data cell means absent, as does a table without rows." Where no cell is, there is `Nothing`
abbrev pub codec_of : Cell → Option ℕ
codec_of Nothing = None
codec_of (Unsigned n) = Some (n % 2 ^ 32)
codec_of (Signed z) = Some (bits_of z 0xFFFFFFFF)
codec_of (Float x) = None
codec_of (NotANumber bits) = None
codec_of (Text start len) = None
codec_of (Data start len) = None
