-- Rules T: the value of a cell. Request 5: a cell for which nothing is stored.
use Rattle.std.specs.Prelude.{ℕ, ◌+◌, ◌-◌, ◌/◌, ◌%◌, ◌^◌, List, cond, length, leb, eqb, ℤ, pos, negsuc, Result, Ok, Err}
use Rattle.refusal.specs.declared.Cause.{Cause}
use Rattle.std.specs.Float.{binary32}
use Rattle.std.specs.Float.Ieee.{of_bits}
use Rattle.laws.specs.Lists.{at}
use Rattle.word.specs.Numbers.{be16, be32, be64}
use Rattle.refusal.specs.declared.Cause.TheVariants.{RanOut, UnknownType}
use Rattle.layout.specs.declared.Layout.{Layout}
use Rattle.cell.specs.Types.{Kind, u8, i8, u16, i16, u32, i32, u64, f32, text, blob, unknown, kind_of, width_of}
use Rattle.cell.specs.Parts.{text_at, data_at}
use Rattle.cell.specs.declared.Cell.{Cell}
use Rattle.cell.specs.declared.Cell.TheVariants.{Nothing, Unsigned, Signed, Float, NotANumber, Text, Data}

-- bits as a signed number, top being the largest pattern of their width: the upper half is negative
abbrev pub signed_of : ℕ → ℕ → ℤ
signed_of bits top = cond (leb bits (top / 2)) (pos bits) (negsuc (top - bits))

-- the bits of a signed number, top being the largest pattern of their width
abbrev pub bits_of : ℤ → ℕ → ℕ
bits_of (pos n) top = n
bits_of (negsuc k) top = top - k

-- a float by its bits; a NaN keeps them
abbrev pub float_cell : ℕ → Cell
float_cell bits = cond (leb (bits % 2 ^ 31) 0x7F800000) (Float (of_bits binary32 bits)) (NotANumber bits)

-- the value of each type whose bytes stand at body byte p; l is the table's layout
unfoldable pub value_at : Kind → List ℕ → ℕ → Layout → Result Cell Cause
value_at u8 body p l = Ok (Unsigned (at body p))
value_at i8 body p l = Ok (Signed (signed_of (at body p) 0xFF))
value_at u16 body p l = Ok (Unsigned (be16 body p))
value_at i16 body p l = Ok (Signed (signed_of (be16 body p) 0xFFFF))
value_at u32 body p l = Ok (Unsigned (be32 body p))
value_at i32 body p l = Ok (Signed (signed_of (be32 body p) 0xFFFFFFFF))
value_at u64 body p l = Ok (Unsigned (be64 body p))
value_at f32 body p l = Ok (float_cell (be32 body p))
value_at text body p l = text_at body (l.strings + be32 body p)
value_at blob body p l = data_at body (l.blobs + be32 body p) (be32 body (p + 4))
value_at unknown body p l = Ok Nothing

-- "An unknown type is refused when its value would be read"; then bytes that run out
unfoldable pub cell_at : List ℕ → ℕ → ℕ → Layout → Result Cell Cause
cell_at body k p l =
    cond (eqb (width_of k) 0) (Err (UnknownType k))
    (cond (leb (p + width_of k) (length body)) (value_at (kind_of k) body p l) (Err RanOut))

-- "numbers and floats are 0, strings and data empty": an empty part starts at 0
abbrev pub zero_of : Kind → Cell
zero_of u8 = Unsigned 0
zero_of i8 = Signed (pos 0)
zero_of u16 = Unsigned 0
zero_of i16 = Signed (pos 0)
zero_of u32 = Unsigned 0
zero_of i32 = Signed (pos 0)
zero_of u64 = Unsigned 0
zero_of f32 = float_cell 0
zero_of text = Text 0 0
zero_of blob = Data 0 0
zero_of unknown = Nothing

-- "an unknown type in a zero column is 8"
unfoldable pub zero_cell : ℕ → Result Cell Cause
zero_cell k = cond (eqb (width_of k) 0) (Err (UnknownType k)) (Ok (zero_of (kind_of k)))
