-- Rules T: "Widths by low nibble, one table of 16 entries".
use Rattle.std.specs.Prelude.{ℕ, List, [], ◌∷◌, get_or}

-- what a type says of its value
pub data Kind : Type 0 where
  u8 i8 u16 i16 u32 i32 u64 f32 text blob unknown : Kind

-- "1, 3 and 5 are signed"; "8: 4 (IEEE 754 float); A: 4 (string offset); B: 8 (data offset, size); others unknown"
abbrev pub kinds : List Kind
kinds =
    u8 ∷ i8 ∷ u16 ∷ i16 ∷ u32 ∷ i32 ∷ u64 ∷ unknown ∷ f32 ∷ unknown ∷ text ∷ blob ∷ unknown ∷ unknown ∷ unknown ∷ unknown ∷ []

abbrev pub kind_of : ℕ → Kind
kind_of nibble = get_or kinds nibble unknown

-- "0,1: 1 byte; 2,3: 2; 4,5: 4; 6: 8"; 0 marks an unknown type
abbrev pub width : Kind → ℕ
width u8 = 1
width i8 = 1
width u16 = 2
width i16 = 2
width u32 = 4
width i32 = 4
width u64 = 8
width f32 = 4
width text = 4
width blob = 8
width unknown = 0

abbrev pub width_of : ℕ → ℕ
width_of nibble = width (kind_of nibble)
