-- The types of values in the code, by their numbers, beside the kinds of Types.antt.
use Rattle.std.specs.Prelude.{ℕ, List, [], ◌∷◌, get_or, Option, Some, None, Result, Ok, Err}
use Rattle.refusal.specs.declared.Cause.{Cause}
use Rattle.refusal.specs.declared.Cause.TheVariants.{UnknownType}
use Rattle.cell.specs.Types.{Kind, u8, i8, u16, i16, u32, i32, u64, f32, text, blob}
use Rattle.cell.specs.declared.ValueType.{ValueType}
use Rattle.cell.specs.declared.ValueType.TheVariants.{U8, I8, U16, I16, U32, I32, U64, F32, Text, Blob}

-- the types in the order of their numbers
abbrev pub types : List (Option ValueType)
types =
    Some U8 ∷ Some I8 ∷ Some U16 ∷ Some I16 ∷ Some U32 ∷ Some I32 ∷ Some U64 ∷ None ∷ Some F32 ∷ None ∷ Some Text ∷ Some Blob ∷ []

-- a number without a type is refused as an unknown one
abbrev pub known : ℕ → Option ValueType → Result ValueType Cause
known kind (Some value) = Ok value
known kind None = Err (UnknownType kind)

-- the type of a number
abbrev pub type_by : ℕ → Result ValueType Cause
type_by kind = known kind (get_or types kind None)

-- what a type says of its value
abbrev pub kind_by : ValueType → Kind
kind_by U8 = u8
kind_by I8 = i8
kind_by U16 = u16
kind_by I16 = i16
kind_by U32 = u32
kind_by I32 = i32
kind_by U64 = u64
kind_by F32 = f32
kind_by Text = text
kind_by Blob = blob
