-- What codecs promise beyond their definition. Each is proved under the same name in proofs/Promises.antt.
use Rattle.std.specs.Prelude.{ℕ, ◌^◌, ◌≤◌, ◌<◌, ◌≡◌, Option, Some}
use Rattle.cell.specs.declared.Cell.TheVariants.{Signed}
use Rattle.cell.specs.Cells.{signed_of}
use Rattle.codec.specs.Codecs.{codec_of}

-- The codec of a signed number of 32 bits is those bits: at -1, at the minimum, and everywhere.
abbrev pub SignedBitsKept : Type 0
SignedBitsKept = (bits : ℕ) → bits < 2 ^ 32 → codec_of (Signed (signed_of bits 0xFFFFFFFF)) ≡ Some bits

-- "signed values are sign-extended to 32 bits": read as a signed number of 32 bits, the codec of a signed number of 8, 16 or 32 bits is that number. `top` is the largest pattern
-- of the width: 0xFF, 0xFFFF or 0xFFFFFFFF
abbrev pub SignExtended : Type 0
SignExtended = (bits top codec : ℕ) → bits ≤ top → top ≤ 0xFFFFFFFF → codec_of (Signed (signed_of bits top)) ≡ Some codec → signed_of codec 0xFFFFFFFF ≡ signed_of bits top

-- a signed number by its bits and the largest pattern of its width
abbrev pub signed_codec : ℕ → ℕ → Option ℕ
signed_codec bits top = codec_of (Signed (signed_of bits top))

-- "exact meaning at -1 and the minimum": of 8, 16 and 32 bits.
abbrev pub SignedAtItsEnds : Type 0
SignedAtItsEnds =
    ((signed_codec 0xFF 0xFF ≡ Some 0xFFFFFFFF) × (signed_codec 0xFFFF 0xFFFF ≡ Some 0xFFFFFFFF) × (signed_codec 0xFFFFFFFF 0xFFFFFFFF ≡ Some 0xFFFFFFFF))
    × ((signed_codec 0x80 0xFF ≡ Some 0xFFFFFF80) × (signed_codec 0x8000 0xFFFF ≡ Some 0xFFFF8000) × (signed_codec 0x80000000 0xFFFFFFFF ≡ Some 0x80000000))
