-- Which sound clips tell two keys apart, and by which bits. Ours: request 7 asks whether two keys can be compared on a clip.
use Rattle.std.specs.Prelude.{ℕ, Bool, not, eqb}
use Rattle.std.specs.Int.Bits.{bit_and}
use Rattle.key.specs.LaneBits.{bits_in}
use Rattle.mask.specs.Positions.{lanes_shown}

-- the bits of a key that a clip of n bytes shows: those of the lanes that it shows
abbrev pub bits_shown : ℕ → ℕ
bits_shown n = bits_in (lanes_shown n)

-- it tells two keys apart: they differ in one of these
unfoldable pub clip_tells : ℕ → ℕ → ℕ → Bool
clip_tells n key key' = not (eqb (bit_and key (bits_shown n)) (bit_and key' (bits_shown n)))
