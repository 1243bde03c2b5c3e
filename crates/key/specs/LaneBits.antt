-- The bits of a key that T's even lanes show: those are the lanes by which the sound's mask shows T. Ours, beyond the rules.
use Rattle.std.specs.Prelude.{◌≡◌, ℕ, ◌+◌, ◌*◌, ◌^◌, cond, bit_and, nat_lt}

-- all bits of a byte of the key, and those of its low half
abbrev pub byte : ℕ → ℕ
byte i = 0xFF * 256 ^ i

abbrev pub low_half : ℕ → ℕ
low_half i = 0xF * 256 ^ i

-- some bits, if a lane is below a bound
abbrev pub showing : ℕ → ℕ → ℕ → ℕ
showing bound lane bits = cond (nat_lt lane bound) bits 0

-- What the even lanes below a bound show: lane 0 byte 0, lane 2 byte 2, lane 4 the low half of byte 4, lane 6 byte 6, lane 8 byte 1, lane 0xE byte 3,
-- lane 0x18 byte 5. The other even lanes show nothing more, and none shows byte 7.
unfoldable pub bits_in : ℕ → ℕ
bits_in bound =
    showing bound 0 (byte 0)
    + showing bound 2 (byte 2)
    + showing bound 4 (low_half 4)
    + showing bound 6 (byte 6)
    + showing bound 8 (byte 1)
    + showing bound 0xE (byte 3)
    + showing bound 0x18 (byte 5)

-- two keys agree in some bits
abbrev pub AgreeIn : ℕ → ℕ → ℕ → Type 0
AgreeIn bits key key' = bit_and key bits ≡ bit_and key' bits
