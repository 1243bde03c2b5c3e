-- A key as it is typed: "1 to 16 hex digits, `0x` allowed, either case"; a length: 1 to 16 digits, which are hex after `0x` and
-- decimal without it; and a tenant's number, which may have 20 decimal digits. Assumes nothing.
use Rattle.std.specs.Prelude.{ℕ, ◌+◌, ◌-◌, ◌*◌, ◌^◌, Bool, cond, ◌&&◌, ◌||◌, List, [], ◌∷◌, leb, ltb, eqb, length, get_or, drop, Option, Some, None}

-- a byte or a count from low to high, both ends in
unfoldable pub between : ℕ → ℕ → ℕ → Bool
between low high n = leb low n && leb n high

-- the value of a hex digit: `0` to `9`, `A` to `F`, `a` to `f`; of any other byte, 16
unfoldable pub hex_value : ℕ → ℕ
hex_value byte =
    cond (between 0x30 0x39 byte) (byte - 0x30)
    (cond (between 0x41 0x46 byte) (byte - 0x41 + 10)
    (cond (between 0x61 0x66 byte) (byte - 0x61 + 10) 16))

-- the word begins with `0x` or `0X`
unfoldable pub prefixed : List ℕ → Bool
prefixed word = eqb (get_or word 0 0) 0x30 && (eqb (get_or word 1 0) 0x78 || eqb (get_or word 1 0) 0x58)

-- the number that digits of a base write after a value; none where one of them is no digit, or where it has more than 64 bits
unfoldable pub value_from : ℕ → ℕ → List ℕ → Option ℕ
value_from base value [] = Some value
value_from base value (byte ∷ bytes) =
    cond (ltb (hex_value byte) base && ltb (value * base + hex_value byte) (2 ^ 64)) (value_from base (value * base + hex_value byte) bytes) None

-- one digit, and so many at most
unfoldable pub digits_read : ℕ → ℕ → List ℕ → Option ℕ
digits_read base most digits = cond (between 1 most (length digits)) (value_from base 0 digits) None

-- 1 to 16 hex digits after `0x` or `0X`; where neither stands in front, the whole word in digits of a base
unfoldable pub number_typed : ℕ → ℕ → List ℕ → Option ℕ
number_typed base most word = cond (prefixed word) (digits_read 16 16 (drop 2 word)) (digits_read base most word)

abbrev pub key_typed : List ℕ → Option ℕ
key_typed = number_typed 16 16

abbrev pub length_typed : List ℕ → Option ℕ
length_typed = number_typed 10 16

-- ours: a tenant's number is one of 64 bits, and those have up to 20 decimal digits
abbrev pub tenant_typed : List ℕ → Option ℕ
tenant_typed = number_typed 10 20
