-- What the key table promises beyond its rules. Each is proved under the same name in proofs/Promises.antt.
use Rattle.std.specs.Prelude.{◌≡◌, ℕ, ◌≤◌, ◌↔◌, bit_and}
use Rattle.key.specs.KeyTable.{table_t}
use Rattle.key.specs.CountingBits.{AgreeWhereItCounts, DifferOnlyInBits40To47, SameEvenLanes, counting_bits}
use Rattle.key.specs.LaneBits.{bits_in, AgreeIn}

-- Two keys have one T exactly when they agree in bits 0 to 35 and 40 to 55.
abbrev pub OneTableExactlyWhenBitsAgree : Type 0
OneTableExactlyWhenBitsAgree = (key key' : ℕ) → (table_t key ≡ table_t key') ↔ AgreeWhereItCounts key key'

-- Two keys have one T exactly when their counting bits are one number.
abbrev pub OneTableExactlyWhenOneNumber : Type 0
OneTableExactlyWhenOneNumber = (key key' : ℕ) → (table_t key ≡ table_t key') ↔ (counting_bits key ≡ counting_bits key')

-- Two keys have the same T in the even lanes below a bound exactly when they agree in the bits that these lanes show.
abbrev pub EvenLanesTellTheirBits : Type 0
EvenLanesTellTheirBits = (key key' bound : ℕ) → SameEvenLanes bound key key' ↔ AgreeIn (bits_in bound) key key'

-- As far as lane 0x18 these are all the bits that count.
abbrev pub LanesAsFarAs0x18ShowAllThatCounts : Type 0
LanesAsFarAs0x18ShowAllThatCounts = (key bound : ℕ) → 0x19 ≤ bound → bit_and key (bits_in bound) ≡ counting_bits key

-- A key agrees with what is left of it when all bits but some are cleared.
abbrev pub OtherBitsCanBeCleared : Type 0
OtherBitsCanBeCleared = (bits key : ℕ) → AgreeIn bits key (bit_and key bits)

-- The even lanes of T, as far as 0x18, tell every bit that counts.
abbrev pub EvenLanesTellTheBits : Type 0
EvenLanesTellTheBits = (key key' bound : ℕ) → 0x19 ≤ bound → SameEvenLanes bound key key' ↔ AgreeWhereItCounts key key'

-- Those below 0x18 do not: bits 40 to 47 change none of them.
abbrev pub LanesBelow0x18HideBits40To47 : Type 0
LanesBelow0x18HideBits40To47 = (key key' : ℕ) → DifferOnlyInBits40To47 key key' → SameEvenLanes 0x18 key key'
