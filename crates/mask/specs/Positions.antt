-- Rules D.
use Rattle.std.specs.Prelude.{ℕ, ◌-◌, ◌/◌, ◌%◌, min, Bool, false, cond, ◌||◌, ltb, eqb}
use Rattle.std.specs.Int.Bits.{bit_xor}
use Rattle.laws.specs.Lists.{at}
use Rattle.key.specs.KeyTable.{table_t}

-- "D = T ^ T' for the two keys, lane = position within the row."
abbrev pub difference : ℕ → ℕ → ℕ → ℕ
difference key key' lane = bit_xor (at (table_t key) lane) (at (table_t key') lane)

-- "head rows 2, 3, 6, 7"
abbrev pub head_row_differs : ℕ → Bool
head_row_differs r = (eqb r 2 || eqb r 3) || (eqb r 6 || eqb r 7)

-- "and even tail rows"
abbrev pub tail_row_differs : ℕ → Bool
tail_row_differs r = eqb (r % 2) 0

-- "Video unmasked, from 0x240 bytes: head rows 2, 3, 6, 7 and even tail rows differ by D; all else is equal."
unfoldable pub video_differs : ℕ → Bool
video_differs p =
    cond (ltb p 0x40) false (cond (ltb p 0x140) (head_row_differs ((p - 0x40) / 0x20)) (tail_row_differs ((p - 0x140) / 0x20)))

-- "Audio: from 0x140, even lanes differ by D; odd lanes are equal."
unfoldable pub audio_differs : ℕ → Bool
audio_differs p = cond (ltb p 0x140) false (eqb (p % 0x20 % 2) 0)

-- how many lanes, from lane 0 on, a sound payload of n bytes has from 0x140 on
abbrev pub lanes_shown : ℕ → ℕ
lanes_shown n = min 0x20 (n - 0x140)
