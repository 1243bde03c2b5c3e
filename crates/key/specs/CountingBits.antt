-- The bits of a key that count, and where T shows them. Ours, beyond the rules: it names them only as what keys must agree in.
use Rattle.std.specs.Prelude.{◌≡◌, ℕ, ◌+◌, ◌*◌, ◌/◌, ◌%◌, ◌^◌, ◌<◌}
use Rattle.laws.specs.Lists.{at}
use Rattle.key.specs.KeyTable.{table_t}

-- "the keys agree in bits 0 to 35 and 40 to 55"
pub record AgreeWhereItCounts (key key' : ℕ) : Type 0 where
  pub bits_0_to_35 : key % 2 ^ 36 ≡ key' % 2 ^ 36
  pub bits_40_to_55 : key / 2 ^ 40 % 2 ^ 16 ≡ key' / 2 ^ 40 % 2 ^ 16

-- the key with its bits 36 to 39 and 56 to 63 cleared
abbrev pub counting_bits : ℕ → ℕ
counting_bits key = key % 2 ^ 36 + key / 2 ^ 40 % 2 ^ 16 * 2 ^ 40

-- the keys "differ only in bits 40 to 47"
pub record DifferOnlyInBits40To47 (key key' : ℕ) : Type 0 where
  pub bits_0_to_39 : key % 2 ^ 40 ≡ key' % 2 ^ 40
  pub bits_48_on : key / 2 ^ 48 ≡ key' / 2 ^ 48

-- the keys' T agree in every even lane below a bound; the sound's mask shows T in even lanes only
abbrev pub SameEvenLanes : ℕ → ℕ → ℕ → Type 0
SameEvenLanes bound key key' = (lane : ℕ) → lane < bound → lane % 2 ≡ 0 → at (table_t key) lane ≡ at (table_t key') lane
