-- T's even lanes below a bound tell two keys apart exactly when these differ in the bits that the lanes show. As far as lane 0x18 those are all bits that T
-- is made of. Assumes nothing.
use Rattle.std.proofs.Common.{◌≡◌, ℕ, ◌+◌, ◌-◌, ◌*◌, ◌/◌, ◌%◌, ◌^◌, ◌<◌, ◌≤◌, ◌↔◌, List, sym, ap, ◌∙◌, ap₂, arith, lt-ltb}
use mathlib.Core.Logic.Iff
use lib.Bits.{bit_and}
use Rattle.laws.specs.Lists.{at}
use Rattle.key.specs.KeyTable.{table_t, keys_of}
use Rattle.key.specs.CountingBits.{AgreeWhereItCounts, DifferOnlyInBits40To47, SameEvenLanes, counting_bits}
use Rattle.key.specs.LaneBits.{bits_in, AgreeIn}
use Rattle.key.proofs.AndLaws.{two_runs}
use Rattle.key.proofs.LaneBytes.{seen_of, lanes_of, same_table_of}
use Rattle.key.proofs.MaskedBytes.{bits_are_bytes}

pub lanes_are_bits : (bound k k' : ℕ) → SameEvenLanes bound k k' ↔ AgreeIn (bits_in bound) k k'
lanes_are_bits bound k k' = Iff.trans (seen_of bound k k', lanes_of bound k k') (Iff.symm (bits_are_bytes bound k k'))

-- ---- as far as lane 0x18 they are the bits that count

all_bits : (bound : ℕ) → 0x19 ≤ bound → bits_in bound ≡ (2 ^ 16 - 1) * 2 ^ 40 + (2 ^ 36 - 1)
unfolding bits_in
all_bits bound h =
    rw (
      lt-ltb 0 bound (omega arith),
      lt-ltb 2 bound (omega arith),
      lt-ltb 4 bound (omega arith),
      lt-ltb 6 bound (omega arith),
      lt-ltb 8 bound (omega arith),
      lt-ltb 0xE bound (omega arith),
      lt-ltb 0x18 bound (omega arith),
    )

pub all_that_counts : (k bound : ℕ) → 0x19 ≤ bound → bit_and k (bits_in bound) ≡ counting_bits k
all_that_counts k bound h = ap (bit_and k) (all_bits bound h) ∙ two_runs k 16 40 36 (omega arith) ∙ omega arith

-- a number below 2^36 and a multiple of 2^40 are told apart in their sum
parts : (a b c d : ℕ) → a < 2 ^ 36 → c < 2 ^ 36 → a + b * 2 ^ 40 ≡ c + d * 2 ^ 40 → (a ≡ c) × (b ≡ d)
parts a b c d h k e = (omega arith, omega arith)

-- agreeing where it counts is having one number
pub one_number : (k k' : ℕ) → AgreeWhereItCounts k k' ↔ (counting_bits k ≡ counting_bits k')
one_number k k' = (
  λ a. ap₂ (λ (x y : ℕ). x + y * 2 ^ 40) a.bits_0_to_35 a.bits_40_to_55,
  λ e.
      let p = parts (k % 2 ^ 36) (k / 2 ^ 40 % 2 ^ 16) (k' % 2 ^ 36) (k' / 2 ^ 40 % 2 ^ 16) (omega arith) (omega arith) e in
      record { bits_0_to_35 = p.0; bits_40_to_55 = p.1 },
)

bits_that_count : (k k' bound : ℕ) → 0x19 ≤ bound → AgreeIn (bits_in bound) k k' ↔ AgreeWhereItCounts k k'
bits_that_count k k' bound h = rw (all_that_counts k bound h, all_that_counts k' bound h) (Iff.symm (one_number k k'))

pub even_lanes_count : (k k' bound : ℕ) → 0x19 ≤ bound → SameEvenLanes bound k k' ↔ AgreeWhereItCounts k k'
even_lanes_count k k' bound h = Iff.trans (lanes_are_bits bound k k') (bits_that_count k k' bound h)

pub agree_of_even : (k k' : ℕ) → SameEvenLanes 0x19 k k' → AgreeWhereItCounts k k'
agree_of_even k k' = (even_lanes_count k k' 0x19 (omega arith)).0

pub table_same : (k k' : ℕ) → table_t k ≡ table_t k' → AgreeWhereItCounts k k'
table_same k k' e = agree_of_even k k' (λ lane _ _. ap (λ (t : List ℕ). at t lane) e)

pub same_table : (k k' : ℕ) → AgreeWhereItCounts k k' → table_t k ≡ table_t k'
same_table k k' a = same_table_of 0x19 k k' ((bits_are_bytes 0x19 k k').0 ((bits_that_count k k' 0x19 (omega arith)).1 a)) (omega arith)

pub same_keys : (k k' : ℕ) → AgreeWhereItCounts k k' → keys_of k ≡ keys_of k'
unfolding keys_of
same_keys k k' a = rw (same_table k k' a)

-- ---- below lane 0x18 they are all of these but byte 5

below_0x18 : (k : ℕ) → bit_and k (bits_in 0x18) ≡ k / 2 ^ 48 % 2 ^ 8 * 2 ^ 48 + k % 2 ^ 48 % 2 ^ 36
unfolding bits_in
below_0x18 k = two_runs k 8 48 36 (omega arith)

pub same_below_0x18 : (k k' : ℕ) → DifferOnlyInBits40To47 k k' → SameEvenLanes 0x18 k k'
same_below_0x18 k k' d =
    let low : k % 2 ^ 48 % 2 ^ 36 ≡ k' % 2 ^ 48 % 2 ^ 36 = omega (arith, d.bits_0_to_39) in
    (lanes_are_bits 0x18 k k').1 (below_0x18 k ∙ ap₂ (λ (x y : ℕ). x % 2 ^ 8 * 2 ^ 48 + y) d.bits_48_on low ∙ sym (below_0x18 k'))
