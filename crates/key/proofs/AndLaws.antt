-- What is left of a number under a mask. Assumes nothing.
use Rattle.std.proofs.Common.{◌≡◌, ℕ, ◌+◌, ◌-◌, ◌*◌, ◌/◌, ◌%◌, ◌^◌, ◌<◌, min, sym, refl, ap, ◌∙◌, ap₂, mod-lt, arith, pow_pos}
use lib.Arith.{bin_ind}
use lib.Pow.{split}
use lib.Bits.{bit_and, and_step, and_shr, and_block, and_mask}

-- a number masked is its low byte masked and what lies above masked
pub and_byte : (n m r : ℕ) → r < 256 → bit_and n (m * 256 + r) ≡ bit_and (n / 256) m * 256 + bit_and (n % 256) r
and_byte n m r h = ap (λ (z : ℕ). bit_and z (m * 256 + r)) (sym (split n 8)) ∙ and_block 8 (n / 256) m (n % 256) r (mod-lt n (omega arith)) h

-- a run of j bits from bit k on, and one of i bits from bit 0 on
pub two_runs : (n j k i : ℕ) → 2 ^ i - 1 < 2 ^ k → bit_and n ((2 ^ j - 1) * 2 ^ k + (2 ^ i - 1)) ≡ n / 2 ^ k % 2 ^ j * 2 ^ k + n % 2 ^ k % 2 ^ i
two_runs n j k i h =
    ap (λ (z : ℕ). bit_and z ((2 ^ j - 1) * 2 ^ k + (2 ^ i - 1))) (sym (split n k))
    ∙ and_block k (n / 2 ^ k) (2 ^ j - 1) (n % 2 ^ k) (2 ^ i - 1) (mod-lt n (pow_pos k)) h
    ∙ ap₂ (λ (x y : ℕ). x * 2 ^ k + y) (and_mask (n / 2 ^ k) j) (and_mask (n % 2 ^ k) i)

-- a mask put on twice is put on once
pub and_twice : (n m : ℕ) → bit_and (bit_and n m) m ≡ bit_and n m
and_twice =
    bin_ind (λ (n : ℕ). (m : ℕ) → bit_and (bit_and n m) m ≡ bit_and n m) (λ m. refl)
    (λ n ih m.
    let half : bit_and n m / 2 ≡ bit_and (n / 2) (m / 2) = and_shr n m 1 in
    let low : bit_and n m % 2 ≡ min (n % 2) (m % 2) = omega (arith, and_step n m) in
    and_step (bit_and n m) m
    ∙ ap₂ (λ (x y : ℕ). bit_and x (m / 2) * 2 + min y (m % 2)) half low
    ∙ ap₂ (λ (x y : ℕ). x * 2 + y) (ih (m / 2)) (omega arith)
    ∙ sym (and_step n m))
