-- The bytes of a number, read back, are the number. Assumes nothing.
use Rattle.std.proofs.Common.{◌≡◌, ℕ, ◌+◌, ◌*◌, ◌/◌, ◌%◌, ◌^◌, ◌<◌, arith}

pub whole16 : (n : ℕ) → n < 2 ^ 16 → n / 2 ^ 8 % 2 ^ 8 * 2 ^ 8 + n % 2 ^ 8 ≡ n
whole16 n h = omega arith

pub whole32 : (n : ℕ) → n < 2 ^ 32 → (n / 2 ^ 24 % 2 ^ 8 * 2 ^ 8 + n / 2 ^ 16 % 2 ^ 8) * 2 ^ 16 + (n / 2 ^ 8 % 2 ^ 8 * 2 ^ 8 + n % 2 ^ 8) ≡ n
whole32 n h = omega arith
