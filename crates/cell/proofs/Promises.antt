-- The promises of specs/Promises.antt: writing a float that was read from a pattern gives the pattern, if it is no NaN's. Assumes nothing.
use Prim.Native.Nat.{ℕ, ◌^◌, ◌%◌, ◌≤◌}
use mathlib.Core.Path.{◌≡◌, refl, sym, ◌∙◌, subst}
use mathlib.Core.Bool.{Bool, true, false, not, cond}
use lib.Dec.{T, leb}
use lib.Ieee.{binary32, of_bits, is_nan}
use lib.Ieee.Bits.{to_bits-of_bits, nan_bits_above, nan_bits_is}
use borrow.Author.Tests.{leb-true, le-ltb}
use Rattle.cell.specs.declared.Cell.TheVariants.{Float, NotANumber}
use Rattle.cell.specs.CellNumbers.{value_of}
use Rattle.cell.specs.Promises as promised

no_nan : (bits : ℕ) → bits % 2 ^ 31 ≤ 0x7F800000 → T (not (is_nan (of_bits binary32 bits)))
no_nan bits h =
    let below = nan_bits_above binary32 bits ∙ le-ltb _ _ h in
    subst (λ (b : Bool). T (not b)) (nan_bits_is binary32 bits) (subst (λ (b : Bool). T (not b)) (sym below) tt)

pub FloatBitsKept : promised.FloatBitsKept
FloatBitsKept bits h = go (leb (bits % 2 ^ 31) 0x7F800000) refl
  where
    go : (b : Bool) → leb (bits % 2 ^ 31) 0x7F800000 ≡ b → value_of (cond b (Float (of_bits binary32 bits)) (NotANumber bits)) ≡ bits
    go true e = to_bits-of_bits binary32 bits h (no_nan bits (leb-true (bits % 2 ^ 31) 0x7F800000 e))
    go false e = refl
