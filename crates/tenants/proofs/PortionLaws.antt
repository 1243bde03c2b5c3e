-- Where there is a remainder, an even share and one more are no more than the whole. Assumes nothing.
use Prim.Native.Nat.{ℕ, ◌+◌, ◌*◌, ◌/◌, ◌%◌, ◌≤◌, ◌<◌}
use mathlib.Core.Path.{◌≡◌}
use native.Mathlib.Nat.{mul-le-mul_left, div-add-mod'}
use native.Mathlib.Omega.{arith}

pub one_more_fits : (size members rank : ℕ) → (members ≡ 0 → ⊥) → rank < size % members → size / members + 1 ≤ size
one_more_fits size members rank some r =
    let one : 1 ≤ members = omega arith in
    let q = size / members in
    let whole : q * 1 ≤ q * members = mul-le-mul_left q one in
    omega (arith, whole, div-add-mod' size members)
