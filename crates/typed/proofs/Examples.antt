-- Tenants' numbers at the edge of 64 bits, by computing. Assumes nothing.
use Rattle.std.proofs.Common.{ℕ, ◌-◌, ◌+◌, ◌^◌, ◌≡◌, refl, List, [], ◌∷◌, map, Some, None}
use Rattle.typed.specs.TypedNumbers.{between, hex_value, prefixed, value_from, digits_read, number_typed, tenant_typed}

-- 1844674407370955161 and one digit more
abbrev near : ℕ → List ℕ
near digit = map (λ d. 0x30 + d) (1 ∷ 8 ∷ 4 ∷ 4 ∷ 6 ∷ 7 ∷ 4 ∷ 4 ∷ 0 ∷ 7 ∷ 3 ∷ 7 ∷ 0 ∷ 9 ∷ 5 ∷ 5 ∷ 1 ∷ 6 ∷ 1 ∷ digit ∷ [])

largest : tenant_typed (near 5) ≡ Some (2 ^ 64 - 1)
unfolding number_typed prefixed digits_read value_from hex_value between
largest = refl

one_more : tenant_typed (near 6) ≡ None
unfolding number_typed prefixed digits_read value_from hex_value between
one_more = refl
