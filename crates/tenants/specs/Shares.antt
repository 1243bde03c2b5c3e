-- Request 13: "A copy's bytes (both streams) are divided evenly within its group; a remainder goes one byte each to the lowest tenant numbers."
use Rattle.std.specs.Prelude.{ℕ, zero, suc, ◌+◌, ◌/◌, ◌%◌, cond, List, [], ◌∷◌, ltb, eqb}
use Rattle.tenants.specs.Tenants.{number_in, key_in, sharing, counted, lowest, ranked, sharing_below}

-- "divided evenly"; the remainder to the first ranks. Where there are no members there is nothing to bear
unfoldable pub portion : ℕ → ℕ → ℕ → ℕ
portion size members rank = cond (eqb members 0) 0 (size / members + cond (ltb rank (size % members)) 1 0)

-- by how many members its group has, and how many of them have a lower number
abbrev pub share_of : ℕ → ℕ → List (List ℕ) → List ℕ → ℕ
share_of bits size tenants tenant =
    portion size (counted (sharing bits (key_in tenant)) tenants) (counted (sharing_below bits (key_in tenant) (number_in tenant)) tenants)

-- the lowest tenant of its group
abbrev pub group_of : ℕ → List (List ℕ) → List ℕ → ℕ
group_of bits tenants tenant = lowest (sharing bits (key_in tenant)) (number_in tenant) tenants

-- "each gives tenant, lowest tenant of its group and share"
unfoldable pub line_of : ℕ → ℕ → List (List ℕ) → List ℕ → List ℕ
line_of bits size tenants tenant = number_in tenant ∷ group_of bits tenants tenant ∷ share_of bits size tenants tenant ∷ []

-- "by rising tenant"
abbrev pub line_at : ℕ → ℕ → List (List ℕ) → ℕ → List ℕ
line_at bits size tenants rank = line_of bits size tenants (ranked rank tenants)

-- so many lines, from a rank on
unfoldable pub lines_from : (ℕ → List ℕ) → ℕ → ℕ → List (List ℕ)
lines_from line rank zero = []
lines_from line rank (suc n) = line rank ∷ lines_from line (suc rank) n
