-- Request 13: "up to 16 tenants, each with a tenant number and key". A tenant is lent as a list of the two.
use Rattle.std.specs.Prelude.{ℕ, ◌+◌, min, Bool, cond, not, ◌&&◌, ◌||◌, List, [], ◌∷◌, length, ltb, eqb}
use Rattle.std.specs.Int.Bits.{bit_and}
use Rattle.laws.specs.Lists.{at}
use Rattle.key.specs.CountingBits.{counting_bits}

abbrev pub number_in : List ℕ → ℕ
number_in tenant = at tenant 0

abbrev pub key_in : List ℕ → ℕ
key_in tenant = at tenant 1

-- a tenant has one copy with a key, on a film that shows these bits of a key: both agree in them
abbrev pub sharing : ℕ → ℕ → List ℕ → Bool
sharing bits key tenant = eqb (bit_and key bits) (bit_and (key_in tenant) bits)

-- and its own key does not agree with that one where it counts
abbrev pub sharing_otherwise : ℕ → ℕ → List ℕ → Bool
sharing_otherwise bits key tenant = not (eqb (counting_bits key) (counting_bits (key_in tenant))) && sharing bits key tenant

-- whose number this is
abbrev pub has_number : ℕ → List ℕ → Bool
has_number number tenant = eqb (number_in tenant) number

-- whose number is lower
abbrev pub is_below : ℕ → List ℕ → Bool
is_below number tenant = ltb (number_in tenant) number

-- and who has one copy with a key
abbrev pub sharing_below : ℕ → ℕ → ℕ → List ℕ → Bool
sharing_below bits key number tenant = is_below number tenant && sharing bits key tenant

-- how many a test picks
unfoldable pub counted : (List ℕ → Bool) → List (List ℕ) → ℕ
counted test [] = 0
counted test (tenant ∷ tenants) = cond (test tenant) 1 0 + counted test tenants

-- the lowest number among this one and those that a test picks
unfoldable pub lowest : (List ℕ → Bool) → ℕ → List (List ℕ) → ℕ
lowest test number [] = number
lowest test number (tenant ∷ tenants) = min (cond (test tenant) (number_in tenant) number) (lowest test number tenants)

-- "a number twice": some tenant's number is that of more than one
abbrev pub is_repeated : List (List ℕ) → List ℕ → Bool
is_repeated tenants tenant = ltb 1 (counted (has_number (number_in tenant)) tenants)

abbrev pub repeated : List (List ℕ) → Bool
repeated tenants = ltb 0 (counted (is_repeated tenants) tenants)

-- "no tenant, over 16, or a number twice"
abbrev pub are_bad : List (List ℕ) → Bool
are_bad tenants = eqb (length tenants) 0 || (ltb 16 (length tenants) || repeated tenants)

-- the first that a test picks; number 0 with key 0 where there is none
unfoldable pub first_of : (List ℕ → Bool) → List (List ℕ) → List ℕ
first_of test [] = 0 ∷ 0 ∷ []
first_of test (tenant ∷ tenants) = cond (test tenant) tenant (first_of test tenants)

-- "by rising tenant": at a rank stands the tenant that has so many below it
abbrev pub has_rank : List (List ℕ) → ℕ → List ℕ → Bool
has_rank tenants rank tenant = eqb (counted (is_below (number_in tenant)) tenants) rank

abbrev pub ranked : ℕ → List (List ℕ) → List ℕ
ranked rank tenants = first_of (has_rank tenants rank) tenants
