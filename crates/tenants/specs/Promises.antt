-- Which tenants have a statement. Each promise is proved under the same name in proofs/Promises.antt.
use Rattle.std.specs.Prelude.{ℕ, ◌≤◌, ◌<◌, ◌≡◌, ◌↔◌, false, List, [], length, get_or}
use Rattle.tenants.specs.Tenants.{number_in, are_bad}

-- "up to 16 tenants, each with a tenant number": one at least, 16 at most, and no number at two places
pub record OneToSixteen (tenants : List (List ℕ)) : Type 0 where
  pub some : 1 ≤ length tenants
  pub few : length tenants ≤ 16
  pub different : (i j : ℕ) → i < j → j < length tenants → number_in (get_or tenants i []) ≡ number_in (get_or tenants j []) → ⊥

-- "22 no tenant, over 16, or a number twice": tenants are not bad exactly when there are 1 to 16 of them, whose numbers are all different.
abbrev pub GoodExactlyWhenDifferent : Type 0
GoodExactlyWhenDifferent = (tenants : List (List ℕ)) → (are_bad tenants ≡ false) ↔ OneToSixteen tenants
