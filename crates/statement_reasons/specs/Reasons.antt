-- Why the tenants of a group have one copy. Ours: request 13 asks for a statement "as a person reads it".
use Rattle.std.specs.Prelude.{ℕ, cond, List, ltb, eqb}
use Rattle.tenants.specs.Tenants.{sharing, sharing_otherwise, counted}
use Rattle.statement_reasons.specs.declared.Why.{Why}
use Rattle.statement_reasons.specs.declared.Why.TheVariants.{Alone, KeysAgree, NothingShown, NotShown}

-- those who have one copy with a key: no second one; none whose key does not agree with it where it counts; no payload that depends on a key, masked and long
-- enough; or none that shows where the keys differ
abbrev pub why_of : ℕ → List (List ℕ) → ℕ → Why
why_of bits tenants key =
    cond (ltb (counted (sharing bits key) tenants) 2) Alone
    (cond (eqb (counted (sharing_otherwise bits key) tenants) 0) KeysAgree
    (cond (eqb bits 0) NothingShown NotShown))
