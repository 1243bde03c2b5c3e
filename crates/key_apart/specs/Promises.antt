-- What is promised of a payload under two keys. Each is proved under the same name in proofs/Promises.antt.
use Rattle.std.specs.Prelude.{ℕ, ◌<◌, ◌≤◌, ◌≡◌, ◌↔◌, List, length}
use Rattle.laws.specs.Lists.{at}
use Rattle.unmasking.specs.declared.Mask.{Mask}
use Rattle.unmasking.specs.Unmasking.{cleared_by}
use Rattle.key_apart.specs.PayloadsApart.{apart_in}

-- two lists agree below a byte, and at it they do not
abbrev pub PartAt : ℕ → List ℕ → List ℕ → Type 0
PartAt byte bytes bytes' = ((p : ℕ) → p < byte → at bytes p ≡ at bytes' p) × (at bytes byte ≡ at bytes' byte → ⊥)

-- A payload made clear under two keys: the position that is named is the first at which the two differ; where it is the payload's length, and only there, they
-- are the same.
abbrev pub PayloadsPartThere : Type 0
PayloadsPartThere =
    (mask : Mask) (key key' : ℕ) (payload : List ℕ)
    → (apart_in mask key key' (length payload) ≤ length payload)
    × (apart_in mask key key' (length payload) < length payload → PartAt (apart_in mask key key' (length payload)) (cleared_by key mask payload) (cleared_by key' mask payload))
    × ((apart_in mask key key' (length payload) ≡ length payload) ↔ (cleared_by key mask payload ≡ cleared_by key' mask payload))
