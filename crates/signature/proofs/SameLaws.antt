-- `==` of slices compares their bytes as `same_bytes` does. Assumes nothing.
use Rattle.std.proofs.Common.{◌≡◌, refl, ap, ℕ, List, [], ◌∷◌, Bool, ◌&&◌, eqb}
use Rattle.std.specs.Cmp.Lexicographic.{pointwise}
use Rattle.signature.specs.Signatures.{same_bytes}

pub equal_slices : (a b : List ℕ) → pointwise eqb a b ≡ same_bytes a b
unfolding same_bytes
equal_slices [] [] = refl
equal_slices [] (y ∷ ys) = refl
equal_slices (x ∷ xs) [] = refl
equal_slices (x ∷ xs) (y ∷ ys) = ap (λ (t : Bool). eqb x y && t) (equal_slices xs ys)
