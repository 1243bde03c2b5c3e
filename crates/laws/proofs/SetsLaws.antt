-- Elements put into a list one after the other, as far as it goes: what is put in two goes is put in one. Assumes nothing.
use mathlib.Core.Path.{◌≡◌, ap, ◌∙◌}
use mathlib.Core.List.{List, [], ◌∷◌, ◌++◌}
use Prim.Native.Nat.{ℕ, suc, ◌+◌}
use native.Mathlib.Omega.{arith}
use lib.ListN.{length, set}
use lib.Seq.{sets}

pub sets_append : {A : Type 0} (out p r : List A) (at : ℕ) → sets out at (p ++ r) ≡ sets (sets out at p) (at + length p) r
sets_append out [] r at = ap (λ (k : ℕ). sets out k r) (omega arith)
sets_append out (b ∷ p) r at = sets_append (set out at b) p r (suc at) ∙ ap (λ (k : ℕ). sets (sets (set out at b) (suc at) p) k r) (omega arith)
