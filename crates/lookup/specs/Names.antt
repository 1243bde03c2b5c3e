-- Rules T: "Names compare byte by byte".
use Rattle.std.specs.Prelude.{ℕ, ◌+◌, List, [], ◌∷◌, Bool, false, cond, eqb}
use Rattle.laws.specs.Lists.{at}

-- a name stands at body byte p: its bytes, none of them zero, and then "a zero byte"
unfoldable pub spells : List ℕ → ℕ → List ℕ → Bool
spells b p [] = eqb (at b p) 0
spells b p (y ∷ ys) = cond (eqb (at b p) 0) false (cond (eqb (at b p) y) (spells b (p + 1) ys) false)
