-- A field is written in quotes where any of its bytes asks for them. Assumes nothing.
use Rattle.std.proofs.Common.{◌≡◌, refl, ℕ, List, [], ◌∷◌, Bool, true, false, cond, ◌||◌}
use Rattle.std.specs.List.{list_any}
use Rattle.csv_text.specs.Written.{is_mark, is_quoted}

or_is : (t u : Bool) → (t || u) ≡ cond t true u
or_is true u = refl
or_is false u = refl

pub any_mark : (field : List ℕ) → list_any is_mark field ≡ is_quoted field
unfolding is_quoted
any_mark [] = refl
any_mark (byte ∷ field) = rw (any_mark field) (or_is (is_mark byte) (is_quoted field))
