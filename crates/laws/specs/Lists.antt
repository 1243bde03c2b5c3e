-- Lists of bytes, by position.
use Rattle.std.specs.Prelude.{ℕ, zero, suc, List, [], ◌∷◌, get_or}

-- f 0, f 1, .., f (n - 1)
unfoldable pub tab : (ℕ → ℕ) → ℕ → List ℕ
tab f zero = []
tab f (suc n) = f zero ∷ tab (λ i. f (suc i)) n

-- the byte at a position, 0 past the end
abbrev pub at : List ℕ → ℕ → ℕ
at bytes i = get_or bytes i 0
