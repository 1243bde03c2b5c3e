-- Rules W1 and W2: numbers as bytes, and zero padding.
use Rattle.std.specs.Prelude.{ℕ, ◌-◌, ◌/◌, ◌%◌, ◌^◌, List, [], ◌∷◌, replicate}

-- numbers, "big-endian throughout"
abbrev pub bytes16 : ℕ → List ℕ
bytes16 n = n / 2 ^ 8 % 2 ^ 8 ∷ n % 2 ^ 8 ∷ []

abbrev pub bytes32 : ℕ → List ℕ
bytes32 n = n / 2 ^ 24 % 2 ^ 8 ∷ n / 2 ^ 16 % 2 ^ 8 ∷ n / 2 ^ 8 % 2 ^ 8 ∷ n % 2 ^ 8 ∷ []

abbrev pub zeros : ℕ → List ℕ
zeros n = replicate n 0

-- "zero padding to a multiple of 0x20": what n bytes lack
abbrev pub padding : ℕ → ℕ
padding n = (0x20 - n % 0x20) % 0x20
