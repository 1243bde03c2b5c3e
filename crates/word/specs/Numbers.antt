-- Rules T: "Big-endian throughout." A byte past the end reads as 0.
use Rattle.std.specs.Prelude.{ℕ, ◌+◌, ◌*◌, ◌^◌, List}
use Rattle.laws.specs.Lists.{at}

abbrev pub be16 : List ℕ → ℕ → ℕ
be16 bytes p = at bytes p * 2 ^ 8 + at bytes (p + 1)

abbrev pub be32 : List ℕ → ℕ → ℕ
be32 bytes p = be16 bytes p * 2 ^ 16 + be16 bytes (p + 2)

abbrev pub be64 : List ℕ → ℕ → ℕ
be64 bytes p = be32 bytes p * 2 ^ 32 + be32 bytes (p + 4)
