-- Rules K: "The key table puts T, V, A in a buffer's first 96 bytes and gives 96; a shorter buffer stays and gives 0."
use Rattle.std.specs.Prelude.{ℕ, List, ◌++◌, cond, ltb, length, drop}
use Rattle.key.specs.declared.Keys.{Keys}

-- the buffer afterwards
unfoldable pub laid : Keys → List ℕ → List ℕ
laid keys buffer = cond (ltb (length buffer) 96) buffer (keys.t ++ (keys.v ++ (keys.a ++ drop 96 buffer)))

-- what is given
abbrev pub given : List ℕ → ℕ
given buffer = cond (ltb (length buffer) 96) 0 96
