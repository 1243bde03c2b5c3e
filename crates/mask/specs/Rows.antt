-- Bytes XORed with a row of a table, and rows made clear by the clear one before them.
use Rattle.std.specs.Prelude.{ℕ, zero, suc, ◌+◌, ◌*◌, ◌/◌, ◌%◌, List, ◌++◌, Bool, true, cond, length, drop}
use Rattle.std.specs.Int.Bits.{bit_xor}
use Rattle.laws.specs.Lists.{tab, at}

-- each byte XORed with the row's byte in its lane
unfoldable pub xored : List ℕ → List ℕ → List ℕ
xored bytes row = tab (λ lane. bit_xor (at bytes lane) (at row lane)) (length bytes)

-- each byte of rows XORed with A's byte in its lane: "XORed with A, repeating"
unfoldable pub xored_rows : List ℕ → List ℕ → List ℕ
xored_rows a rows = tab (λ p. bit_xor (at rows p) (at a (p % 0x20))) (length rows)

-- "clear row r = stored row r ^ clear row r-1 ^ V", in rows of which the first is clear
unfoldable pub clear_after : List ℕ → List ℕ → ℕ → ℕ → ℕ
clear_after v rows zero lane = at rows lane
clear_after v rows (suc r) lane = bit_xor (at rows (suc r * 0x20 + lane)) (bit_xor (clear_after v rows r lane) (at v lane))

-- such rows made clear, in the lanes that a test picks
unfoldable pub cleared_where : (ℕ → Bool) → List ℕ → List ℕ → List ℕ
cleared_where picks v rows = tab (λ p. cond (picks (p % 0x20)) (clear_after v rows (p / 0x20) (p % 0x20)) (at rows p)) (length rows)

-- in all lanes
abbrev pub cleared_rows : List ℕ → List ℕ → List ℕ
cleared_rows = cleared_where (λ _. true)

-- rows made clear that follow a clear one
unfoldable pub cleared_on : List ℕ → List ℕ → List ℕ → List ℕ
cleared_on v before rows = drop 0x20 (cleared_rows v (before ++ rows))
