-- Rules W1 and W2: a block as it is written. Blocks of the header, chunks with a payload and end chunks are all of this form.
use Rattle.std.specs.Prelude.{ℕ, ◌+◌, List, ◌++◌, length}
use Rattle.word.specs.Bytes.{bytes16, bytes32, zeros, padding}

-- the 0x20 bytes before the n that a block holds: letters, block size, "header size 0x18", "footer counting zero padding". The rest is zero, "data type is 0" too
unfoldable pub head_of : ℕ → ℕ → List ℕ
head_of letters n = bytes32 letters ++ bytes32 (0x18 + n + padding n) ++ bytes16 0x18 ++ bytes16 (padding n) ++ zeros 20

-- the bytes of a block that holds these
unfoldable pub block_of : ℕ → List ℕ → List ℕ
block_of letters inside = head_of letters (length inside) ++ (inside ++ zeros (padding (length inside)))
