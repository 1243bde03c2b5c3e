-- Rules O1 and O2: the blocks of the old builder.
use Rattle.std.specs.Prelude.{ℕ, ◌+◌, List, ◌++◌, length}
use Rattle.word.specs.Bytes.{bytes16, bytes32, zeros, padding}

-- `@END`
abbrev pub END : ℕ
END = 0x40454E44

-- the 28 bytes in front of what a block holds: letters, block size, "the two u16 fields mean version and data offset", and zeros. So what it holds stands at 28, where
-- the data offset says 0x20. A chunk's are the same but for 8 of the zeros, `headBy`
unfoldable pub old_head : ℕ → ℕ → List ℕ
old_head letters size = bytes32 letters ++ bytes32 size ++ bytes16 1 ++ bytes16 0x18 ++ zeros 16

-- "alignment padding stands outside the block size": zeros to a multiple of 0x20 in the container. Every block that is padded begins at one
abbrev pub padded : List ℕ → List ℕ
padded bytes = bytes ++ zeros (padding (length bytes))

-- a block of the header: its size counts all but its first 8 bytes
unfoldable pub table_block : ℕ → List ℕ → List ℕ
table_block letters table = padded (old_head letters (20 + length table) ++ table)

-- "`@END` blocks have 28 bytes and claim 32"; they are not padded
abbrev pub end_block : List ℕ
end_block = old_head END 0x18
