-- Rules W3 and W4: what the blocks of a header hold.
use Rattle.std.specs.Prelude.{ℕ, ◌+◌, ◌-◌, List, [], ◌∷◌, ◌++◌, length, Option, Some, None}
use Rattle.signature.specs.Signatures.{filename}
use Rattle.word.specs.Bytes.{bytes16, bytes32, zeros}

-- a marker: its letters, and zeros up to 0x20 bytes
abbrev pub marker_of : List ℕ → List ℕ
marker_of marker = marker ++ zeros (0x20 - length marker)

-- `@UTF`
abbrev pub UTF : ℕ
UTF = 0x40555446

-- a table without a column: "size 24, no rows"
abbrev pub empty_table : List ℕ
empty_table = bytes32 UTF ++ bytes32 24 ++ zeros 24

-- the 32 bytes of a table with one column and one row, and the column's record of 5: its type, and its name at offset 0. The row has `cell` bytes, the name
-- `column` and a zero, which is the table's name too, and then come `blob` bytes. So rows stand from body byte 5 on, which is place 29
unfoldable pub table_head : ℕ → ℕ → ℕ → ℕ → List ℕ
table_head tag cell column blob =
    bytes32 UTF ++ bytes32 (29 + cell + column + 1 + blob) ++ bytes16 0 ++ bytes16 29 ++ bytes32 (29 + cell) ++ bytes32 (29 + cell + column + 1)
    ++ bytes32 column ++ bytes16 1 ++ bytes16 cell ++ bytes32 1 ++ (tag ∷ bytes32 0)

-- a table with a column of this type and name, one cell, and data
unfoldable pub table_with : ℕ → List ℕ → List ℕ → List ℕ → List ℕ
table_with tag column cell blob = table_head tag (length cell) (length column) (length blob) ++ (cell ++ (column ++ (0 ∷ blob)))

-- "name as a data cell": type B, stored in the row: offset and size
unfoldable pub name_table : List ℕ → List ℕ
name_table name = table_with 0x5B filename (bytes32 0 ++ bytes32 (length name)) name

-- a codec is a u32 cell, type 4, stored in the row; "absent codec as no column"
unfoldable pub codec_table : List ℕ → Option ℕ → List ℕ
codec_table column (Some n) = table_with 0x54 column (bytes32 n) []
codec_table column None = empty_table
