-- Rules T: the header. "32 header bytes: `@UTF`, size u32, version u16, row offset u16, string offset u32,
-- data offset u32, table name u32, columns u16, row size u16, rows u32." t is the slice from the table's start on,
-- m says how its columns are read.
use Rattle.std.specs.Prelude.{ℕ, ◌+◌, ◌-◌, List, not, cond, length, take, drop, ltb, eqb, Result, Ok, Err}
use Rattle.refusal.specs.declared.Cause.{Cause}
use Rattle.word.specs.Numbers.{be16, be32}
use Rattle.reading.specs.declared.TableMode.{TableMode}
use Rattle.refusal.specs.declared.Cause.TheVariants as cause
use Rattle.layout.specs.declared.Layout.{Layout}

-- "rows at row offset; place p is body byte p - 24". Before the body there is nothing to read, as there is nothing past its end
abbrev pub start_of : ℕ → ℕ → ℕ
start_of size offset = cond (ltb offset 24) size (offset - 24)

-- what the header says of a table whose body has so many bytes
abbrev pub laid_in : List ℕ → TableMode → ℕ → Layout
laid_in t m size =
    record { size = size; columns = be16 t 24; rows = be32 t 28; start = start_of size (be16 t 10); strings = be32 t 12; blobs = be32 t 16; mode = m }

-- "columns (10), rows (10)"; "64 columns and 256 rows per table"
unfoldable pub counted_in : List ℕ → TableMode → ℕ → Result Layout Cause
counted_in t m size =
    cond (ltb 64 (be16 t 24)) (Err cause.TooMany)
    (cond (ltb 256 (be32 t 28)) (Err cause.TooMany)
    (Ok (laid_in t m size)))

-- "Order: signature (1, 3), other 28 bytes (1), size (9), body present (1)"; "The body is the next (size - 24) bytes"
unfoldable pub layout_in : List ℕ → TableMode → Result Layout Cause
layout_in t m =
    cond (ltb (length t) 4) (Err cause.RanOut)
    (cond (not (eqb (be32 t 0) 0x40555446)) (Err cause.NoTable)
    (cond (ltb (length t) 32) (Err cause.RanOut)
    (cond (ltb (be32 t 4) 24) (Err cause.TooSmall)
    (cond (ltb (length t) (32 + (be32 t 4 - 24))) (Err cause.RanOut)
    (counted_in t m (be32 t 4 - 24))))))

-- "The body is the next (size - 24) bytes"
abbrev pub body_of : List ℕ → Layout → List ℕ
body_of t l = take l.size (drop 32 t)
