-- A table is put as its head, its cell, its column's name, a zero and its data: each has room where the table has, and together they are the table. Assumes nothing.
use Rattle.std.specs.Prelude.{Option, Some, None}
use Prim.Native.Nat.{ℕ, ◌+◌, ◌≤◌}
use mathlib.Core.Path.{◌≡◌}
use mathlib.Core.List.{List, [], ◌∷◌, ◌++◌}
use native.Mathlib.Omega.{arith}
use lib.ListN.{length}
use Rattle.laws.specs.Outputs.{Put}
use Rattle.laws.proofs.PutLaws.{Left, all_left, less_left, left_fits, next_fits, put_then}
use Rattle.signature.specs.Signatures.{CRID, filename}
use Rattle.word.specs.Bytes.{bytes32}
use Rattle.write_blocks.specs.Blocks.{block_of}
use Rattle.write_blocks.specs.Tables.{empty_table, table_head, table_with, name_table, codec_table}
use Rattle.write_plan.proofs.LengthLaws.{table_length}

module _ (tag : ℕ) (column cell blob out : List ℕ) (at : ℕ) (room : at + length (table_with tag column cell blob) ≤ length out) where
  pub head_fits : at + 37 ≤ length out
  head_fits = omega (arith, table_length tag column cell blob)

  module _ {after : List ℕ} {end : ℕ} (head : Put (table_head tag (length cell) (length column) (length blob)) out at after end) where
    from_cell : Left (cell ++ (column ++ (0 ∷ blob))) after end (table_with tag column cell blob) out at
    unfolding table_with
    from_cell = less_left (all_left (table_with tag column cell blob) out at) head

    pub cell_fits : end + length cell ≤ length after
    cell_fits = next_fits cell (column ++ (0 ∷ blob)) from_cell room

    module _ {after' : List ℕ} {end' : ℕ} (celled : Put cell after end after' end') where
      pub column_fits : end' + length column ≤ length after'
      column_fits = next_fits column (0 ∷ blob) (less_left from_cell celled) room

      module _ {after'' : List ℕ} {end'' : ℕ} (named : Put column after' end' after'' end'') where
        from_zero : Left ((0 ∷ []) ++ blob) after'' end'' (table_with tag column cell blob) out at
        from_zero = less_left (less_left from_cell celled) named

        pub zero-fits : end'' + 1 ≤ length after''
        zero-fits = next_fits (0 ∷ []) blob from_zero room

        module _ {after''' : List ℕ} {end''' : ℕ} (ended : Put (0 ∷ []) after'' end'' after''' end''') where
          pub blob-fits : end''' + length blob ≤ length after'''
          blob-fits = left_fits (less_left from_zero ended) room

          pub table-put : {last : List ℕ} {ends : ℕ} → Put blob after''' end''' last ends → Put (table_with tag column cell blob) out at last ends
          unfolding table_with
          table-put data' = put_then head (put_then celled (put_then named (put_then ended data')))

-- ---- the tables of a header

pub name_block_lem : (cell name : List ℕ) → cell ≡ bytes32 0 ++ bytes32 (length name) → block_of CRID (table_with 0x5B filename cell name) ≡ block_of CRID (name_table name)
unfolding name_table
name_block_lem cell name e = rw e

module _ (letters : ℕ) (column : List ℕ) (codec : Option ℕ) where
  pub codec_block_lem : (cell : List ℕ) (n : ℕ) → cell ≡ bytes32 n → codec ≡ Some n → block_of letters (table_with 0x54 column cell []) ≡ block_of letters (codec_table column codec)
  unfolding codec_table
  codec_block_lem cell n e f = rw (e, f)

  pub absent_block : codec ≡ None → block_of letters empty_table ≡ block_of letters (codec_table column codec)
  unfolding codec_table
  absent_block f = rw f
