-- The bytes of blocks, one list after the other. Assumes nothing.
use Prim.Native.Nat.{ℕ}
use mathlib.Core.Path.{◌≡◌, refl, ap, ◌∙◌}
use mathlib.Core.List.{List, [], ◌∷◌, ◌++◌, append_assoc}
use Rattle.signature.specs.Signatures.{CRID, header_end, metadata_end}
use Rattle.write_blocks.specs.Blocks.{block_of}
use Rattle.write_blocks.specs.Tables.{marker_of, empty_table, name_table}
use Rattle.write_plan.specs.declared.Stream.{Stream}
use Rattle.write_plan.specs.declared.Packing.{Packing}
use Rattle.write_plan.specs.Films.{Block, bytes_of, in_each, codec_in, header_blocks}

pub bytes_append : (some others : List Block) → bytes_of (some ++ others) ≡ bytes_of some ++ bytes_of others
unfolding bytes_of
bytes_append [] others = refl
bytes_append (block ∷ some) others = rw (bytes_append some others, append_assoc)

bytes_more : (letters : ℕ) (inside : List ℕ) (blocks : List Block) → bytes_of (record { letters = letters; inside = inside } ∷ blocks) ≡ block_of letters inside ++ bytes_of blocks
unfolding bytes_of
bytes_more letters inside blocks = refl

-- the bytes of a header
pub header_bytes : (name : List ℕ) (packing : Packing)
    → bytes_of (header_blocks name packing)
    ≡ block_of CRID (name_table name)
    ++ (bytes_of (in_each packing.audio (codec_in packing))
    ++ (bytes_of (in_each packing.audio (λ stream. marker_of header_end))
    ++ (bytes_of (in_each packing.audio (λ stream. empty_table)) ++ bytes_of (in_each packing.audio (λ stream. marker_of metadata_end)))))
unfolding header_blocks
header_bytes name packing =
    let some : (Stream → List ℕ) → List Block = in_each packing.audio in
    let codecs = some (codec_in packing) in
    let ends = some (λ stream. marker_of header_end) in
    let tables = some (λ stream. empty_table) in
    let last = some (λ stream. marker_of metadata_end) in
    bytes_more CRID (name_table name) (codecs ++ (ends ++ (tables ++ last)))
    ∙ ap (λ (l : List ℕ). block_of CRID (name_table name) ++ l)
    (bytes_append codecs (ends ++ (tables ++ last))
    ∙ ap (λ (l : List ℕ). bytes_of codecs ++ l)
    (bytes_append ends (tables ++ last) ∙ ap (λ (l : List ℕ). bytes_of ends ++ l) (bytes_append tables last)))
