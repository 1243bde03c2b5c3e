-- A film of request 1 without a key: its header, the turns of its streams, and its ends. Assumes nothing.
use Rattle.std.specs.Prelude.{None}
use mathlib.Core.Path.{◌≡◌, refl, ap, ◌∙◌}
use Prim.Native.Nat.{ℕ, ◌+◌}
use mathlib.Core.List.{List, [], ◌++◌}
use mathlib.Core.Bool.{Bool, true, false, cond}
use lib.ListN.{length, length-append}
use Rattle.signature.specs.Signatures.{contents_end}
use Rattle.unmasking.specs.Unmasking.{unmasking_of}
use Rattle.write_blocks.specs.Blocks.{head_of, block_of}
use Rattle.write_blocks.specs.Tables.{marker_of}
use Rattle.write_plan.specs.declared.Packing.{Packing}
use Rattle.write_plan.specs.Films.{bytes_of, in_each, header_blocks, end_blocks, film_bytes}
use Rattle.turns.specs.declared.Form.TheVariants.{New}
use Rattle.turns.specs.Turns.{chunks_of}
use Rattle.turns.proofs.ReadLaws.{turns_none}
use Rattle.moved_film.proofs.NewLaws.{chunks_new}

abbrev pub header : List ℕ → Packing → List ℕ
header name packing = bytes_of (header_blocks name packing)

abbrev pub ends : Packing → List ℕ
ends packing = bytes_of (end_blocks packing)

module _ (name : List ℕ) (packing : Packing) (k : packing.key ≡ None) where
  pub film_laid : (video audio : List ℕ) → film_bytes name video audio packing ≡ header name packing ++ (chunks_of New video audio ++ ends packing)
  unfolding film_bytes
  film_laid video audio =
      ap (λ (l : List ℕ). header name packing ++ (l ++ ends packing)) (chunks_new (unmasking_of packing.key packing.audio_codec) (rw k) (rw k) video audio)

  pub frame_laid : film_bytes name [] [] packing ≡ header name packing ++ ends packing
  frame_laid = film_laid [] [] ∙ ap (λ (l : List ℕ). header name packing ++ (l ++ ends packing)) (turns_none New 0 0)

  -- its header, by the size of what is written without a payload
  pub header_size_lem : length (film_bytes name [] [] packing) ≡ length (header name packing) + length (ends packing)
  header_size_lem = ap length frame_laid ∙ length-append (header name packing) (ends packing)
