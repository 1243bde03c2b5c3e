-- The builder's film is no longer than request 1's, block by block and chunk by chunk. Assumes nothing.
use Rattle.std.specs.Prelude.{Option, Some, None}
use Prim.Native.Nat.{ℕ, ◌+◌, ◌*◌, ◌%◌, ◌≤◌}
use mathlib.Core.Path.{◌≡◌}
use mathlib.Core.List.{List, []}
use mathlib.Core.Bool.{Bool, true, false, cond}
use native.Mathlib.Omega.{arith}
use lib.ListN.{length}
use lib.Dec.{eqb}
use Rattle.word.specs.Bytes.{padding}
use Rattle.write_plan.specs.declared.Packing.{Packing}
use Rattle.write_plan.specs.Films.{film_bytes}
use Rattle.write_plan.specs.Sizes.{block_size, codec_size, frame_size, film_size}
use Rattle.write_plan.specs.Sizes as plan
use Rattle.write_plan.proofs.LengthLaws.{film_length}
use Rattle.turns.specs.declared.Form.TheVariants.{Old}
use Rattle.turns.specs.Chunks.{shape_of, chunk_size}
use Rattle.turns.specs.Turns.{stream_size}
use Rattle.old_film.specs.Films.{old_bytes, old_ends, audio_blocks}
use Rattle.old_film.specs.Finding.{name_size, audios_of}
use Rattle.old_film.proofs.FindLaws.{audio_blocks_length}
use Rattle.film_move.proofs.OldPutLaws.{ends_length}
use Rattle.film_move.proofs.ToLaws.{old_length}

chunk_short : (n : ℕ) → chunk_size Old n ≤ plan.last_size n
unfolding chunk_size shape_of
chunk_short n = by (eqb n 0) where
  by : (t : Bool) → cond t 0 (28 + 0 + n + padding (28 + n)) ≤ cond t 0 (block_size n)
  by true = omega arith
  by false = omega arith

stream_short : (n : ℕ) → stream_size Old n ≤ plan.stream_size n
unfolding stream_size plan.stream_size
stream_short n = let h = chunk_short (n % 0x10000) in omega (arith, h)

codec_some : (codec : Option ℕ) → 0x40 ≤ codec_size codec
codec_some (Some n) = omega arith
codec_some None = omega arith

frame_short : (packing : Packing) → 32 + (0x80 + (length (audio_blocks 0 (audios_of packing.audio [])) + length (old_ends (audios_of packing.audio [])))) ≤ frame_size packing
frame_short packing = by packing.audio where
  by : (t : Bool) → 32 + (0x80 + (length (audio_blocks 0 (audios_of t [])) + length (old_ends (audios_of t []))))
      ≤ cond t (codec_size packing.mpeg_codec + codec_size packing.audio_codec + 8 * 0x40) (codec_size packing.mpeg_codec + 4 * 0x40)
  by true = omega (arith, audio_blocks_length true [], ends_length true, codec_some packing.mpeg_codec, codec_some packing.audio_codec)
  by false = omega (arith, audio_blocks_length false [], ends_length false, codec_some packing.mpeg_codec)

name_short : (n : ℕ) → name_size n ≤ 32 + block_size (54 + n)
name_short n = omega arith

pub old_short : (name video sound : List ℕ) (packing : Packing) → (packing.audio ≡ false → sound ≡ [])
    → length (old_bytes name video (audios_of packing.audio sound)) ≤ length (film_bytes name video sound packing)
unfolding film_size
old_short name video sound packing silent =
    omega (arith, old_length name video packing.audio sound silent, film_length name video sound packing, name_short (length name), frame_short packing, stream_short (length video), stream_short (length sound))
