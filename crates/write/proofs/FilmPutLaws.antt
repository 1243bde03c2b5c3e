-- A header and a film are put block by block: each has room where the whole has, and together they are the whole. Assumes nothing.
use Prim.Native.Nat.{ℕ, ◌+◌, ◌≤◌}
use mathlib.Core.Path.{◌≡◌, sym, subst}
use mathlib.Core.List.{List, ◌++◌}
use native.Mathlib.Omega.{arith}
use lib.ListN.{length, drop, drop_of_length-le}
use lib.Seq.{sets, drop-drop}
use Rattle.laws.specs.Outputs.{Put}
use Rattle.laws.proofs.PutLaws.{Left, all_left, less_left, left_fits, next_fits, none_left, put_then, put_as}
use Rattle.signature.specs.Signatures.{CRID, header_end, metadata_end}
use Rattle.unmasking.specs.declared.Unmasking.{Unmasking}
use Rattle.unmasking.specs.Unmasking.{unmasking_of}
use Rattle.write_blocks.specs.Blocks.{block_of}
use Rattle.write_blocks.specs.Tables.{marker_of, empty_table, name_table}
use Rattle.write_plan.specs.declared.Stream.{Stream}
use Rattle.write_plan.specs.declared.Stream.TheVariants.{Video, Audio}
use Rattle.write_plan.specs.declared.Packing.{Packing}
use Rattle.write_plan.specs.Films.{bytes_of, in_each, codec_in, header_blocks, next_chunk, chunk_blocks, end_blocks, film_bytes}
use Rattle.write_plan.proofs.BlockLaws.{header_bytes}
use Rattle.write_plan.proofs.TurnLaws.{turns_bytes, turns_over}

-- ---- the header

module _ (name : List ℕ) (packing : Packing) (out : List ℕ) (room : length (bytes_of (header_blocks name packing)) ≤ length out) where
  abbrev each : (Stream → List ℕ) → List ℕ
  each inside = bytes_of (in_each packing.audio inside)

  abbrev codecs : List ℕ
  codecs = each (codec_in packing)

  abbrev same : List ℕ → List ℕ
  same inside = each (λ stream. inside)

  abbrev whole : List ℕ
  whole = bytes_of (header_blocks name packing)

  from_name : Left (block_of CRID (name_table name) ++ (codecs ++ (same (marker_of header_end) ++ (same empty_table ++ same (marker_of metadata_end))))) out 0 whole out 0
  from_name = subst (λ (rest : List ℕ). Left rest out 0 whole out 0) (header_bytes name packing) (all_left whole out 0)

  all_fits : 0 + length whole ≤ length out
  all_fits = omega arith

  pub name_fits : 0 + length (block_of CRID (name_table name)) ≤ length out
  name_fits = next_fits (block_of CRID (name_table name)) (codecs ++ (same (marker_of header_end) ++ (same empty_table ++ same (marker_of metadata_end)))) from_name all_fits

  module _ {out₁ : List ℕ} {at₁ : ℕ} (named : Put (block_of CRID (name_table name)) out 0 out₁ at₁) where
    pub codecs_fit : at₁ + length codecs ≤ length out₁
    codecs_fit = next_fits codecs (same (marker_of header_end) ++ (same empty_table ++ same (marker_of metadata_end))) (less_left from_name named) all_fits

    module _ {out₂ : List ℕ} {at₂ : ℕ} (coded : Put codecs out₁ at₁ out₂ at₂) where
      pub ends_fit : at₂ + length (same (marker_of header_end)) ≤ length out₂
      ends_fit = next_fits (same (marker_of header_end)) (same empty_table ++ same (marker_of metadata_end)) (less_left (less_left from_name named) coded) all_fits

      module _ {out₃ : List ℕ} {at₃ : ℕ} (ended : Put (same (marker_of header_end)) out₂ at₂ out₃ at₃) where
        from-tables : Left (same empty_table ++ same (marker_of metadata_end)) out₃ at₃ whole out 0
        from-tables = less_left (less_left (less_left from_name named) coded) ended

        pub tables-fit : at₃ + length (same empty_table) ≤ length out₃
        tables-fit = next_fits (same empty_table) (same (marker_of metadata_end)) from-tables all_fits

        module _ {out₄ : List ℕ} {at₄ : ℕ} (tabled : Put (same empty_table) out₃ at₃ out₄ at₄) where
          pub last_fits : at₄ + length (same (marker_of metadata_end)) ≤ length out₄
          last_fits = left_fits (less_left from-tables tabled) all_fits

          pub header-put : {out₅ : List ℕ} {at₅ : ℕ} → Put (same (marker_of metadata_end)) out₄ at₄ out₅ at₅ → Put whole out 0 out₅ at₅
          header-put last = put_as (put_then named (put_then coded (put_then ended (put_then tabled last)))) (sym (header_bytes name packing))

-- ---- the chunks

module _ (by : Unmasking) (video audio start : List ℕ) (place : ℕ) where
  abbrev chunks_from : ℕ → List ℕ
  chunks_from from = bytes_of (chunk_blocks by (drop from video) (drop from audio))

  abbrev next : Stream → List ℕ → ℕ → List ℕ
  next stream bytes from = bytes_of (next_chunk by stream (drop from bytes))

  -- what is left to put, from a byte of both streams on
  abbrev pub ChunksLeft : List ℕ → ℕ → ℕ → Type 0
  ChunksLeft out at from = Left (chunks_from from) out at (bytes_of (chunk_blocks by video audio)) start place

  module _ (out : List ℕ) (at from : ℕ) (left : ChunksLeft out at from) where
    turn : Left (next Video video from ++ (next Audio audio from ++ chunks_from (from + 0x10000))) out at (bytes_of (chunk_blocks by video audio)) start place
    turn = rw (drop-drop 0x10000 from video, drop-drop 0x10000 from audio) at (rw (turns_bytes by (drop from video) (drop from audio)) at left)

    module _ (room : place + length (bytes_of (chunk_blocks by video audio)) ≤ length start) where
      pub video-fits : at + length (next Video video from) ≤ length out
      video-fits = next_fits (next Video video from) (next Audio audio from ++ chunks_from (from + 0x10000)) turn room

      pub audio-fits : {after : List ℕ} {end : ℕ} → Put (next Video video from) out at after end → end + length (next Audio audio from) ≤ length after
      audio-fits put = next_fits (next Audio audio from) (chunks_from (from + 0x10000)) (less_left turn put) room

    pub turn_put : {after after' : List ℕ} {end end' : ℕ} → Put (next Video video from) out at after end → Put (next Audio audio from) after end after' end'
        → ChunksLeft after' end' (from + 0x10000)
    turn_put put put' = less_left (less_left turn put) put'

    pub chunks_put : length video ≤ from → length audio ≤ from → Put (bytes_of (chunk_blocks by video audio)) start place out at
    chunks_put v a = none_left (rw (turns_over by) at (rw (drop_of_length-le video v, drop_of_length-le audio a) at left))

-- ---- the film

module _ (name video audio : List ℕ) (packing : Packing) (out : List ℕ) (room : length (film_bytes name video audio packing) ≤ length out) where
  abbrev film : List ℕ
  film = film_bytes name video audio packing

  abbrev header : List ℕ
  header = bytes_of (header_blocks name packing)

  abbrev chunks : List ℕ
  chunks = bytes_of (chunk_blocks (unmasking_of packing.key packing.audio_codec) video audio)

  abbrev ends : List ℕ
  ends = bytes_of (end_blocks packing)

  from_header : Left (header ++ (chunks ++ ends)) out 0 film out 0
  unfolding film_bytes
  from_header = all_left film out 0

  film_fits : 0 + length film ≤ length out
  film_fits = omega arith

  pub header_fits : length header ≤ length out
  header_fits = omega (arith, next_fits header (chunks ++ ends) from_header film_fits)

  module _ {out₁ : List ℕ} {at₁ : ℕ} (headed : Put header out 0 out₁ at₁) where
    pub chunks_fit : at₁ + length chunks ≤ length out₁
    chunks_fit = next_fits chunks ends (less_left from_header headed) film_fits

    module _ {out₂ : List ℕ} {at₂ : ℕ} (filled : Put chunks out₁ at₁ out₂ at₂) where
      pub end_fits : at₂ + length ends ≤ length out₂
      end_fits = left_fits (less_left (less_left from_header headed) filled) film_fits

      pub film-put : {out₃ : List ℕ} {at₃ : ℕ} → Put ends out₂ at₂ out₃ at₃ → out₃ ≡ sets out 0 film
      unfolding film_bytes
      film-put ended = (put_then headed (put_then filled ended)).holds
