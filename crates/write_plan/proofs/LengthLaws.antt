-- How long blocks, chunks and films are. Assumes nothing.
use Rattle.std.specs.Prelude.{Option, Some, None}
use Prim.Native.Nat.{ℕ, zero, suc, ◌+◌, ◌-◌, ◌*◌, ◌/◌, ◌%◌, ◌≤◌, ◌<◌}
use mathlib.Core.Path.{◌≡◌, refl, sym, ap, ap₂, ◌∙◌}
use mathlib.Core.List.{List, [], ◌∷◌, ◌++◌, map, append-nil}
use mathlib.Core.Bool.{Bool, true, false, cond}
use mathlib.Core.Logic.{⊎_elim}
use native.Mathlib.Omega.{arith}
use lib.ListN.{length, take, drop, length-append, length-drop, length-replicate}
use lib.Seq.{length-take-le, take_all}
use borrow.Author.Tests.{ne_eqb}
use Rattle.laws.proofs.Side.{side}
use Rattle.signature.specs.Signatures.{CRID, SFV, SFA, header_end, metadata_end, contents_end, mpeg_codec, audio_codec}
use Rattle.unmasking.specs.declared.Unmasking.{Unmasking}
use Rattle.unmasking.specs.Unmasking.{unmasking_of}
use Rattle.word.specs.Bytes.{zeros, padding}
use Rattle.write_blocks.specs.Blocks.{head_of, block_of}
use Rattle.write_blocks.specs.Tables.{table_head, table_with, marker_of, empty_table, name_table, codec_table}
use Rattle.write_plan.specs.declared.Stream.{Stream}
use Rattle.write_plan.specs.declared.Stream.TheVariants.{Video, Audio}
use Rattle.write_plan.specs.declared.Packing.{Packing}
use Rattle.write_plan.specs.Payloads.{cut, payloads_of, stored_as, by_turns}
use Rattle.write_plan.specs.Films.{Block, bytes_of, letters_of, block_in, in_each, codec_in, header_blocks, chunks_of, chunk_blocks, film_bytes}
use Rattle.write_plan.specs.Sizes.{block_size, codec_size, ends_size, header_size, stream_size, film_size}
use Rattle.write_plan.proofs.PayloadLaws.{stored_length}
use Rattle.write_plan.proofs.BlockLaws.{header_bytes}

-- a list of so many bytes
pub record Long (bytes : List ℕ) (n : ℕ) : Type 0 where
  pub is : length bytes ≡ n

long : (bytes : List ℕ) {n : ℕ} → length bytes ≡ n → Long bytes n
long bytes e = record { is = e }

both : {some others : List ℕ} {m n : ℕ} → Long some m → Long others n → Long (some ++ others) (m + n)
both {some} {others} e f = long (some ++ others) (length-append some others ∙ ap₂ (λ (x y : ℕ). x + y) e.is f.is)

pub head_length : (letters n : ℕ) → length (head_of letters n) ≡ 0x20
unfolding head_of
head_length letters n = refl

pub block_length : (letters : ℕ) (inside : List ℕ) → length (block_of letters inside) ≡ block_size (length inside)
unfolding block_of
block_length letters inside =
    (both (long (head_of letters (length inside)) (head_length letters (length inside)))
    (both (long inside refl) (long (zeros (padding (length inside))) (length-replicate (padding (length inside)) 0)))).is
    ∙ omega arith

pub table_length : (tag : ℕ) (column cell blob : List ℕ) → length (table_with tag column cell blob) ≡ 38 + length cell + length column + length blob
unfolding table_with table_head
table_length tag column cell blob = simp length-append (omega arith)

name_length_lem : (name : List ℕ) → length (name_table name) ≡ 54 + length name
unfolding name_table
name_length_lem name = table_length 0x5B _ _ name ∙ omega arith

-- both columns' names fit the same block
codec_length : (column : List ℕ) → 0 < length column → length column < 0x17 → (letters : ℕ) (codec : Option ℕ) → length (block_of letters (codec_table column codec)) ≡ codec_size codec
unfolding codec_table
codec_length column low high letters (Some n) = block_length letters _ ∙ rw (table_length 0x54 column) (omega arith)
codec_length column low high letters None = block_length letters _

-- ---- a stream

chunk_length : (by : Unmasking) (stream : Stream) (payload : List ℕ) → length (block_of (letters_of stream) (stored_as by stream payload)) ≡ block_size (length payload)
chunk_length by stream payload = block_length (letters_of stream) (stored_as by stream payload) ∙ ap block_size (stored_length by stream payload)

whole_size : (n : ℕ) → 0x10000 ≤ n → stream_size n ≡ 0x10020 + stream_size (n - 0x10000)
unfolding stream_size
whole_size n h =
    let q : n / 0x10000 ≡ suc ((n - 0x10000) / 0x10000) = omega arith in
    let r : n % 0x10000 ≡ (n - 0x10000) % 0x10000 = omega arith in
    rw (q, r) (omega arith)

short_size : (n : ℕ) → 0 < n → n < 0x10000 → stream_size n ≡ block_size n
unfolding stream_size
short_size n h k =
    let q : n / 0x10000 ≡ 0 = omega arith in
    let r : n % 0x10000 ≡ n = omega arith in
    rw (q, r, ne_eqb n 0 (λ e. omega arith)) (omega arith)

module _ (by : Unmasking) (stream : Stream) where
  abbrev laid : List (List ℕ) → List ℕ
  laid payloads = bytes_of (map (λ payload. block_in stream (stored_as by stream payload)) payloads)

  cut_length : (n : ℕ) (bytes : List ℕ) → n ≡ (length bytes + 0xFFFF) / 0x10000 → length (laid (cut n bytes)) ≡ stream_size (length bytes)
  unfolding cut bytes_of stream_size
  cut_length zero bytes e = let z : length bytes ≡ 0 = omega arith in rw z
  cut_length (suc n) bytes e =
      let rest = drop 0x10000 bytes in
      let m : length rest ≡ length bytes - 0x10000 = length-drop 0x10000 bytes in
      let ih : length (laid (cut n rest)) ≡ stream_size (length bytes - 0x10000) = cut_length n rest (rw m (omega arith)) ∙ ap stream_size m in
      (both (long (block_of (letters_of stream) (stored_as by stream (take 0x10000 bytes))) (chunk_length by stream (take 0x10000 bytes))) (long (laid (cut n rest)) ih)).is
      ∙ ⊎_elim
      (λ (b : length bytes < 0x10000).
      let z : length bytes - 0x10000 ≡ 0 = omega arith in
      rw (take_all 0x10000 bytes (omega arith), z) (omega (arith, short_size (length bytes) (omega arith) b)))
      (λ (b : 0x10000 ≤ length bytes). rw (length-take-le 0x10000 bytes b) (sym (whole_size (length bytes) b))) (side (length bytes) 0x10000)

  pub stream_length : (bytes : List ℕ) → length (bytes_of (chunks_of by stream bytes)) ≡ stream_size (length bytes)
  unfolding payloads_of
  stream_length bytes = cut_length ((length bytes + 0xFFFF) / 0x10000) bytes refl

turns_length : (some others : List Block) → length (bytes_of (by_turns some others)) ≡ length (bytes_of some) + length (bytes_of others)
unfolding by_turns bytes_of
turns_length [] others = omega arith
turns_length (first ∷ rest) [] = omega arith
turns_length (first ∷ rest) (other ∷ others) = simp (length-append, turns_length rest others) (omega arith)

pub chunks_length : (by : Unmasking) (video audio : List ℕ) → length (bytes_of (chunk_blocks by video audio)) ≡ stream_size (length video) + stream_size (length audio)
unfolding chunk_blocks
chunks_length by video audio =
    turns_length (chunks_of by Video video) (chunks_of by Audio audio) ∙ ap₂ (λ (x y : ℕ). x + y) (stream_length by Video video) (stream_length by Audio audio)

-- ---- a film

-- the blocks of one kind, by the lengths of theirs
each_long : (audio : Bool) (inside : Stream → List ℕ) {m n : ℕ} → length (block_of SFV (inside Video)) ≡ m → length (block_of SFA (inside Audio)) ≡ n
    → Long (bytes_of (in_each audio inside)) (m + cond audio n 0)
unfolding bytes_of
each_long true inside e f = both (long (block_of SFV (inside Video)) e) (long (block_of SFA (inside Audio) ++ []) (ap length (append-nil (block_of SFA (inside Audio))) ∙ f))
each_long false inside e f = both (long (block_of SFV (inside Video)) e) (long [] refl)

-- 32 bytes, the same for each stream
same_long : (audio : Bool) (inside : List ℕ) → length inside ≡ 0x20 → Long (bytes_of (in_each audio (λ stream. inside))) (0x40 + cond audio 0x40 0)
same_long audio inside e = each_long audio (λ stream. inside) (block_length SFV inside ∙ ap block_size e) (block_length SFA inside ∙ ap block_size e)

module _ (name : List ℕ) (packing : Packing) where
  abbrev blocks_size : ℕ
  blocks_size =
      block_size (54 + length name)
      + ((codec_size packing.mpeg_codec + cond packing.audio (codec_size packing.audio_codec) 0)
      + ((0x40 + cond packing.audio 0x40 0) + ((0x40 + cond packing.audio 0x40 0) + (0x40 + cond packing.audio 0x40 0))))

  header_long : Long (bytes_of (header_blocks name packing)) blocks_size
  header_long =
      long (bytes_of (header_blocks name packing))
      (ap length (header_bytes name packing)
      ∙ (both (long (block_of CRID (name_table name)) (block_length CRID (name_table name) ∙ ap block_size (name_length_lem name)))
      (both
      (each_long packing.audio (codec_in packing) (codec_length mpeg_codec (omega arith) (omega arith) SFV packing.mpeg_codec)
      (codec_length audio_codec (omega arith) (omega arith) SFA packing.audio_codec))
      (both (same_long packing.audio (marker_of header_end) refl)
      (both (same_long packing.audio empty_table refl) (same_long packing.audio (marker_of metadata_end) refl))))).is)

-- the ends of the streams
pub ends_length : (audio : Bool) → length (bytes_of (in_each audio (λ stream. marker_of contents_end))) ≡ ends_size audio
ends_length true = (same_long true (marker_of contents_end) refl).is
ends_length false = (same_long false (marker_of contents_end) refl).is

-- a film's header: all blocks that hold no payload but the ends
header_sum : (audio : Bool) (name video other : ℕ)
    → name + ((video + cond audio other 0) + ((0x40 + cond audio 0x40 0) + ((0x40 + cond audio 0x40 0) + (0x40 + cond audio 0x40 0))))
    ≡ name + (cond audio (video + other + 8 * 0x40) (video + 4 * 0x40) - ends_size audio)
header_sum true name video other = omega arith
header_sum false name video other = omega arith

pub header_length : (name : List ℕ) (packing : Packing) → length (bytes_of (header_blocks name packing)) ≡ header_size (length name) packing
unfolding header_size
header_length name packing =
    (header_long name packing).is
    ∙ header_sum packing.audio (block_size (54 + length name)) (codec_size packing.mpeg_codec) (codec_size packing.audio_codec)

frame_sum : (audio : Bool) (name streams video other : ℕ)
    → name + ((video + cond audio other 0) + ((0x40 + cond audio 0x40 0) + ((0x40 + cond audio 0x40 0) + (0x40 + cond audio 0x40 0)))) + (streams + (0x40 + cond audio 0x40 0))
    ≡ name + cond audio (video + other + 8 * 0x40) (video + 4 * 0x40) + streams
frame_sum true name streams video other = omega arith
frame_sum false name streams video other = omega arith

pub film_length : (name video audio : List ℕ) (packing : Packing) → length (film_bytes name video audio packing) ≡ film_size (length name) (length video) (length audio) packing
unfolding film_bytes film_size
film_length name video audio packing =
    let by = unmasking_of packing.key packing.audio_codec in
    (both (header_long name packing)
    (both (long (bytes_of (chunk_blocks by video audio)) (chunks_length by video audio)) (same_long packing.audio (marker_of contents_end) refl))).is
    ∙ frame_sum packing.audio (block_size (54 + length name)) (stream_size (length video) + stream_size (length audio)) (codec_size packing.mpeg_codec)
    (codec_size packing.audio_codec)
