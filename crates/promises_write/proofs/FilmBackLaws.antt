-- A written film, read: its header, its chunks, and both streams. Assumes nothing.
use Rattle.std.specs.Prelude.{Option, Some, None, Result, Ok}
use Rattle.header.specs.declared.Header.{Header}
use Rattle.refusal.specs.declared.Refusal.{Refusal}
use Prim.Native.Nat.{ℕ, ◌+◌, ◌≤◌, ◌^◌}
use mathlib.Core.Path.{◌≡◌, refl, sym, ap, subst, ◌∙◌}
use mathlib.Core.List.{List, [], ◌∷◌, ◌++◌, map, append_assoc}
use mathlib.Core.Bool.{Bool, true, false, ◌||◌}
use native.Mathlib.Omega.{arith}
use lib.ListN.{length, drop, length-append}
use lib.Seq.{drop-drop, take_at}
use borrow.Author.Tests.{le-leb, ne_eqb}
use Rattle.part.specs.Parts.{part_at}
use Rattle.signature.specs.Signatures.{CRID, SFV, SFA, header_end, metadata_end, contents_end, filename, mpeg_codec, audio_codec}
use Rattle.reading.specs.declared.Reading.{Reading}
use Rattle.reading.specs.declared.Applied.{Applied}
use Rattle.reading.specs.Choices.{takes_channel, applied_to}
use Rattle.unmasking.specs.declared.Unmasking.{Unmasking}
use Rattle.unmasking.specs.Unmasking.{unmasking_of}
use Rattle.header.specs.Headers.{header_of}
use Rattle.chunk.specs.declared.Chunk.{Chunk}
use Rattle.walk.specs.Walks.{clean, walk_from, joined}
use Rattle.film.specs.Films.{film, film_from, film_of}
use Rattle.extract.specs.Streams.{video_stream, audio_stream}
use Rattle.word.specs.Bytes.{bytes32, zeros, padding}
use Rattle.write_blocks.specs.Blocks.{block_of}
use Rattle.write_blocks.specs.Tables.{marker_of, empty_table, table_head, table_with, name_table, codec_table}
use Rattle.write_plan.specs.declared.Stream.{Stream}
use Rattle.write_plan.specs.declared.Stream.TheVariants.{Video, Audio}
use Rattle.write_plan.specs.declared.Packing.{Packing}
use Rattle.write_plan.specs.Payloads.{payloads_of}
use Rattle.write_plan.specs.Films.{Block, bytes_of, in_each, codec_in, header_blocks, chunk_blocks, end_blocks, film_bytes}
use Rattle.write_plan.specs.Planning.{is_given, any_marked}
use Rattle.write_plan.proofs.BlockLaws.{header_bytes}
use Rattle.write_plan.proofs.LengthLaws.{table_length}
use Rattle.write_plan.proofs.PlanLaws.{Accepted}
use Rattle.write_plan.proofs.SizeLaws.{film_holds}
use Rattle.promises_write.specs.Listing.{Line, end_lines, lines_of, chunks_from}
use Rattle.promises_write.specs.Promises.{CodecFits, name_start, header_back}
use Rattle.promises_write.proofs.FromLaws.{From, from_start, from_as}
use Rattle.promises_write.proofs.BlockReadLaws.{block, inside_read, block_long}
use Rattle.promises_write.proofs.WalkBackLaws.{line_of, block_for, AllGood, piece_in, shares, film-walked, film-pieces}
use Rattle.promises_write.proofs.StreamBackLaws.{items, blocks_are, lines_are, video_back, audio_back, both_good, video_good}
use Rattle.promises_write.proofs.HeaderBackLaws.{Reads, video_reads, audio_reads}

-- ---- the header's blocks, one after the other

module _ (name : List ℕ) (packing : Packing) (rest : List ℕ) where
  abbrev marked : ℕ → List ℕ → List ℕ → List ℕ
  marked letters marker more = block letters (marker_of marker) more

  abbrev tabled : ℕ → List ℕ → List ℕ
  tabled letters more = block letters empty_table more

  abbrev front : List ℕ → List ℕ
  front more = block CRID (name_table name) (block SFV (codec_table mpeg_codec packing.mpeg_codec) more)

  video_flat : packing.audio ≡ false → bytes_of (header_blocks name packing) ++ rest ≡ front (marked SFV header_end (tabled SFV (marked SFV metadata_end rest)))
  unfolding header_blocks bytes_of
  video_flat e = rw e (simp append_assoc)

  audio_flat : packing.audio ≡ true
      → bytes_of (header_blocks name packing) ++ rest
      ≡ front
      (block SFA (codec_table audio_codec packing.audio_codec)
      (marked SFV header_end (marked SFA header_end (tabled SFV (tabled SFA (marked SFV metadata_end (marked SFA metadata_end rest)))))))
  unfolding header_blocks bytes_of
  audio_flat e = rw e (simp append_assoc)

-- ---- the name's bytes

module _ (name more : List ℕ) where
  abbrev first : List ℕ
  first = block CRID (name_table name) more

  abbrev after : List ℕ
  after = zeros (padding (length (name_table name))) ++ more

  name_held : drop 86 first ≡ name ++ after
  unfolding name_table table_with table_head
  name_held = sym (drop-drop 54 32 first) ∙ ap (drop 54) (inside_read CRID (name_table name) more)

  name_long : 86 + length name ≤ length first
  unfolding name_table
  name_long = omega (arith, block_long CRID (name_table name) more, table_length 0x5B filename (bytes32 0 ++ bytes32 (length name)) name)

  pub part_held : part_at first 86 (length name) ≡ name
  part_held = rw (le-leb (86 + length name) (length first) name_long, name_held) (take_at name after (length name) refl)

nothing_held : (bytes : List ℕ) → part_at bytes 0 0 ≡ []
nothing_held bytes = rw (le-leb 0 (length bytes) (omega arith))

name_part : (name more : List ℕ) → part_at (block CRID (name_table name) more) (name_start name) (length name) ≡ name
name_part [] more = nothing_held (block CRID (name_table []) more)
name_part (byte ∷ name) more = rw (ne_eqb (length (byte ∷ name)) 0 (λ e. omega arith)) (part_held (byte ∷ name) more)

-- ---- a film that was accepted

absent : (codec : Option ℕ) → is_given codec ≡ false → codec ≡ None
absent (Some n) e = let z : ◌≡◌ {A = ℕ} 0 1 = cc in absurd (omega arith)
absent None e = refl

reads_as : {s rest name : List ℕ} {how : Reading} {answer : Result Header Refusal} {mpeg other other' : Option ℕ} {audio audio' : Bool} → Reads s how answer name mpeg audio other rest → audio ≡ audio'
    → other ≡ other' → Reads s how answer name mpeg audio' other' rest
reads_as r e f = rw (e, f) at r

module _ (name video audio : List ℕ) (packing : Packing) (n : ℕ) (accepted : Accepted name video audio packing n) (mpeg : CodecFits packing.mpeg_codec) (other : CodecFits packing.audio_codec)
    (silent : packing.audio ≡ false → audio ≡ []) (reading : Reading) (chosen : takes_channel reading.audio 0 ≡ true) where
  abbrev by : Unmasking
  by = unmasking_of packing.key packing.audio_codec

  abbrev pub container : List ℕ
  container = film_bytes name video audio packing

  abbrev pub applied : Applied
  applied = applied_to packing.audio reading

  abbrev rest : List ℕ
  rest = bytes_of (chunk_blocks by video audio) ++ bytes_of (end_blocks packing)

  name_few : length name ≤ 2 ^ 30
  name_few = omega (arith, accepted.within, film_holds name video audio packing)

  -- ---- its header

  whole_is : container ≡ bytes_of (header_blocks name packing) ++ rest
  unfolding film_bytes
  whole_is = refl

  no_codec : packing.audio ≡ false → packing.audio_codec ≡ None
  no_codec e = absent packing.audio_codec (rw e at accepted.given)

  header_reads : (t : Bool) → packing.audio ≡ t → Reads container reading (header_of container reading) name packing.mpeg_codec packing.audio packing.audio_codec rest
  header_reads false e =
      reads_as
      (video_reads container reading name packing.mpeg_codec name_few mpeg rest (from_as (from_start container) refl (whole_is ∙ video_flat name packing rest e)) accepted.within) (sym e)
      (sym (no_codec e))
  header_reads true e =
      reads_as
      (audio_reads container reading name packing.mpeg_codec name_few mpeg rest packing.audio_codec other
      (from_as (from_start container) refl (whole_is ∙ audio_flat name packing rest e)) accepted.within) (sym e) refl

  reads : Reads container reading (header_of container reading) name packing.mpeg_codec packing.audio packing.audio_codec rest
  reads = header_reads packing.audio refl

  abbrev pub start : ℕ
  start = length (bytes_of (header_blocks name packing))

  start_is : reads.start ≡ start
  start_is = omega (arith, reads.from.ends, ap length whole_is, length-append (bytes_of (header_blocks name packing)) rest)

  pub header_is : header_of container reading ≡ Ok (header_back name packing start)
  header_is = reads.is ∙ ap (λ (p : ℕ). Ok (header_back name packing p)) start_is

  -- ---- its chunks

  pub chunks_from_lem : From container start (bytes_of (map (block_for by) (items video audio)) ++ bytes_of (in_each packing.audio (λ stream. marker_of contents_end)))
  chunks_from_lem = from_as reads.from start_is (ap (λ (blocks : List Block). bytes_of blocks ++ bytes_of (end_blocks packing)) (blocks_are by video audio))

  pub good : (t : Bool) → packing.audio ≡ t → AllGood applied (items video audio)
  good true e = both_good applied video audio (ap (λ (b : Bool). takes_channel (applied_to b reading).audio 0) e ∙ chosen) accepted.unmarked
  good false e =
      subst (λ (a : List ℕ). AllGood applied (items video a)) (sym (silent e))
      (video_good applied video (subst (λ (a : List ℕ). (any_marked (payloads_of video) || any_marked (payloads_of a)) ≡ false) (silent e) accepted.unmarked))

  abbrev pub chunks : List Chunk
  chunks = chunks_from start (lines_of video audio packing.audio)

  pub chunks_are : chunks_from start (map line_of (items video audio) ++ end_lines packing.audio) ≡ chunks
  chunks_are = ap (λ (lines : List Line). chunks_from start (lines ++ end_lines packing.audio)) (sym (lines_are video audio))

  walked : walk_from container applied start ≡ record { chunks = chunks; ending = clean }
  walked =
      film-walked packing.key packing.audio_codec container applied (items video audio) (good packing.audio refl) packing.audio start chunks_from_lem
      ∙ ap (λ (c : List Chunk). record { chunks = c; ending = clean }) chunks_are

  pub film_is : film_of container reading ≡ film (header_back name packing start) applied chunks
  unfolding film_of film_from
  film_is = rw (header_is, walked)

  stream_is : (stream : Stream) → joined (piece_in stream container by) chunks ≡ shares stream (items video audio)
  stream_is stream =
      ap (joined (piece_in stream container by)) (sym chunks_are)
      ∙ film-pieces packing.key packing.audio_codec container applied (items video audio) (good packing.audio refl) packing.audio start chunks_from_lem stream

  pub video_is : video_stream container by chunks ≡ video
  video_is = stream_is Video ∙ video_back video audio

  pub audio_is : audio_stream container by chunks ≡ audio
  audio_is = stream_is Audio ∙ audio_back video audio

  -- ---- its name

  pub name_is : part_at container (name_start name) (length name) ≡ name
  name_is =
      let more = bytes_of (in_each packing.audio (codec_in packing)) ++ (bytes_of (in_each packing.audio (λ stream. marker_of header_end))
      ++ (bytes_of (in_each packing.audio (λ stream. empty_table)) ++ bytes_of (in_each packing.audio (λ stream. marker_of metadata_end)))) in
      let e : container ≡ block CRID (name_table name) (more ++ rest) =
      whole_is ∙ ap (λ (l : List ℕ). l ++ rest) (header_bytes name packing) ∙ append_assoc (block_of CRID (name_table name)) more rest in
      ap (λ (l : List ℕ). part_at l (name_start name) (length name)) e ∙ name_part name (more ++ rest)
