-- The walk over the chunks of a written film: payloads by turns, each with the bytes that it was made of, and then the ends. Assumes nothing.
use Rattle.std.specs.Prelude.{Option}
use Prim.Native.Nat.{ℕ, ◌+◌, ◌-◌, ◌≤◌, ◌<◌}
use mathlib.Core.Path.{◌≡◌, refl, sym, ap, ap₂, ◌∙◌}
use mathlib.Core.List.{List, [], ◌∷◌, ◌++◌, map, append_assoc, append-nil}
use mathlib.Core.Bool.{Bool, true, false, cond}
use native.Mathlib.Omega.{arith}
use lib.ListN.{length, length-append}
use borrow.Author.Tests.{lt-ltb}
use Rattle.signature.specs.Signatures.{contents_end, stands_at}
use Rattle.part.specs.Parts.{part_at}
use Rattle.reading.specs.declared.Applied.{Applied}
use Rattle.chunk.specs.declared.Chunk.{Chunk}
use Rattle.chunk.specs.Chunks.{chunk_at}
use Rattle.walk.specs.Walks.{Walk, clean, onto, walk_from, joined}
use Rattle.walk.proofs.WalkLaws.{walk_found, walk_over}
use Rattle.mask.specs.Video.{unmasked_video}
use Rattle.mask.specs.Audio.{masked_audio}
use Rattle.unmasking.specs.declared.Unmasking.{Unmasking}
use Rattle.unmasking.specs.Unmasking.{is_masked, unmasking_of, clear_video, clear_audio}
use Rattle.extract.specs.Streams.{video_part, audio_part, video_piece, audio_piece}
use Rattle.extract.proofs.StreamLaws.{joined_append}
use Rattle.laws.specs.Lists.{tab}
use Rattle.write_blocks.specs.Blocks.{block_of}
use Rattle.write_blocks.specs.Tables.{marker_of}
use Rattle.write_plan.specs.declared.Stream.{Stream}
use Rattle.write_plan.specs.declared.Stream.TheVariants.{Video, Audio}
use Rattle.write_plan.specs.Payloads.{stored_as}
use Rattle.write_plan.specs.Films.{Block, bytes_of, letters_of, block_in, in_each}
use Rattle.write_plan.specs.Sizes.{block_size}
use Rattle.write_plan.proofs.LengthLaws.{block_length}
use Rattle.write_plan.proofs.PayloadLaws.{stored_length}
use Rattle.promises_write.specs.Listing.{Line, kind_for, payload_line, end_line, end_lines, chunk_in, chunks_from}
use Rattle.promises_write.proofs.FromLaws.{From, from_next, from_as, left_is}
use Rattle.promises_write.proofs.ChunkReadLaws.{Takes, chunk_found, chunk_payload, end_found}
use Rattle.promises_write.proofs.MaskLaws.{undone}

-- a payload and its stream
pub record Item : Type 0 where
  pub stream : Stream
  pub payload : List ℕ

abbrev pub line_of : Item → Line
line_of item = payload_line item.stream item.payload

abbrev pub block_for : Unmasking → Item → Block
block_for by item = block_in item.stream (stored_as by item.stream item.payload)

-- it can be written, and is taken
pub record Good (applied : Applied) (item : Item) : Type 0 where
  pub some : 0 < length item.payload
  pub few : length item.payload ≤ 0x10000
  pub unmarked : stands_at contents_end item.payload 0 ≡ false
  pub taken : Takes applied item.stream

pub data AllGood (applied : Applied) : List Item → Type 0 where
  none : AllGood applied []
  one : {item : Item} {items : List Item} → Good applied item → AllGood applied items → AllGood applied (item ∷ items)

-- ---- what a chunk gives to a stream

abbrev pub piece_in : Stream → List ℕ → Unmasking → Chunk → List ℕ
piece_in Video container by = video_piece container by
piece_in Audio container by = audio_piece container by

-- what an item gives
abbrev pub share : Stream → Item → List ℕ
share Video item = video_part (kind_for item.stream) item.payload
share Audio item = audio_part (kind_for item.stream) item.payload

unfoldable pub shares : Stream → List Item → List ℕ
shares stream [] = []
shares stream (item ∷ items) = share stream item ++ shares stream items

nothing : (t : Bool) (bytes : List ℕ) → bytes ≡ [] → cond t bytes [] ≡ []
nothing true bytes e = e
nothing false bytes e = refl

no_video : (by : Unmasking) → clear_video by 0 [] ≡ []
unfolding unmasked_video
no_video by = nothing (is_masked by.video 0) (unmasked_video by.keys []) refl

no_audio : (by : Unmasking) → clear_audio by 0 [] ≡ []
unfolding masked_audio tab
no_audio by = nothing (is_masked by.audio 0) (masked_audio by.keys []) refl

module _ (key : Option ℕ) (codec : Option ℕ) (s : List ℕ) where
  abbrev by : Unmasking
  by = unmasking_of key codec

  piece_is : (stream other : Stream) (c : ℕ) (payload : List ℕ) → part_at s (c + 0x20) (length payload) ≡ stored_as by other payload
      → piece_in stream s by (chunk_in c (payload_line other payload)) ≡ share stream (record { stream = other; payload = payload })
  piece_is Video Video c payload e = ap (clear_video by 0) e ∙ undone key codec Video payload
  piece_is Video Audio c payload e = no_video by
  piece_is Audio Video c payload e = no_audio by
  piece_is Audio Audio c payload e = ap (clear_audio by 0) e ∙ undone key codec Audio payload

  end_piece : (stream : Stream) (c : ℕ) → piece_in stream s by (chunk_in c end_line) ≡ []
  end_piece Video c = no_video by
  end_piece Audio c = no_audio by

  -- ---- the walk

  module _ (applied : Applied) where
    -- a walk with chunks before it
    abbrev pub after : List Chunk → Walk → Walk
    after chunks walk = record { chunks = chunks ++ walk.chunks; ending = walk.ending }

    -- from p on stand these lines, up to q, and each stream takes its share of them
    unfoldable end_from : ℕ → List Line → ℕ
    end_from p [] = p
    end_from p (line ∷ lines) = end_from (p + line.size) lines

    from_append : (p : ℕ) (some others : List Line) → chunks_from p (some ++ others) ≡ chunks_from p some ++ chunks_from (end_from p some) others
    unfolding chunks_from end_from
    from_append p [] others = refl
    from_append p (line ∷ some) others = ap (λ (l : List Chunk). chunk_in p line ∷ l) (from_append (p + line.size) some others)

    record Walked (p q : ℕ) (lines : List Line) (taken : Stream → List ℕ) : Type 0 where
      pub walk : walk_from s applied p ≡ after (chunks_from p lines) (walk_from s applied q)
      pub pieces : (stream : Stream) → joined (piece_in stream s by) (chunks_from p lines) ≡ taken stream
      pub ends : q ≡ end_from p lines

    items_walked : (items : List Item) → AllGood applied items → (p : ℕ) (rest : List ℕ) → From s p (bytes_of (map (block_for by) items) ++ rest)
        → (q : ℕ) → q ≡ p + length (bytes_of (map (block_for by) items)) → Walked p q (map line_of items) (λ stream. shares stream items)
    unfolding bytes_of chunks_from end_from joined shares
    items_walked [] none p rest f q e = let z : q ≡ p = omega arith in rw z (record { walk = refl; pieces = λ stream. refl; ends = refl })
    items_walked (item ∷ items) (one g gs) p rest f q e =
        let held = stored_as by item.stream item.payload in
        let blocks = bytes_of (map (block_for by) items) in
        let f₁ : From s p (block_of (letters_of item.stream) held ++ (blocks ++ rest)) = from_as f refl (append_assoc (block_of (letters_of item.stream) held) blocks rest) in
        let size : length (block_of (letters_of item.stream) held) ≡ block_size (length item.payload) =
        block_length (letters_of item.stream) held ∙ ap block_size (stored_length by item.stream item.payload) in
        let f₂ : From s (p + block_size (length item.payload)) (blocks ++ rest) =
        from_as (from_next (block_of (letters_of item.stream) held) (blocks ++ rest) f₁) (ap (λ (n : ℕ). p + n) size) refl in
        let more = items_walked items gs (p + block_size (length item.payload)) rest f₂ q (omega (arith, size, length-append (block_of (letters_of item.stream) held) blocks)) in
        record {
          walk = walk_found s applied p (chunk_in p (line_of item)) (chunk_found by item.stream item.payload (blocks ++ rest) f₁ g.some g.few applied g.taken g.unmarked) ∙ ap (onto (chunk_in p (line_of item))) more.walk;
          pieces = λ stream. ap₂ (λ (a b : List ℕ). a ++ b) (piece_is stream item.stream p item.payload (chunk_payload by item.stream item.payload (blocks ++ rest) f₁ g.some g.few)) (more.pieces stream);
          ends = more.ends;
        }

    -- ---- the ends, and then the container's end

    over_at : (p : ℕ) → From s p [] → walk_from s applied p ≡ record { chunks = []; ending = clean }
    unfolding chunk_at
    over_at p f = walk_over s applied p (rw (lt-ltb (length s - p) 4 (omega (arith, left_is f))))

    -- an end, and what comes after it
    end_walked : (stream : Stream) (more : List ℕ) (p : ℕ) → From s p (block_of (letters_of stream) (marker_of contents_end) ++ more)
        → (walk_from s applied p ≡ onto (chunk_in p end_line) (walk_from s applied (p + 0x40))) × From s (p + 0x40) more
    end_walked stream more p f = (
      walk_found s applied p (chunk_in p end_line) (end_found stream more f applied),
      from_as (from_next (block_of (letters_of stream) (marker_of contents_end)) more f) (ap (λ (n : ℕ). p + n) (block_length (letters_of stream) (marker_of contents_end))) refl,
    )

    ends_walked : (audio : Bool) (p : ℕ) → From s p (bytes_of (in_each audio (λ stream. marker_of contents_end)))
        → walk_from s applied p ≡ record { chunks = chunks_from p (end_lines audio); ending = clean }
    unfolding bytes_of chunks_from
    ends_walked false p f =
        let v = end_walked Video [] p f in
        v.0 ∙ ap (onto (chunk_in p end_line)) (over_at (p + 0x40) v.1)
    ends_walked true p f =
        let v = end_walked Video (block_of (letters_of Audio) (marker_of contents_end) ++ []) p f in
        let a = end_walked Audio [] (p + 0x40) v.1 in
        v.0 ∙ ap (onto (chunk_in p end_line)) (a.0 ∙ ap (onto (chunk_in (p + 0x40) end_line)) (over_at (p + 0x40 + 0x40) a.1))

    ends_pieces : (audio : Bool) (p : ℕ) (stream : Stream) → joined (piece_in stream s by) (chunks_from p (end_lines audio)) ≡ []
    unfolding chunks_from joined
    ends_pieces false p stream = ap (λ (l : List ℕ). l ++ []) (end_piece stream p)
    ends_pieces true p stream = ap₂ (λ (a b : List ℕ). a ++ (b ++ [])) (end_piece stream p) (end_piece stream (p + 0x40))

    -- ---- all chunks

    module _ (items : List Item) (good : AllGood applied items) (audio : Bool) (p : ℕ)
        (f : From s p (bytes_of (map (block_for by) items) ++ bytes_of (in_each audio (λ stream. marker_of contents_end)))) where
      abbrev last : ℕ
      last = p + length (bytes_of (map (block_for by) items))

      first : Walked p last (map line_of items) (λ stream. shares stream items)
      first = items_walked items good p (bytes_of (in_each audio (λ stream. marker_of contents_end))) f last refl

      all-chunks : chunks_from p (map line_of items ++ end_lines audio) ≡ chunks_from p (map line_of items) ++ chunks_from last (end_lines audio)
      all-chunks = from_append p (map line_of items) (end_lines audio) ∙ ap (λ (q : ℕ). chunks_from p (map line_of items) ++ chunks_from q (end_lines audio)) (sym first.ends)

      pub film-walked : walk_from s applied p ≡ record { chunks = chunks_from p (map line_of items ++ end_lines audio); ending = clean }
      film-walked =
          first.walk ∙ ap (after (chunks_from p (map line_of items))) (ends_walked audio last (from_next (bytes_of (map (block_for by) items)) (bytes_of (in_each audio (λ stream. marker_of contents_end))) f))
          ∙ ap (λ (chunks : List Chunk). record { chunks = chunks; ending = clean }) (sym all-chunks)

      pub film-pieces : (stream : Stream) → joined (piece_in stream s by) (chunks_from p (map line_of items ++ end_lines audio)) ≡ shares stream items
      film-pieces stream =
          ap (joined (piece_in stream s by)) all-chunks ∙ joined_append (piece_in stream s by) (chunks_from p (map line_of items)) (chunks_from last (end_lines audio))
          ∙ ap₂ (λ (a b : List ℕ). a ++ b) (first.pieces stream) (ends_pieces audio last stream) ∙ append-nil (shares stream items)
