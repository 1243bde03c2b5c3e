-- The chunks of a written film break no rule: each has header size 0x18 and a size that is a multiple of 0x20, payloads stand before the ends, and there is one
-- end for each stream. Assumes nothing.
use Prim.Native.Nat.{ℕ, ◌+◌, ◌%◌, ◌≤◌, ◌<◌, ◌^◌}
use mathlib.Core.Path.{◌≡◌, refl, ap, ◌∙◌}
use mathlib.Core.List.{List, [], ◌∷◌, ◌++◌, map, append_assoc}
use mathlib.Core.Bool.{Bool, true, false}
use native.Mathlib.Omega.{arith}
use lib.ListN.{length, length-append}
use borrow.Author.Tests.{eq-eqb}
use Rattle.word.specs.Numbers.{be16, be32}
use Rattle.signature.specs.Signatures.{contents_end}
use Rattle.reading.specs.declared.Applied.{Applied}
use Rattle.chunk.specs.declared.Chunk.{Chunk}
use Rattle.unmasking.specs.declared.Unmasking.{Unmasking}
use Rattle.write_blocks.specs.Blocks.{block_of}
use Rattle.write_blocks.specs.Tables.{marker_of}
use Rattle.write_plan.specs.declared.Stream as made
use Rattle.write_plan.specs.declared.Stream.TheVariants.{Video, Audio}
use Rattle.write_plan.specs.Payloads.{stored_as}
use Rattle.write_plan.specs.Films.{bytes_of, letters_of, in_each}
use Rattle.write_plan.specs.Sizes.{block_size}
use Rattle.write_plan.proofs.LengthLaws.{block_length}
use Rattle.write_plan.proofs.PayloadLaws.{stored_length}
use Rattle.promises_write.specs.Listing.{Line, kind_for, end_line, end_lines, chunk_in, chunks_from}
use Rattle.promises_write.proofs.FromLaws.{From, from_next, from_as, be16_is}
use Rattle.promises_write.proofs.BlockReadLaws.{block, letters_is, size_is, header_read}
use Rattle.promises_write.proofs.WalkBackLaws.{Item, line_of, block_for, AllGood, none, one}
use Rattle.profile.specs.declared.Stream.{Stream}
use Rattle.profile.specs.declared.Streams.{Streams}
use Rattle.profile.specs.Streams.{is_closed, is_known, stream_of, first_of, after_end, after_kind}
use Rattle.profile.specs.Profiles.{plain, broken_by, letters_at, judged_at, judged}

letters_fit : (stream : made.Stream) → letters_of stream < 2 ^ 32
letters_fit Video = omega arith
letters_fit Audio = omega arith

letters_known : (stream : made.Stream) → is_known (letters_of stream) ≡ true
letters_known Video = refl
letters_known Audio = refl

-- a chunk that passes the four tests breaks no rule
none_broken : (s : List ℕ) (p letters : ℕ) (stream : Stream) → be16 s (p + 8) ≡ 0x18 → (be32 s (p + 4) + 8) % 0x20 ≡ 0 → is_closed stream ≡ false → is_known letters ≡ true
    → broken_by s p letters stream ≡ plain
unfolding broken_by
none_broken s p letters stream header size unclosed known = rw (eq-eqb (be16 s (p + 8)) 0x18 header, eq-eqb ((be32 s (p + 4) + 8) % 0x20) 0 size, unclosed, known)

-- a block of a stream that is not closed breaks no rule
module _ (stream : made.Stream) (inside more : List ℕ) {s : List ℕ} {p : ℕ} (f : From s p (block (letters_of stream) inside more)) (k : length inside ≤ 0x10000) where
  its_letters : be32 s p ≡ letters_of stream
  its_letters = letters_is (letters_of stream) inside more f (letters_fit stream) (omega arith)

  block_plain : (streams : Streams) (line : Line) → is_closed (stream_of streams (letters_of stream)) ≡ false → judged_at s streams (chunk_in p line) ≡ plain
  block_plain streams line unclosed =
      let size = size_is (letters_of stream) inside more f (letters_fit stream) (omega arith) in
      let header : be16 s (p + 8) ≡ 0x18 = be16_is f (p + 8) 8 refl ∙ header_read (letters_of stream) inside more in
      rw its_letters (none_broken s p (letters_of stream) (stream_of streams (letters_of stream)) header (omega (arith, size)) unclosed (letters_known stream))

-- a chunk that breaks no rule leaves the verdict to those after it
one_judged : (s : List ℕ) (streams : Streams) (chunk : Chunk) (chunks : List Chunk) → judged_at s streams chunk ≡ plain
    → judged s streams (chunk ∷ chunks) ≡ judged s (after_kind streams chunk.kind (letters_at s chunk)) chunks
unfolding judged
one_judged s streams chunk chunks e = rw e

-- ---- payloads

first_unclosed : (audio : Bool) (stream : made.Stream) → is_closed (stream_of (first_of audio) (letters_of stream)) ≡ false
unfolding stream_of first_of
first_unclosed true Video = refl
first_unclosed true Audio = refl
first_unclosed false Video = refl
first_unclosed false Audio = refl

payload_closes_none : (streams : Streams) (stream : made.Stream) (letters : ℕ) → after_kind streams (kind_for stream) letters ≡ streams
payload_closes_none streams Video letters = refl
payload_closes_none streams Audio letters = refl

module _ (by : Unmasking) (s : List ℕ) (applied : Applied) (audio : Bool) where
  items_plain : (items : List Item) → AllGood applied items → (p : ℕ) (rest : List ℕ) → From s p (bytes_of (map (block_for by) items) ++ rest) → (lines : List Line)
      → (q : ℕ) → q ≡ p + length (bytes_of (map (block_for by) items))
      → judged s (first_of audio) (chunks_from p (map line_of items ++ lines)) ≡ judged s (first_of audio) (chunks_from q lines)
  unfolding bytes_of chunks_from
  items_plain [] none p rest f lines q e = let z : q ≡ p = omega arith in rw z
  items_plain (item ∷ items) (one g gs) p rest f lines q e =
      let stream = item.stream in
      let held = stored_as by stream item.payload in
      let blocks = bytes_of (map (block_for by) items) in
      let long = stored_length by stream item.payload in
      let f₁ : From s p (block (letters_of stream) held (blocks ++ rest)) = from_as f refl (append_assoc (block_of (letters_of stream) held) blocks rest) in
      let size : length (block_of (letters_of stream) held) ≡ block_size (length item.payload) = block_length (letters_of stream) held ∙ ap block_size long in
      let f₂ : From s (p + block_size (length item.payload)) (blocks ++ rest) =
      from_as (from_next (block_of (letters_of stream) held) (blocks ++ rest) f₁) (ap (λ (n : ℕ). p + n) size) refl in
      let chunk = chunk_in p (line_of item) in
      let more = chunks_from (p + block_size (length item.payload)) (map line_of items ++ lines) in
      one_judged s (first_of audio) chunk more
      (block_plain stream held (blocks ++ rest) f₁ (omega (arith, long, g.few)) (first_of audio) (line_of item) (first_unclosed audio stream))
      ∙ ap (λ (streams : Streams). judged s streams more) (payload_closes_none (first_of audio) stream (letters_at s chunk))
      ∙ items_plain items gs (p + block_size (length item.payload)) rest f₂ lines q (omega (arith, size, length-append (block_of (letters_of stream) held) blocks))

  -- ---- ends

  -- an end, and what comes after it
  end_plain : (stream : made.Stream) (streams : Streams) (more : List ℕ) (p : ℕ) (chunks : List Chunk) → From s p (block (letters_of stream) (marker_of contents_end) more)
      → is_closed (stream_of streams (letters_of stream)) ≡ false
      → (judged s streams (chunk_in p end_line ∷ chunks) ≡ judged s (after_end streams (letters_of stream)) chunks) × From s (p + 0x40) more
  end_plain stream streams more p chunks f unclosed = (
    one_judged s streams (chunk_in p end_line) chunks (block_plain stream (marker_of contents_end) more f (omega arith) streams end_line unclosed)
        ∙ ap (λ (letters : ℕ). judged s (after_end streams letters) chunks) (its_letters stream (marker_of contents_end) more f (omega arith)),
    from_as (from_next (block_of (letters_of stream) (marker_of contents_end)) more f) (ap (λ (n : ℕ). p + n) (block_length (letters_of stream) (marker_of contents_end))) refl,
  )

  ends_plain : (t : Bool) (p : ℕ) → From s p (bytes_of (in_each t (λ stream. marker_of contents_end))) → judged s (first_of t) (chunks_from p (end_lines t)) ≡ plain
  unfolding bytes_of chunks_from judged first_of after_end stream_of
  ends_plain false p f = (end_plain Video (first_of false) [] p [] f refl).0
  ends_plain true p f =
      let v = end_plain Video (first_of true) (block_of (letters_of Audio) (marker_of contents_end) ++ []) p (chunk_in (p + 0x40) end_line ∷ []) f refl in
      v.0 ∙ (end_plain Audio (after_end (first_of true) (letters_of Video)) [] (p + 0x40) [] v.1 refl).0

  -- ---- all chunks

  pub film_plain : (items : List Item) → AllGood applied items → (p : ℕ) → From s p (bytes_of (map (block_for by) items) ++ bytes_of (in_each audio (λ stream. marker_of contents_end)))
      → judged s (first_of audio) (chunks_from p (map line_of items ++ end_lines audio)) ≡ plain
  film_plain items good p f =
      let ends = bytes_of (in_each audio (λ stream. marker_of contents_end)) in
      let last = p + length (bytes_of (map (block_for by) items)) in
      items_plain items good p ends f (end_lines audio) last refl ∙ ends_plain audio last (from_next (bytes_of (map (block_for by) items)) ends f)
