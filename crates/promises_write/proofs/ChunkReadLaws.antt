-- A chunk that was written, as the walk finds it: with its payload, or as an end. Assumes nothing.
use Rattle.std.specs.Prelude.{Some, Ok}
use Prim.Native.Nat.{ℕ, zero, suc, ◌+◌, ◌-◌, ◌≤◌, ◌<◌}
use mathlib.Core.Path.{◌≡◌, refl, sym, ap, ◌∙◌}
use mathlib.Core.List.{List, [], ◌∷◌, ◌++◌}
use mathlib.Core.Bool.{true, false, and-false}
use mathlib.Core.Logic.{⊎_elim}
use native.Mathlib.Omega.{arith}
use lib.ListN.{length, take}
use lib.Seq.{get_or-take, take-append-le, length-take-le, ext_get_or, take_at}
use lib.Dec.{eqb}
use borrow.Author.Tests.{le-ltb, le-leb, ne_eqb, eqb-false}
use Rattle.laws.specs.Lists.{at}
use Rattle.laws.proofs.Side.{side}
use Rattle.laws.proofs.SpliceLaws.{at_right}
use Rattle.word.specs.Numbers.{be32}
use Rattle.signature.specs.Signatures.{contents_end, same_bytes, stands_at}
use Rattle.part.specs.Parts.{part_at}
use Rattle.reading.specs.declared.PayloadMode.{PayloadMode}
use Rattle.reading.specs.declared.PayloadMode.TheVariants.{Original, AfterHeader}
use Rattle.reading.specs.declared.Applied.{Applied}
use Rattle.reading.specs.Choices.{takes_channel}
use Rattle.chunk.specs.declared.Kind.{Kind}
use Rattle.chunk.specs.declared.Kind.TheVariants as kind
use Rattle.chunk.specs.declared.Opening.{Opening}
use Rattle.chunk.specs.Openings.{kind_at, opening_at}
use Rattle.chunk.specs.Chunks.{offset_of, is_short, chunk_of, held_at, taken_at, opened_at, chunk_at}
use Rattle.unmasking.specs.declared.Unmasking.{Unmasking}
use Rattle.word.specs.Bytes.{zeros, padding}
use Rattle.write_blocks.specs.Blocks.{head_of, block_of}
use Rattle.write_blocks.specs.Tables.{marker_of}
use Rattle.write_plan.specs.declared.Stream.{Stream}
use Rattle.write_plan.specs.declared.Stream.TheVariants.{Video, Audio}
use Rattle.write_plan.specs.Payloads.{stored_as}
use Rattle.write_plan.specs.Films.{letters_of}
use Rattle.write_plan.specs.Sizes.{block_size}
use Rattle.write_plan.proofs.PayloadLaws.{stored_length}
use Rattle.promises_write.specs.Listing.{kind_for, payload_line, end_line, chunk_in}
use Rattle.promises_write.proofs.FromLaws.{From, left_is, at_is, be16_is, be32_is, stands_is, part_is}
use Rattle.promises_write.proofs.BlockReadLaws.{block, letters_read, size_read, header_read, footer_read, type_read, inside_read, block_long, marker_read}
use Rattle.promises_write.proofs.TableReadLaws.{no_zero, parted}
use Rattle.promises_write.proofs.MaskLaws.{first_stays}

-- ---- two lists of bytes that differ somewhere

apart : (i : ℕ) (a b : List ℕ) → (at a i ≡ at b i → ⊥) → same_bytes a b ≡ false
unfolding same_bytes
apart i [] [] h = absurd (h refl)
apart i [] (y ∷ ys) h = refl
apart i (x ∷ xs) [] h = refl
apart zero (x ∷ xs) (y ∷ ys) h = rw (ne_eqb x y h)
apart (suc i) (x ∷ xs) (y ∷ ys) h = rw (apart i xs ys h) (and-false (eqb x y))

nonzero : (bytes : List ℕ) → no_zero bytes ≡ true → (i : ℕ) → i < length bytes → at bytes i ≡ 0 → ⊥
nonzero [] e i h z = omega arith
nonzero (x ∷ xs) e zero h z = eqb-false x 0 (parted (eqb x 0) (no_zero xs) e).0 z
nonzero (x ∷ xs) e (suc i) h z = nonzero xs (parted (eqb x 0) (no_zero xs) e).1 i (omega arith) z

-- ---- a payload that does not begin with the marker makes no end chunk

zeros_first : (n : ℕ) (more : List ℕ) → 0 < n → at (zeros n ++ more) 0 ≡ 0
zeros_first zero more h = absurd (omega arith)
zeros_first (suc n) more h = refl

module _ (by : Unmasking) (stream : Stream) (payload more : List ℕ) where
  abbrev stored : List ℕ
  stored = stored_as by stream payload

  abbrev after : List ℕ
  after = zeros (padding (length stored)) ++ more

  -- the 13 bytes where the marker is sought
  abbrev sought : List ℕ
  sought = take 13 (stored ++ after)

  short_apart : 0 < length payload → length payload < 13 → same_bytes sought contents_end ≡ false
  short_apart h k =
      let n = length payload in
      let l : length stored ≡ n = stored_length by stream payload in
      let z : at sought n ≡ 0 =
      get_or-take 13 (stored ++ after) n 0 k ∙ at_right stored after n n l (omega arith) ∙ ap (at after) (omega arith) ∙ zeros_first (padding (length stored)) more (omega arith) in
      apart n sought contents_end (λ e. nonzero contents_end refl n k (sym e ∙ z))

  long_sought : 13 ≤ length payload → sought ≡ take 13 payload
  long_sought k =
      let l : length stored ≡ length payload = stored_length by stream payload in
      let a : length (take 13 stored) ≡ 13 = length-take-le 13 stored (omega arith) in
      let b : length (take 13 payload) ≡ 13 = length-take-le 13 payload k in
      take-append-le 13 stored after (omega arith)
      ∙ ext_get_or 0 (take 13 stored) (take 13 payload) (a ∙ sym b)
      (λ i h.
      let j : i < 13 = omega arith in
      get_or-take 13 stored i 0 j ∙ first_stays payload i (omega arith) (omega arith) by stream ∙ sym (get_or-take 13 payload i 0 j))

  sought_apart : 0 < length payload → stands_at contents_end payload 0 ≡ false → same_bytes sought contents_end ≡ false
  sought_apart h e =
      ⊎_elim (λ (k : length payload < 13). short_apart h k)
      (λ (k : 13 ≤ length payload). ap (λ (l : List ℕ). same_bytes l contents_end) (long_sought k) ∙ (rw (le-leb 13 (length payload) k) at e)) (side (length payload) 13)

  pub unmarked_read : 0 < length payload → stands_at contents_end payload 0 ≡ false → stands_at contents_end (block (letters_of stream) stored more) 0x20 ≡ false
  unmarked_read h e =
      let l : length stored ≡ length payload = stored_length by stream payload in
      rw (le-leb 45 (length (block (letters_of stream) stored more)) (omega (arith, block_long (letters_of stream) stored more)), inside_read (letters_of stream) stored more) (sought_apart h e)

-- ---- what the walk finds

-- a stream's payloads are taken
abbrev pub Takes : Applied → Stream → Type 0
Takes applied Video = Unit
Takes applied Audio = takes_channel applied.audio 0 ≡ true

letters_fit : (stream : Stream) → letters_of stream < 0x100000000
letters_fit Video = omega arith
letters_fit Audio = omega arith

sum_fits : (p size more all end : ℕ) → p + all ≡ end → all ≡ size + more → p + size ≤ end
sum_fits p size more all end e f = omega arith

-- the opening of a block
abbrev opened : Kind → ℕ → Opening
opened kind n = record { kind = kind; block = 0x18 + n + padding n; header = 0x18; footer = padding n; channel = 0; data_type = 0 }

module _ (stream : Stream) (inside more : List ℕ) {s : List ℕ} {p : ℕ} (f : From s p (block (letters_of stream) inside more)) (k : length inside ≤ 0x10000) where
  abbrev n : ℕ
  n = length inside

  letters_at_lem : be32 s p ≡ letters_of stream
  letters_at_lem = be32_is f p 0 (omega arith) ∙ letters_read (letters_of stream) inside more (letters_fit stream)

  channel_at : at s (p + 12) ≡ 0
  unfolding block_of head_of
  channel_at = at_is f (p + 12) 12 refl

  type_at : at s (p + 15) ≡ 0
  type_at = at_is f (p + 15) 15 refl ∙ type_read (letters_of stream) inside more

  opening_is : (kind : Kind) → kind_at s p ≡ kind → opening_at s p ≡ opened kind n
  unfolding opening_at
  opening_is kind e =
      rw (
        e,
        be32_is f (p + 4) 4 refl ∙ size_read (letters_of stream) inside more (omega arith),
        be16_is f (p + 8) 8 refl ∙ header_read (letters_of stream) inside more,
        be16_is f (p + 10) 10 refl ∙ footer_read (letters_of stream) inside more,
        channel_at,
        type_at,
      )

  marked_at_lem : stands_at contents_end s (p + 0x20) ≡ stands_at contents_end (block (letters_of stream) inside more) 0x20
  marked_at_lem = stands_is f (p + 0x20) 0x20 refl contents_end

  end_kind : stands_at contents_end (block (letters_of stream) inside more) 0x20 ≡ true → kind_at s p ≡ kind.End
  unfolding kind_at
  end_kind e = rw (marked_at_lem ∙ e)

  left_at : length s - p ≡ block_size n + length more
  left_at = left_is f ∙ block_long (letters_of stream) inside more

  pub block_fits : p + block_size n ≤ length s
  block_fits = sum_fits p (block_size n) (length more) (length (block (letters_of stream) inside more)) (length s) f.ends (block_long (letters_of stream) inside more)

  -- its payload's bytes
  pub payload_is : part_at s (p + 0x20) n ≡ inside
  payload_is =
      part_is f (p + 0x20) 0x20 refl n
      ∙ rw (le-leb (0x20 + n) (length (block (letters_of stream) inside more)) (omega (arith, block_long (letters_of stream) inside more)), inside_read (letters_of stream) inside more)
      (take_at inside (zeros (padding n) ++ more) n refl)

stream_kind : (stream : Stream) (s : List ℕ) (p : ℕ) → stands_at contents_end s (p + 0x20) ≡ false → be32 s p ≡ letters_of stream → kind_at s p ≡ kind_for stream
unfolding kind_at
stream_kind Video s p e l = rw (e, l)
stream_kind Audio s p e l = rw (e, l)

-- the header size is 0x18, so both payload modes agree
as_written : (mode : PayloadMode) (kind : Kind) (n : ℕ) → (is_short mode (opened kind n) ≡ false) × (offset_of mode (opened kind n) ≡ 0x20)
as_written Original kind n = (refl, refl)
as_written AfterHeader kind n = (refl, refl)

taken_is : (s : List ℕ) (mode : PayloadMode) (c n : ℕ) (kind : Kind) → c + block_size n ≤ length s → taken_at (length s) mode c (opened kind n) ≡ Ok (Some (chunk_in c (record { kind = kind; len = n; size = block_size n })))
unfolding taken_at held_at chunk_of
taken_is s mode c n kind h =
    let m : 0x18 + n + padding n - (0x18 + padding n) ≡ n = omega arith in
    let next : c + 8 + (0x18 + n + padding n) ≡ c + block_size n = omega arith in
    rw ((as_written mode kind n).0, (as_written mode kind n).1, le-ltb (0x18 + n + padding n) (0x18 + padding n) (omega arith), m, le-ltb (length s) (c + 0x20 + n) (omega arith), next)

opened_is : (stream : Stream) (s : List ℕ) (c n : ℕ) (applied : Applied) → Takes applied stream → c + block_size n ≤ length s
    → opened_at (length s) applied c (opened (kind_for stream) n) ≡ Ok (Some (chunk_in c (record { kind = kind_for stream; len = n; size = block_size n })))
unfolding opened_at
opened_is Video s c n applied t h = taken_is s applied.payloads c n kind.Video h
opened_is Audio s c n applied t h = rw t (taken_is s applied.payloads c n kind.Audio h)

module _ (by : Unmasking) (stream : Stream) (payload more : List ℕ) {s : List ℕ} {p : ℕ} (f : From s p (block (letters_of stream) (stored_as by stream payload) more))
    (some : 0 < length payload) (few : length payload ≤ 0x10000) where
  abbrev held : List ℕ
  held = stored_as by stream payload

  held_long : length held ≡ length payload
  held_long = stored_length by stream payload

  held_few : length held ≤ 0x10000
  held_few = omega (arith, held_long)

  pub chunk_found : (applied : Applied) → Takes applied stream → stands_at contents_end payload 0 ≡ false
      → chunk_at s applied p ≡ Ok (Some (chunk_in p (payload_line stream payload)))
  unfolding chunk_at
  chunk_found applied t e =
      let l = left_at stream held more f held_few in
      let m = held_long in
      rw (le-ltb (length s - p) 4 (omega arith), le-ltb (length s - p) 45 (omega arith), opening_is stream held more f held_few (kind_for stream) (stream_kind stream s p (marked_at_lem stream held more f held_few ∙ unmarked_read by stream payload more some e) (letters_at_lem stream held more f held_few)), held_long)
      (opened_is stream s p (length payload) applied t (rw held_long at (block_fits stream held more f held_few)))

  pub chunk_payload : part_at s (p + 0x20) (length payload) ≡ held
  chunk_payload = rw held_long at (payload_is stream held more f held_few)

module _ (stream : Stream) (more : List ℕ) {s : List ℕ} {p : ℕ} (f : From s p (block (letters_of stream) (marker_of contents_end) more)) where
  pub end_found : (applied : Applied) → chunk_at s applied p ≡ Ok (Some (chunk_in p end_line))
  unfolding chunk_at opened_at chunk_of
  end_found applied =
      let l = left_at stream (marker_of contents_end) more f (omega arith) in
      let next : p + 8 + 0x38 ≡ p + 0x40 = omega arith in
      rw (
        le-ltb (length s - p) 4 (omega arith),
        le-ltb (length s - p) 45 (omega arith),
        opening_is stream (marker_of contents_end) more f (omega arith) kind.End (end_kind stream (marker_of contents_end) more f (omega arith) (marker_read (letters_of stream) contents_end more refl (omega arith))),
        next,
      )
