-- What one payload shows, a longer one shows too: so the largest number is that of the payload that shows most. Assumes nothing.
use Rattle.std.specs.Prelude.{Option}
use Prim.Native.Nat.{ℕ, ◌≤◌, ◌<◌, max}
use mathlib.Core.Path.{◌≡◌, refl, sym, ap₂, ◌∙◌}
use mathlib.Core.Bool.{Bool, true, false, cond, ◌&&◌}
use mathlib.Core.List.{List, [], ◌∷◌}
use mathlib.Core.Logic.{⊎_elim}
use native.Mathlib.Omega.{arith}
use lib.Dec.{ltb, eqb}
use borrow.Author.Tests.{lt-ltb, le-ltb}
use Rattle.laws.proofs.Side.{side}
use Rattle.key.specs.LaneBits.{byte, low_half, showing, bits_in}
use Rattle.mask.specs.Positions.{lanes_shown}
use Rattle.clip.specs.Clips.{bits_shown}
use Rattle.chunk.specs.declared.Chunk.{Chunk}
use Rattle.chunk.specs.declared.Kind.{Kind}
use Rattle.chunk.specs.declared.Kind.TheVariants.{Video, Audio, Other, End}
use Rattle.unmasking.specs.declared.Mask.TheVariants.{Clear, VideoMask, AudioMask}
use Rattle.unmasking.specs.Unmasking.{is_adx}
use Rattle.key_shown.specs.Shown.{shown_as, shown_in, shown_by}
use Rattle.chunk_mask.specs.ChunkMasks.{mask_of}
use Rattle.pieces_bits.specs.PayloadBits.{payload_bits, most_bits}

-- a bound that is not lower shows no fewer bits
showing_more : (m n lane bits : ℕ) → m ≤ n → showing m lane bits ≤ showing n lane bits
showing_more m n lane bits h =
    ⊎_elim (λ (k : lane < m). rw (lt-ltb lane m k, lt-ltb lane n (omega arith)) (omega arith))
    (λ (k : m ≤ lane). rw (le-ltb lane m k) (omega arith))
    (side lane m)

bits_more : (m n : ℕ) → m ≤ n → bits_in m ≤ bits_in n
unfolding bits_in
bits_more m n h =
    let a = showing_more m n 0 (byte 0) h in
    let b = showing_more m n 2 (byte 2) h in
    let c = showing_more m n 4 (low_half 4) h in
    let d = showing_more m n 6 (byte 6) h in
    let e = showing_more m n 8 (byte 1) h in
    let f = showing_more m n 0xE (byte 3) h in
    let g = showing_more m n 0x18 (byte 5) h in
    omega (arith, a, b, c, d, e, f, g)

shown_more : (m n : ℕ) → m ≤ n → bits_shown m ≤ bits_shown n
shown_more m n h = bits_more (lanes_shown m) (lanes_shown n) (omega arith)

larger_shown : (m n : ℕ) → max (bits_shown m) (bits_shown n) ≡ bits_shown (max m n)
larger_shown m n =
    ⊎_elim (λ (h : m < n). let q : max m n ≡ n = omega arith in let s = shown_more m n (omega arith) in rw q (omega (arith, s)))
    (λ (h : n ≤ m). let q : max m n ≡ m = omega arith in let s = shown_more n m h in rw q (omega (arith, s)))
    (side m n)

-- a clip of no bytes shows nothing
pub none_shown : bits_shown 0 ≡ 0
unfolding bits_in
none_shown = refl

pub video_shown : (n : ℕ) (test : Bool) → cond test 0 (bits_shown n) ≡ bits_shown (cond test 0 n)
video_shown n true = sym none_shown
video_shown n false = refl

module _ (codec : Option ℕ) where
  by_kind : (kind : Kind) (n : ℕ) (masked adx : Bool)
      → (payload_bits (cond (true && masked) VideoMask Clear) n ≡ bits_shown (cond masked (shown_as adx Video n) 0))
      × (payload_bits (cond (adx && masked) AudioMask Clear) n ≡ bits_shown (cond masked (shown_as adx Audio n) 0))
  by_kind kind n true true = (video_shown n (ltb n 0x240), refl)
  by_kind kind n true false = (video_shown n (ltb n 0x240), sym none_shown)
  by_kind kind n false true = (sym none_shown, sym none_shown)
  by_kind kind n false false = (sym none_shown, sym none_shown)

  either_way : (masked : Bool) → bits_shown (cond masked 0 0) ≡ 0
  either_way true = none_shown
  either_way false = none_shown

  payload_shows : (kind : Kind) (data-type n : ℕ) → payload_bits (mask_of codec kind data-type) n ≡ bits_shown (cond (eqb data-type 0) (shown_as (is_adx codec) kind n) 0)
  payload_shows Video data-type n = (by_kind Video n (eqb data-type 0) (is_adx codec)).0
  payload_shows Audio data-type n = (by_kind Audio n (eqb data-type 0) (is_adx codec)).1
  payload_shows Other data-type n = sym (either_way (eqb data-type 0))
  payload_shows End data-type n = sym (either_way (eqb data-type 0))

  pub most_shown : (chunks : List Chunk) → most_bits codec chunks ≡ bits_shown (shown_by (is_adx codec) chunks)
  unfolding most_bits shown_by
  most_shown [] = sym none_shown
  most_shown (chunk ∷ chunks) =
      ap₂ (λ (a b : ℕ). max a b) (payload_shows chunk.kind chunk.data_type chunk.len) (most_shown chunks)
      ∙ larger_shown (shown_in (is_adx codec) chunk) (shown_by (is_adx codec) chunks)
