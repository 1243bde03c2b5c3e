-- A block that was written, as the readers find it: letters, sizes, data type, what it holds, and where the next one stands. Assumes nothing.
use Rattle.std.specs.Prelude.{Ok}
use Prim.Native.Nat.{ℕ, ◌+◌, ◌-◌, ◌%◌, ◌^◌, ◌≤◌, ◌<◌}
use mathlib.Core.Path.{◌≡◌, refl, ap, ◌∙◌}
use mathlib.Core.List.{List, [], ◌∷◌, ◌++◌, append_assoc}
use mathlib.Core.Bool.{true}
use native.Mathlib.Omega.{arith}
use lib.ListN.{length, take, drop, length-append}
use lib.Seq.{take_at, drop_at}
use borrow.Author.Tests.{le-ltb, le-leb, eq-eqb, ne_eqb}
use Rattle.laws.specs.Lists.{at}
use Rattle.word.specs.Numbers.{be16, be32}
use Rattle.refusal.specs.declared.Cause.{Cause}
use Rattle.signature.specs.Signatures.{SFV, SFA, metadata_end, same_bytes, stands_at}
use Rattle.block.specs.declared.Ahead.TheVariants.{Sound, Other}
use Rattle.block.specs.Blocks.{head_at, marked_at, marker_block, ahead_at, last_block, chunks_after}
use Rattle.word.specs.Bytes.{zeros, padding}
use Rattle.write_blocks.specs.Blocks.{head_of, block_of}
use Rattle.write_blocks.specs.Tables.{marker_of}
use Rattle.word.proofs.NumberLaws.{whole16, whole32}
use Rattle.write_plan.specs.Sizes.{block_size}
use Rattle.write_plan.proofs.LengthLaws.{head_length, block_length}
use Rattle.promises_write.proofs.FromLaws.{From, left_is, be32_is, stands_is}

-- ---- a block, and what comes after it

module _ (letters : ℕ) (inside more : List ℕ) where
  abbrev pub block : List ℕ
  block = block_of letters inside ++ more

  pub letters_read : letters < 2 ^ 32 → be32 block 0 ≡ letters
  unfolding block_of head_of
  letters_read h = whole32 letters h

  pub size_read : length inside < 2 ^ 31 → be32 block 4 ≡ 0x18 + length inside + padding (length inside)
  unfolding block_of head_of
  size_read h = whole32 (0x18 + length inside + padding (length inside)) (omega arith)

  pub header_read : be16 block 8 ≡ 0x18
  unfolding block_of head_of
  header_read = refl

  pub footer_read : be16 block 10 ≡ padding (length inside)
  unfolding block_of head_of
  footer_read = whole16 (padding (length inside)) (omega arith)

  pub type_read : at block 15 ≡ 0
  unfolding block_of head_of
  type_read = refl

  pub inside_read : drop 0x20 block ≡ inside ++ (zeros (padding (length inside)) ++ more)
  unfolding block_of
  inside_read =
      ap (drop 0x20) (append_assoc (head_of letters (length inside)) (inside ++ zeros (padding (length inside))) more)
      ∙ drop_at (head_of letters (length inside)) ((inside ++ zeros (padding (length inside))) ++ more) 0x20 (head_length letters (length inside))
      ∙ append_assoc inside (zeros (padding (length inside))) more

  pub block_long : length block ≡ block_size (length inside) + length more
  block_long = length-append (block_of letters inside) more ∙ ap (λ (n : ℕ). n + length more) (block_length letters inside)

  module _ {s : List ℕ} {p : ℕ} (f : From s p block) (h : letters < 2 ^ 32) (k : length inside < 2 ^ 31) where
    pub left_long : 0x20 + length inside + padding (length inside) ≤ length s - p
    left_long = omega (arith, left_is f, block_long)

    pub letters_is : be32 s p ≡ letters
    letters_is = be32_is f p 0 (omega arith) ∙ letters_read h

    pub size_is : be32 s (p + 4) ≡ 0x18 + length inside + padding (length inside)
    size_is = be32_is f (p + 4) 4 refl ∙ size_read k

    pub head_is : (missing : Cause) → head_at s letters missing p ≡ Ok (p + length (block_of letters inside))
    unfolding head_at
    head_is missing =
        let e : p + 8 + be32 s (p + 4) ≡ p + length (block_of letters inside) = omega (arith, size_is, block_length letters inside) in
        rw (le-ltb (length s - p) 4 (omega (arith, left_long)), eq-eqb (be32 s p) letters letters_is, le-ltb (length s - p) 8 (omega (arith, left_long))) (ap Ok e)

    pub sound_ahead : letters ≡ SFA → ahead_at s p ≡ Sound
    unfolding ahead_at
    sound_ahead e = rw (le-ltb (length s - p) 4 (omega (arith, left_long)), eq-eqb (be32 s p) SFA (letters_is ∙ e))

    pub other_ahead : letters ≡ SFV → ahead_at s p ≡ Other
    unfolding ahead_at
    other_ahead e = rw (le-ltb (length s - p) 4 (omega (arith, left_long)), ne_eqb (be32 s p) SFA (λ g. omega (arith, letters_is)))

-- ---- a block with a marker

pub same_self : (bytes : List ℕ) → same_bytes bytes bytes ≡ true
unfolding same_bytes
same_self [] = refl
same_self (byte ∷ bytes) = rw (eq-eqb byte byte refl, same_self bytes)

module _ (letters : ℕ) (marker more : List ℕ) (m : length (marker_of marker) ≡ 0x20) (n : length marker ≤ 0x20) where
  pub marker_read : stands_at marker (block letters (marker_of marker) more) 0x20 ≡ true
  marker_read =
      let l : 0x20 + length marker ≤ length (block letters (marker_of marker) more) = omega (arith, block_long letters (marker_of marker) more, m) in
      let after = zeros (padding (length (marker_of marker))) ++ more in
      rw (le-leb (0x20 + length marker) (length (block letters (marker_of marker) more)) l, inside_read letters (marker_of marker) more)
      (ap (λ (l : List ℕ). same_bytes l marker)
      (ap (take (length marker)) (append_assoc marker (zeros (0x20 - length marker)) after) ∙ take_at marker (zeros (0x20 - length marker) ++ after) (length marker) refl)
      ∙ same_self marker)

  module _ {s : List ℕ} {p : ℕ} (f : From s p (block letters (marker_of marker) more)) where
    pub marker_is : stands_at marker s (p + 0x20) ≡ true
    marker_is = stands_is f (p + 0x20) 0x20 refl marker ∙ marker_read

    module _ (h : letters < 2 ^ 32) where
      held_long : 0x40 ≤ length s - p
      held_long = omega (arith, left_is f, block_long letters (marker_of marker) more, m)

      pub marked_is : (unmarked : Cause) (next : ℕ) → marked_at s marker unmarked p next ≡ Ok next
      unfolding marked_at
      marked_is unmarked next = rw (le-ltb (length s - p) (0x20 + length marker) (omega (arith, held_long)), marker_is)

      pub marker-block : (missing unmarked : Cause) → marker_block s letters missing marker unmarked p ≡ Ok (p + length (block_of letters (marker_of marker)))
      unfolding marker_block
      marker-block missing unmarked = rw (head_is letters (marker_of marker) more f h (omega (arith, m)) missing) (marked_is unmarked (p + length (block_of letters (marker_of marker))))

-- the block of step H8: chunks begin where it ends
module _ (more : List ℕ) {s : List ℕ} {p : ℕ} (f : From s p (block SFV (marker_of metadata_end) more)) where
  pub last_block_lem : p % 0x20 ≡ 0 → last_block s p ≡ Ok (p + length (block_of SFV (marker_of metadata_end)))
  unfolding last_block
  last_block_lem e =
      let n : chunks_after p ≡ p + length (block_of SFV (marker_of metadata_end)) = omega (arith, block_length SFV (marker_of metadata_end)) in
      rw (le-ltb (length s - p) 4 (omega (arith, held_long SFV metadata_end more refl (omega arith) f (omega arith))), eq-eqb (be32 s p) SFV (letters_is SFV (marker_of metadata_end) more f (omega arith) (omega arith)))
      (marked_is SFV metadata_end more refl (omega arith) f (omega arith) _ (chunks_after p) ∙ ap Ok n)
