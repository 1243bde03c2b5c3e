-- The cases of a block, one for each return of the code; and that a head that was read lies within the container. Assumes nothing.
use Rattle.std.specs.Prelude.{Result, Ok}
use Rattle.refusal.specs.declared.Refusal.{Refusal}
use mathlib.Core.Path.{◌≡◌, refl}
use mathlib.Core.List.{List}
use mathlib.Core.Bool.{Bool, true, false, not, cond}
use Prim.Native.Nat.{ℕ, ◌+◌, ◌-◌, ◌≤◌, ◌<◌}
use native.Mathlib.Omega.{arith}
use lib.ListN.{length}
use lib.Dec.{ltb, eqb}
use borrow.Author.Tests.{eq-eqb, ne_eqb, lt-ltb, le-ltb, ltb-false}
use Rattle.word.specs.Numbers.{be32}
use Rattle.refusal.specs.declared.Cause.{Cause}
use Rattle.refusal.specs.declared.Cause.TheVariants as cause
use Rattle.signature.specs.Signatures.{SFV, SFA, metadata_end, stands_at}
use Rattle.block.specs.declared.Ahead.TheVariants.{Sound, Other, Cut}
use Rattle.block.specs.Blocks.{refused_at, head_at, marked_at, ahead_at, chunks_after, last_block}

-- ---- a head

module _ (s : List ℕ) (letters : ℕ) (missing : Cause) (p : ℕ) where
  pub head_cut : length s - p < 4 → refused_at p cause.RanOut ≡ head_at s letters missing p
  unfolding head_at
  head_cut h = rw (lt-ltb (length s - p) 4 h)

  module _ (four : 4 ≤ length s - p) where
    pub head_other : (be32 s p ≡ letters → ⊥) → refused_at p missing ≡ head_at s letters missing p
    unfolding head_at
    head_other e = rw (le-ltb (length s - p) 4 four, ne_eqb (be32 s p) letters e)

    module _ (these : be32 s p ≡ letters) where
      pub head-short : length s - p < 8 → refused_at p cause.RanOut ≡ head_at s letters missing p
      unfolding head_at
      head-short h = rw (le-ltb (length s - p) 4 four, eq-eqb (be32 s p) letters these, lt-ltb (length s - p) 8 h)

      pub head_read : 8 ≤ length s - p → Ok (p + 8 + be32 s (p + 4)) ≡ head_at s letters missing p
      unfolding head_at
      head_read h = rw (le-ltb (length s - p) 4 four, eq-eqb (be32 s p) letters these, le-ltb (length s - p) 8 h)

unrefused : (b : Bool) (p : ℕ) (why : Cause) (q : ℕ) (answer : Result ℕ Refusal) → cond b (refused_at p why) answer ≡ Ok q → (b ≡ false) × (answer ≡ Ok q)
unrefused true p why q answer e = let z : ◌≡◌ {A = ℕ} 0 1 = cc in absurd (omega arith)
unrefused false p why q answer e = (refl, e)

-- a head that was read lies within the container
pub head_within : (s : List ℕ) (letters : ℕ) (missing : Cause) (p q : ℕ) → head_at s letters missing p ≡ Ok q → p + 8 ≤ length s
unfolding head_at
head_within s letters missing p q e =
    let a = unrefused (ltb (length s - p) 4) p cause.RanOut q _ e in
    let b = unrefused (not (eqb (be32 s p) letters)) p missing q _ a.1 in
    let d = unrefused (ltb (length s - p) 8) p cause.RanOut q _ b.1 in
    omega (arith, ltb-false (length s - p) 8 d.0)

-- ---- a marker

module _ (s marker : List ℕ) (unmarked : Cause) (p next : ℕ) where
  pub marker_cut : length s - p < 0x20 + length marker → refused_at p cause.RanOut ≡ marked_at s marker unmarked p next
  unfolding marked_at
  marker_cut h = rw (lt-ltb (length s - p) (0x20 + length marker) h)

  module _ (room : 0x20 + length marker ≤ length s - p) where
    pub marker_there : stands_at marker s (p + 0x20) ≡ true → Ok next ≡ marked_at s marker unmarked p next
    unfolding marked_at
    marker_there t = rw (le-ltb (length s - p) (0x20 + length marker) room, t)

    pub marker_other : stands_at marker s (p + 0x20) ≡ false → refused_at p unmarked ≡ marked_at s marker unmarked p next
    unfolding marked_at
    marker_other t = rw (le-ltb (length s - p) (0x20 + length marker) room, t)

-- ---- letters alone: a look ahead, and the last block

module _ (s : List ℕ) (p : ℕ) where
  pub ahead_cut : length s - p < 4 → Cut ≡ ahead_at s p
  unfolding ahead_at
  ahead_cut h = rw (lt-ltb (length s - p) 4 h)

  pub last_cut : length s - p < 4 → refused_at p cause.RanOut ≡ last_block s p
  unfolding last_block
  last_cut h = rw (lt-ltb (length s - p) 4 h)

  module _ (four : 4 ≤ length s - p) where
    pub ahead_sound : be32 s p ≡ SFA → Sound ≡ ahead_at s p
    unfolding ahead_at
    ahead_sound e = rw (le-ltb (length s - p) 4 four, eq-eqb (be32 s p) SFA e)

    pub ahead_other : (be32 s p ≡ SFA → ⊥) → Other ≡ ahead_at s p
    unfolding ahead_at
    ahead_other e = rw (le-ltb (length s - p) 4 four, ne_eqb (be32 s p) SFA e)

    pub last_other : (be32 s p ≡ SFV → ⊥) → refused_at p cause.NoVideo ≡ last_block s p
    unfolding last_block
    last_other e = rw (le-ltb (length s - p) 4 four, ne_eqb (be32 s p) SFV e)

    pub last_marked : be32 s p ≡ SFV → marked_at s metadata_end cause.NoMetadataEnd p (chunks_after p) ≡ last_block s p
    unfolding last_block
    last_marked e = rw (le-ltb (length s - p) 4 four, eq-eqb (be32 s p) SFV e)
