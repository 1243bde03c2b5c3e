-- A block is put as its head, what it holds and its padding: each has room where the block has, and together they are the block. Assumes nothing.
use Prim.Native.Nat.{ℕ, zero, suc, ◌+◌, ◌≤◌}
use mathlib.Core.Path.{◌≡◌, refl, ap, ◌∙◌}
use mathlib.Core.List.{List, ◌∷◌, ◌++◌}
use native.Mathlib.Omega.{arith}
use lib.ListN.{length, take, length-replicate}
use Rattle.laws.specs.Outputs.{Put}
use Rattle.laws.proofs.PutLaws.{Left, all_left, less_left, left_fits, next_fits, put_then}
use Rattle.word.specs.Bytes.{zeros, padding}
use Rattle.write_blocks.specs.Blocks.{head_of, block_of}
use Rattle.write_plan.proofs.LengthLaws.{block_length}

-- ---- zeros, as a part of 32

some_of : (n k : ℕ) → n ≤ k → take n (zeros k) ≡ zeros n
some_of zero k h = refl
some_of (suc n) zero h = absurd (omega arith)
some_of (suc n) (suc k) h = ap (λ (l : List ℕ). 0 ∷ l) (some_of n k (omega arith))

pub some_zeros : (n m : ℕ) → n ≡ m → n ≤ 0x20 → take n (zeros 0x20) ≡ zeros m
some_zeros n m e h = some_of n 0x20 h ∙ ap zeros e

pub zeros_length : (n : ℕ) → n ≤ 0x20 → length (take n (zeros 0x20)) ≡ n
zeros_length n h = ap length (some_of n 0x20 h) ∙ length-replicate n 0

-- ---- a block

module _ (letters : ℕ) (inside out : List ℕ) (at n : ℕ) (e : n ≡ length inside) (room : at + length (block_of letters inside) ≤ length out) where
  pub head_fits : at + 0x20 ≤ length out
  head_fits = omega (arith, block_length letters inside)

  module _ {after : List ℕ} {end : ℕ} (head : Put (head_of letters n) out at after end) where
    rest : Left (inside ++ zeros (padding (length inside))) after end (block_of letters inside) out at
    unfolding block_of
    rest = less_left (all_left (block_of letters inside) out at) (rw e at head)

    pub inside_fits : end + length inside ≤ length after
    inside_fits = next_fits inside (zeros (padding (length inside))) rest room

    module _ {after' : List ℕ} {end' : ℕ} (held : Put inside after end after' end') where
      pub padding-fits : end' + padding n ≤ length after'
      padding-fits = rw e (rw (length-replicate {A = ℕ} (padding (length inside)) 0) at (left_fits (less_left rest held) room))

      pub block-put : {last : List ℕ} {ends : ℕ} → Put (zeros (padding n)) after' end' last ends → Put (block_of letters inside) out at last ends
      unfolding block_of
      block-put pad = put_then (rw e at head) (put_then held (rw e at pad))
