-- What is read from a chunk's first bytes, 45 or more, is what is read from the container. Assumes nothing.
use mathlib.Core.Path.{◌≡◌, refl, ap, ◌∙◌}
use mathlib.Core.List.{List, [], ◌∷◌}
use Prim.Native.Nat.{ℕ, zero, suc, ◌+◌, ◌≤◌, ◌<◌}
use native.Mathlib.Omega.{arith}
use lib.ListN.{length, take, drop, length-take, length-drop}
use lib.Seq.{get_or-take, get_or-drop, take-take, drop-drop}
use borrow.Author.Tests.{le-leb}
use Rattle.laws.specs.Lists.{at}
use Rattle.word.specs.Numbers.{be16, be32}
use Rattle.part.specs.Parts.{part_at}
use Rattle.signature.specs.Signatures.{contents_end, same_bytes, stands_at}
use Rattle.chunk.specs.Openings.{kind_at, opening_at}

-- a part of the first n bytes
inner : (n k m : ℕ) (bytes : List ℕ) → k + m ≤ n → take m (drop k (take n bytes)) ≡ take m (drop k bytes)
inner n zero m bytes h = take-take m n bytes (omega arith)
inner zero (suc k) m bytes h = absurd (omega arith)
inner (suc n) (suc k) m [] h = refl
inner (suc n) (suc k) m (x ∷ bytes) h = inner n k m bytes (omega arith)

module _ (container : List ℕ) (c n : ℕ) (enough : 45 ≤ n) (whole : c + 45 ≤ length container) where
  abbrev bytes : List ℕ
  bytes = take n (drop c container)

  same_at : (k : ℕ) → k < 45 → at bytes k ≡ at container (c + k)
  same_at k h = get_or-take n (drop c container) k 0 (omega arith) ∙ get_or-drop c container k 0

  pub same_be16 : (k : ℕ) → k + 1 < 45 → be16 bytes k ≡ be16 container (c + k)
  same_be16 k h =
      let q : c + (k + 1) ≡ c + k + 1 = omega arith in
      rw (same_at k (omega arith), same_at (k + 1) h, q)

  pub same_be32 : (k : ℕ) → k + 3 < 45 → be32 bytes k ≡ be32 container (c + k)
  same_be32 k h =
      let q : c + (k + 2) ≡ c + k + 2 = omega arith in
      rw (same_be16 k (omega arith), same_be16 (k + 2) (omega arith), q)

  pub same_letters : be32 bytes 0 ≡ be32 container c
  same_letters = let q : c + 0 ≡ c = omega arith in same_be32 0 (omega arith) ∙ ap (be32 container) q

  same_marker : stands_at contents_end bytes 0x20 ≡ stands_at contents_end container (c + 0x20)
  same_marker =
      let here : 0x20 + 13 ≤ length bytes = simp (length-take, length-drop) (omega arith) in
      let there : c + 0x20 + 13 ≤ length container = omega arith in
      let e : part_at bytes 0x20 13 ≡ part_at container (c + 0x20) 13 =
      rw (le-leb _ _ here, le-leb _ _ there) (inner n 0x20 13 (drop c container) (omega arith) ∙ ap (take 13) (drop-drop 0x20 c container)) in
      ap (λ (part : List ℕ). same_bytes part contents_end) e

  pub same_kind : kind_at bytes 0 ≡ kind_at container c
  unfolding kind_at
  same_kind = rw (same_marker, same_letters)

  pub same_opening : opening_at bytes 0 ≡ opening_at container c
  unfolding opening_at
  same_opening = rw (same_kind, same_be32 4 (omega arith), same_be16 8 (omega arith), same_be16 10 (omega arith), same_at 12 (omega arith), same_at 15 (omega arith))
