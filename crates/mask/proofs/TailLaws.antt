-- The tail of a video payload: another one put in its place, made clear from its first row on, and masked row by row. Assumes nothing.
use mathlib.Core.Path.{◌≡◌, refl, sym, ap, ap₂, ◌∙◌}
use mathlib.Core.List.{List, ◌++◌}
use Prim.Native.Nat.{ℕ, zero, suc, ◌+◌, ◌*◌, ◌-◌, ◌/◌, ◌%◌, ◌≤◌, ◌<◌}
use native.Mathlib.Numerals.{add-one}
use native.Mathlib.Omega.{arith}
use lib.ListN.{length, take, drop}
use lib.Bits.{bit_xor}
use borrow.Author.Tests.{lt-ltb, le-ltb}
use Rattle.laws.specs.Lists.{at}
use Rattle.laws.proofs.SpliceLaws.{part_at_lem, part_length}
use Rattle.laws.proofs.UptoLaws.{Upto, upto_part}
use Rattle.mask.specs.Rows.{xored, clear_after, cleared_rows}
use Rattle.mask.specs.Video.{tail, clear, stored, with_tail_at}
use Rattle.mask.proofs.RowLaws.{xored_part}
use Rattle.mask.proofs.ClearLaws.{all, where_length, where_at}

module _ (row : ℕ → ℕ → ℕ) (s : List ℕ) where
  pub tail_before : (p : ℕ) → p < 0x140 → at s p ≡ with_tail_at row s p
  unfolding with_tail_at
  tail_before p h = rw (lt-ltb p 0x140 h)

  pub tail_in : (r lane : ℕ) → lane < 0x20 → with_tail_at row s (0x140 + r * 0x20 + lane) ≡ row r lane
  unfolding with_tail_at
  tail_in r lane h =
      let p : (0x140 + r * 0x20 + lane - 0x140) / 0x20 ≡ r = omega arith in
      let q : (0x140 + r * 0x20 + lane) % 0x20 ≡ lane = omega arith in
      rw (le-ltb (0x140 + r * 0x20 + lane) 0x140 (omega arith), p, q)

-- ---- made clear: the first row by V, and then the rows after it

module _ (v s t : List ℕ) (u : Upto (with_tail_at (clear v s) s) s t 0x160) (h : 0x160 ≤ length t) where
  abbrev rest : List ℕ
  rest = take (length t - 0x140) (drop 0x140 t)

  after_first : (r lane : ℕ) → lane < 0x20 → 0x140 + r * 0x20 + lane < length t → clear_after v rest r lane ≡ clear v s r lane
  unfolding clear_after clear
  after_first zero lane l k =
      let z : 0x140 + lane ≡ 0x140 + 0 * 0x20 + lane = omega arith in
      part_at_lem t 0x140 (length t) lane (omega arith) ∙ u.below (0x140 + lane) (omega arith) ∙ ap (with_tail_at (clear v s) s) z ∙ tail_in (clear v s) s 0 lane l
  after_first (suc r) lane l k =
      let z : 0x140 + (suc r * 0x20 + lane) ≡ 0x140 + suc r * 0x20 + lane = omega arith in
      ap₂ (λ (x y : ℕ). bit_xor x (bit_xor y (at v lane)))
      (part_at_lem t 0x140 (length t) (suc r * 0x20 + lane) (omega arith) ∙ u.above (0x140 + (suc r * 0x20 + lane)) (omega arith) ∙ ap (at s) z)
      (after_first r lane l (omega arith))

  pub tail_cleared : (y : List ℕ) → y ≡ cleared_rows v rest
      → Upto (with_tail_at (clear v s) s) s (take 0x140 t ++ (y ++ drop (length t - 0x140) (drop 0x140 t))) (length t)
  tail_cleared y f =
      upto_part (with_tail_at (clear v s) s) s t y 0x140 0x160 (length t) u (omega arith) h (omega arith)
      (ap length f ∙ where_length all v rest ∙ part_length t 0x140 (length t) (omega arith))
      (λ j m.
      let q : 0x140 + j / 0x20 * 0x20 + j % 0x20 ≡ 0x140 + j = omega arith in
      let n : length rest ≡ length t - 0x140 = part_length t 0x140 (length t) (omega arith) in
      ap (λ (z : List ℕ). at z j) f ∙ where_at all v rest j (omega arith)
      ∙ after_first (j / 0x20) (j % 0x20) (omega arith) (omega arith)
      ∙ sym (tail_in (clear v s) s (j / 0x20) (j % 0x20) (omega arith)) ∙ ap (with_tail_at (clear v s) s) q)

pub first_row : (v s : List ℕ) (lane : ℕ) → lane < 0x20 → bit_xor (at s (0x140 + lane)) (at v lane) ≡ with_tail_at (clear v s) s (0x140 + lane)
unfolding clear
first_row v s lane h =
    let z : 0x140 + 0 * 0x20 + lane ≡ 0x140 + lane = omega arith in
    sym (ap (with_tail_at (clear v s) s) (sym z) ∙ tail_in (clear v s) s 0 lane h ∙ ap (λ (p : ℕ). bit_xor (at s p) (at v lane)) z)

-- ---- masked: each row by V, and from the second on by the clear row before it too

-- what a row is XORed with
unfoldable pub prior : List ℕ → List ℕ → ℕ → ℕ → ℕ
prior v s zero lane = at v lane
prior v s (suc r) lane = bit_xor (tail s r lane) (at v lane)

pub prior_start : (v s : List ℕ) (lane : ℕ) → at v lane ≡ prior v s 0 lane
unfolding prior
prior_start v s lane = refl

-- the mask for the next row is made of this one, which is as it was
pub prior_next : (v s t mask : List ℕ) (r lane : ℕ) → 0x140 + r * 0x20 + 0x20 ≤ length t
    → mask ≡ xored (take (0x140 + r * 0x20 + 0x20 - (0x140 + r * 0x20)) (drop (0x140 + r * 0x20) t)) v
    → tail t r lane ≡ tail s r lane → lane < 0x20 → at mask lane ≡ prior v s (r + 1) lane
unfolding prior
prior_next v s t mask r lane h e q k =
    rw (add-one r)
    (ap (λ (z : List ℕ). at z lane) e ∙ xored_part t v (0x140 + r * 0x20) (0x140 + r * 0x20 + 0x20) lane h (omega arith)
    ∙ ap (λ (z : ℕ). bit_xor z (at v lane)) q)

stored_is : (v s : List ℕ) (r lane : ℕ) → bit_xor (tail s r lane) (prior v s r lane) ≡ stored v s r lane
unfolding prior stored
stored_is v s zero lane = refl
stored_is v s (suc r) lane = refl

-- a row, XORed with its mask, is the stored row
pub stored_row : (v s mask : List ℕ) (i r lane : ℕ) → i ≡ 0x140 + r * 0x20 → lane < 0x20 → at mask lane ≡ prior v s r lane
    → bit_xor (at s (i + lane)) (at mask lane) ≡ with_tail_at (stored v s) s (i + lane)
stored_row v s mask i r lane q h e =
    rw q (ap (bit_xor (tail s r lane)) e ∙ stored_is v s r lane ∙ sym (tail_in (stored v s) s r lane h))
