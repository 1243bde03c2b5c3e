-- Rows made clear by the clear one before them: one row, and the rows from a clear one on. Assumes nothing.
use mathlib.Core.Path.{◌≡◌, sym, ap, ap₂, ◌∙◌}
use mathlib.Core.Bool.{Bool, true, cond}
use mathlib.Core.List.{List, ◌++◌}
use Prim.Native.Nat.{ℕ, zero, suc, ◌+◌, ◌*◌, ◌-◌, ◌/◌, ◌%◌, ◌≤◌, ◌<◌}
use native.Mathlib.Omega.{arith}
use lib.ListN.{length, take, drop}
use lib.Bits.{bit_xor}
use Rattle.laws.specs.Lists.{at}
use Rattle.laws.proofs.TabLaws.{tab_length, tab_at, tab_ext}
use Rattle.laws.proofs.SpliceLaws.{part_at_lem, part_length}
use Rattle.laws.proofs.UptoLaws.{Upto, upto_part}
use Rattle.mask.specs.Rows.{clear_after, cleared_where, cleared_rows}

-- what stands at a position of rows made clear in the lanes that a test picks
abbrev pub cleared_at : (ℕ → Bool) → List ℕ → List ℕ → ℕ → ℕ
cleared_at picks v s p = cond (picks (p % 0x20)) (clear_after v s (p / 0x20) (p % 0x20)) (at s p)

abbrev pub all : ℕ → Bool
all _ = true

pub where_length : (picks : ℕ → Bool) (v s : List ℕ) → length (cleared_where picks v s) ≡ length s
unfolding cleared_where
where_length picks v s = tab_length (cleared_at picks v s) (length s)

pub where_at : (picks : ℕ → Bool) (v s : List ℕ) (p : ℕ) → p < length s → at (cleared_where picks v s) p ≡ cleared_at picks v s p
unfolding cleared_where
where_at picks v s p h = tab_at (cleared_at picks v s) (length s) p h

pub where_is : (picks : ℕ → Bool) (v s t : List ℕ) → length t ≡ length s → ((p : ℕ) → p < length s → at t p ≡ cleared_at picks v s p) → t ≡ cleared_where picks v s
unfolding cleared_where
where_is picks v s t e h = tab_ext (cleared_at picks v s) (length s) t e h

-- a row and a lane as a position, and back
pub row_of : (r lane : ℕ) → lane < 0x20 → (r * 0x20 + lane) / 0x20 ≡ r
row_of r lane h = omega arith

pub lane_of : (r lane : ℕ) → lane < 0x20 → (r * 0x20 + lane) % 0x20 ≡ lane
lane_of r lane h = omega arith

-- a byte of a row
pub after_at : (v s : List ℕ) (r lane : ℕ) → lane < 0x20 → cleared_at all v s (r * 0x20 + lane) ≡ clear_after v s r lane
after_at v s r lane h = rw (row_of r lane h, lane_of r lane h)

-- the first row stays
pub first_stays : (v s : List ℕ) (p : ℕ) → p < 0x20 → at s p ≡ cleared_at all v s p
unfolding clear_after
first_stays v s p h =
    let r : p / 0x20 ≡ 0 = omega arith in
    let l : p % 0x20 ≡ p = omega arith in
    rw (r, l)

-- a byte of the second row, made of the bytes as they stand
pub second_row : (v s t : List ℕ) (lane : ℕ) → lane < 0x20 → Upto (cleared_at all v s) s t (0x20 + lane)
    → bit_xor (at t (0x20 + lane)) (bit_xor (at t lane) (at v lane)) ≡ cleared_at all v s (0x20 + lane)
unfolding clear_after
second_row v s t lane h u =
    let r : (0x20 + lane) / 0x20 ≡ 1 = omega arith in
    let l : (0x20 + lane) % 0x20 ≡ lane = omega arith in
    rw (r, l) (ap₂ (λ (x y : ℕ). bit_xor x (bit_xor y (at v lane))) (u.above (0x20 + lane) (omega arith)) (u.below lane (omega arith) ∙ sym (first_stays v s lane h)))

module _ (v s t : List ℕ) (i k e : ℕ) (q : i ≡ k * 0x20) (u : Upto (cleared_at all v s) s t (i + 0x20)) (h : i + 0x20 ≤ e) (l : e ≤ length t) where
  -- the rows from row k on, which is clear, as they stand
  abbrev rest : List ℕ
  rest = take (e - i) (drop i t)

  onward : (r lane : ℕ) → lane < 0x20 → r * 0x20 + lane < e - i → clear_after v rest r lane ≡ clear_after v s (k + r) lane
  unfolding clear_after
  onward zero lane m n =
      let z : k + 0 ≡ k = omega arith in
      let w : i + lane ≡ k * 0x20 + lane = omega arith in
      rw z (part_at_lem t i e lane (omega arith) ∙ u.below (i + lane) (omega arith) ∙ ap (cleared_at all v s) w ∙ after_at v s k lane m)
  onward (suc r) lane m n =
      let z : k + suc r ≡ suc (k + r) = omega arith in
      let w : i + (suc r * 0x20 + lane) ≡ suc (k + r) * 0x20 + lane = omega arith in
      rw z
      (ap₂ (λ (x y : ℕ). bit_xor x (bit_xor y (at v lane)))
      (part_at_lem t i e (suc r * 0x20 + lane) n ∙ u.above (i + (suc r * 0x20 + lane)) (omega arith) ∙ ap (at s) w) (onward r lane m (omega arith)))

  -- they are made clear
  pub upto_cleared : (y : List ℕ) → y ≡ cleared_rows v rest → Upto (cleared_at all v s) s (take i t ++ (y ++ drop (e - i) (drop i t))) e
  upto_cleared y f =
      upto_part (cleared_at all v s) s t y i (i + 0x20) e u (omega arith) h l (ap length f ∙ where_length all v rest ∙ part_length t i e l)
      (λ j m.
      let r : (i + j) / 0x20 ≡ k + j / 0x20 = omega arith in
      let n : (i + j) % 0x20 ≡ j % 0x20 = omega arith in
      ap (λ (z : List ℕ). at z j) f ∙ where_at all v rest j (omega (arith, part_length t i e l))
      ∙ rw (r, n) (onward (j / 0x20) (j % 0x20) (omega arith) (omega arith)))
