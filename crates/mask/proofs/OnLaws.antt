-- Rows made clear that follow a clear one. Assumes nothing.
use mathlib.Core.Path.{◌≡◌, sym, ap, ap₂, ◌∙◌}
use mathlib.Core.List.{List, ◌++◌}
use Prim.Native.Nat.{ℕ, zero, suc, ◌+◌, ◌*◌, ◌-◌, ◌/◌, ◌%◌, ◌<◌}
use native.Mathlib.Omega.{arith}
use lib.ListN.{length, length-append, length-drop}
use lib.Seq.{ext_get_or, get_or-drop}
use lib.Bits.{bit_xor}
use Rattle.laws.specs.Lists.{at}
use Rattle.laws.proofs.SpliceLaws.{at_left, at_right}
use Rattle.laws.proofs.UptoLaws.{Upto}
use Rattle.mask.specs.Rows.{xored, clear_after, cleared_rows, cleared_on}
use Rattle.mask.proofs.RowLaws.{xored_length, xored_at}
use Rattle.mask.proofs.ClearLaws.{all, where_length, where_at}

module _ (v before s : List ℕ) (row : length before ≡ 0x20) where
  -- what stands at a position
  abbrev pub on_at : ℕ → ℕ
  on_at p = clear_after v (before ++ s) (suc (p / 0x20)) (p % 0x20)

  both_length : length (before ++ s) ≡ 0x20 + length s
  both_length = length-append before s ∙ ap (λ (n : ℕ). n + length s) row

  pub on_length : length (cleared_on v before s) ≡ length s
  unfolding cleared_on
  on_length =
      let n : length (cleared_rows v (before ++ s)) ≡ 0x20 + length s = where_length all v (before ++ s) ∙ both_length in
      length-drop 0x20 (cleared_rows v (before ++ s)) ∙ omega arith

  pub on_at_lem : (p : ℕ) → p < length s → at (cleared_on v before s) p ≡ on_at p
  unfolding cleared_on
  on_at_lem p h =
      let r : (0x20 + p) / 0x20 ≡ suc (p / 0x20) = omega arith in
      let l : (0x20 + p) % 0x20 ≡ p % 0x20 = omega arith in
      get_or-drop 0x20 (cleared_rows v (before ++ s)) p 0 ∙ where_at all v (before ++ s) (0x20 + p) (omega (arith, both_length)) ∙ rw (r, l)

  pub on_is : (y : List ℕ) → length y ≡ length s → ((p : ℕ) → p < length s → at y p ≡ on_at p) → y ≡ cleared_on v before s
  on_is y n e = ext_get_or 0 y (cleared_on v before s) (n ∙ sym on_length) (λ p h. let k : p < length s = omega arith in e p k ∙ sym (on_at_lem p k))

  -- a byte of s, as it stands behind the clear row
  behind : (r lane : ℕ) → at (before ++ s) (suc r * 0x20 + lane) ≡ at s (r * 0x20 + lane)
  behind r lane =
      let q : suc r * 0x20 + lane - 0x20 ≡ r * 0x20 + lane = omega arith in
      at_right before s 0x20 (suc r * 0x20 + lane) row (omega arith) ∙ ap (at s) q

  -- a byte of the first row, made of the clear one and V
  on_first : (mask : List ℕ) (lane : ℕ) → mask ≡ xored before v → lane < 0x20 → bit_xor (at s lane) (at mask lane) ≡ on_at lane
  unfolding clear_after
  on_first mask lane e h =
      let r : lane / 0x20 ≡ 0 = omega arith in
      let l : lane % 0x20 ≡ lane = omega arith in
      let z : 0 * 0x20 + lane ≡ lane = omega arith in
      rw (r, l)
      (ap₂ bit_xor (sym (behind 0 lane ∙ ap (at s) z))
      (ap (λ (y : List ℕ). at y lane) e ∙ xored_at before v lane (omega arith)
      ∙ ap (λ (x : ℕ). bit_xor x (at v lane)) (sym (at_left before s 0x20 lane row h))))

  pub on_first_row : (mask : List ℕ) (lane : ℕ) → mask ≡ xored before v → lane < 0x20 → bit_xor (at s (0 + lane)) (at mask lane) ≡ on_at (0 + lane)
  on_first_row mask lane e h = let z : 0 + lane ≡ lane = omega arith in rw z (on_first mask lane e h)

  -- one row by itself, the last
  pub on_short : (mask y : List ℕ) → mask ≡ xored before v → length s < 0x20 → y ≡ xored s mask → y ≡ cleared_on v before s
  on_short mask y e h f =
      on_is y (ap length f ∙ xored_length s mask)
      (λ p k. ap (λ (z : List ℕ). at z p) f ∙ xored_at s mask p k ∙ on_first mask p e (omega arith))

  -- the rows, of which the first is clear by now
  module _ (t : List ℕ) (u : Upto on_at s t 0x20) where
    onward : (r lane : ℕ) → lane < 0x20 → clear_after v t r lane ≡ clear_after v (before ++ s) (suc r) lane
    unfolding clear_after
    onward zero lane h =
        let r : lane / 0x20 ≡ 0 = omega arith in
        let l : lane % 0x20 ≡ lane = omega arith in
        rw (r, l) at (u.below lane h)
    onward (suc r) lane h =
        ap₂ (λ (x y : ℕ). bit_xor x (bit_xor y (at v lane)))
        (u.above (suc r * 0x20 + lane) (omega arith) ∙ sym (behind (suc r) lane)) (onward r lane h)

    pub on_rows : (y : List ℕ) → y ≡ cleared_rows v t → y ≡ cleared_on v before s
    on_rows y f =
        on_is y (ap length f ∙ where_length all v t ∙ u.len)
        (λ p k. ap (λ (z : List ℕ). at z p) f ∙ where_at all v t p (omega (arith, u.len)) ∙ onward (p / 0x20) (p % 0x20) (omega arith))
