-- Eight rows after a clear one, made clear lane by lane. Assumes nothing.
use mathlib.Core.Path.{◌≡◌, refl, sym, ap, ap₂, ◌∙◌}
use mathlib.Core.Logic.{◌⊎◌, inl, inr, ⊎_elim}
use mathlib.Core.Bool.{Bool, true, false}
use mathlib.Core.List.{List}
use Prim.Native.Nat.{ℕ, zero, suc, ◌+◌, ◌*◌, ◌-◌, ◌/◌, ◌%◌, ◌≤◌, ◌<◌}
use native.Mathlib.Numerals.{add-one}
use native.Mathlib.Omega.{arith}
use lib.ListN.{length, set}
use lib.Dec.{ltb, eqb}
use lib.Bits.{bit_xor}
use borrow.Author.Tests.{lt-ltb, le-ltb, eq-eqb, ne_eqb, eqb-true, eqb-false}
use Rattle.laws.specs.Lists.{at}
use Rattle.laws.proofs.Side.{side}
use Rattle.laws.proofs.UptoLaws.{Upto, upto_start, upto_set, upto_over}
use Rattle.mask.specs.Rows.{clear_after, cleared_where, cleared_rows}
use Rattle.mask.proofs.ClearLaws.{cleared_at, all, where_length, where_at, where_is, row_of, lane_of}

known : (b : Bool) → (b ≡ true) ⊎ (b ≡ false)
known true = inl refl
known false = inr refl

-- a byte is made of the one before it in its lane
after_next : (v s : List ℕ) (r lane : ℕ) → bit_xor (at s ((r + 1) * 0x20 + lane)) (bit_xor (clear_after v s r lane) (at v lane)) ≡ clear_after v s (r + 1) lane
unfolding clear_after
after_next v s r lane = rw add-one

-- rows whose bytes agree in a lane have one clear byte there
same_lane : (v s s' : List ℕ) (r lane : ℕ) → ((k : ℕ) → k ≤ r → at s (k * 0x20 + lane) ≡ at s' (k * 0x20 + lane)) → clear_after v s r lane ≡ clear_after v s' r lane
unfolding clear_after
same_lane v s s' zero lane e = let z : 0 * 0x20 + lane ≡ lane = omega arith in rw z at (e 0 (omega arith))
same_lane v s s' (suc r) lane e =
    ap₂ (λ (x y : ℕ). bit_xor x (bit_xor y (at v lane))) (e (suc r) (omega arith)) (same_lane v s s' r lane (λ k h. e k (omega arith)))

-- ---- one lane: the others stay, and so does its first byte

abbrev pub only : ℕ → ℕ → Bool
only lane l = eqb l lane

module _ (v s : List ℕ) (lane : ℕ) (h : lane < 0x20) where
  other_stays : (p : ℕ) → (p % 0x20 ≡ lane → ⊥) → at s p ≡ cleared_at (only lane) v s p
  other_stays p d = rw (ne_eqb (p % 0x20) lane d)

  in_lane : (r : ℕ) → cleared_at (only lane) v s (r * 0x20 + lane) ≡ clear_after v s r lane
  in_lane r = rw (row_of r lane h, lane_of r lane h, eq-eqb lane lane refl)

  pub lane_start : Upto (cleared_at (only lane) v s) s s (1 * 0x20 + lane)
  unfolding clear_after
  lane_start =
      upto_start _ _ _
      (λ p l.
      ⊎_elim
      (λ (b : eqb (p % 0x20) lane ≡ true).
      let e : p % 0x20 ≡ lane = eqb-true (p % 0x20) lane b in
      let q : p ≡ 0 * 0x20 + lane = omega arith in
      let z : 0 * 0x20 + lane ≡ lane = omega arith in
      rw q (sym (in_lane 0 ∙ ap (at s) (sym z))))
      (λ (b : eqb (p % 0x20) lane ≡ false). other_stays p (eqb-false (p % 0x20) lane b))
      (known (eqb (p % 0x20) lane)))

  -- a byte of the lane is made, and the bytes up to the next stay
  pub lane_next : (t : List ℕ) (r b : ℕ) → Upto (cleared_at (only lane) v s) s t (r * 0x20 + lane) → r * 0x20 + lane < length t → b ≡ clear_after v s r lane
      → Upto (cleared_at (only lane) v s) s (set t (r * 0x20 + lane) b) ((r + 1) * 0x20 + lane)
  lane_next t r b u l e =
      upto_over _ _ _ _ _ (upto_set _ _ t (r * 0x20 + lane) b u l (e ∙ sym (in_lane r))) (omega arith)
      (λ p k m. other_stays p (λ q. omega arith))

  -- the byte that is made, of the bytes as they stand
  pub lane_byte : (t : List ℕ) (r clear mask : ℕ) → 1 ≤ r → Upto (cleared_at (only lane) v s) s t (r * 0x20 + lane) → clear ≡ clear_after v s (r - 1) lane → mask ≡ at v lane
      → bit_xor (at t (r * 0x20 + lane)) (bit_xor clear mask) ≡ clear_after v s r lane
  lane_byte t r clear mask k u e f =
      let q : r ≡ r - 1 + 1 = omega arith in
      ap₂ bit_xor (u.above (r * 0x20 + lane) (omega arith) ∙ ap (λ (n : ℕ). at s (n * 0x20 + lane)) q) (ap₂ bit_xor e f)
      ∙ after_next v s (r - 1) lane ∙ ap (λ (n : ℕ). clear_after v s n lane) (sym q)

-- ---- lane after lane

-- the lanes before one
abbrev pub before : ℕ → ℕ → Bool
before lane l = ltb l lane

pub no_lane : (v s : List ℕ) → s ≡ cleared_where (before 0) v s
no_lane v s = where_is (before 0) v s s refl (λ p h. rw (le-ltb (p % 0x20) 0 (omega arith)))

pub all_lanes : (v s : List ℕ) → cleared_where (before 0x20) v s ≡ cleared_rows v s
all_lanes v s =
    where_is all v s (cleared_where (before 0x20) v s) (where_length (before 0x20) v s)
    (λ p h. where_at (before 0x20) v s p h ∙ rw (lt-ltb (p % 0x20) 0x20 (omega arith)))

module _ (v s t : List ℕ) (lane : ℕ) (e : t ≡ cleared_where (before lane) v s) where
  done_length : length t ≡ length s
  done_length = ap length e ∙ where_length (before lane) v s

  done_at : (p : ℕ) → p < length s → at t p ≡ cleared_at (before lane) v s p
  done_at p h = ap (λ (z : List ℕ). at z p) e ∙ where_at (before lane) v s p h

  -- the lane itself is still as it was
  lane_left : (k l : ℕ) → l < 0x20 → l ≡ lane → k * 0x20 + l < length s → at t (k * 0x20 + l) ≡ at s (k * 0x20 + l)
  lane_left k l h q m = done_at (k * 0x20 + l) m ∙ rw (lane_of k l h, le-ltb l lane (omega arith))

  pub lane_more : (t' : List ℕ) → t' ≡ cleared_where (only lane) v t → t' ≡ cleared_where (before (lane + 1)) v s
  lane_more t' e' =
      where_is (before (lane + 1)) v s t' (ap length e' ∙ where_length (only lane) v t ∙ done_length)
      (λ p h.
      ap (λ (z : List ℕ). at z p) e' ∙ where_at (only lane) v t p (omega (arith, done_length))
      ∙ ⊎_elim
      (λ (b : eqb (p % 0x20) lane ≡ true).
      let q : p % 0x20 ≡ lane = eqb-true (p % 0x20) lane b in
      rw (b, lt-ltb (p % 0x20) (lane + 1) (omega arith))
      (same_lane v t s (p / 0x20) (p % 0x20) (λ k m. lane_left k (p % 0x20) (omega arith) q (omega arith))))
      (λ (b : eqb (p % 0x20) lane ≡ false).
      let d : p % 0x20 ≡ lane → ⊥ = eqb-false (p % 0x20) lane b in
      rw b
      (done_at p h
      ∙ ⊎_elim (λ (m : p % 0x20 < lane). rw (lt-ltb (p % 0x20) lane m, lt-ltb (p % 0x20) (lane + 1) (omega arith)))
      (λ (m : lane ≤ p % 0x20). rw (le-ltb (p % 0x20) lane m, le-ltb (p % 0x20) (lane + 1) (omega (arith, d))))
      (side (p % 0x20) lane)))
      (known (eqb (p % 0x20) lane)))
