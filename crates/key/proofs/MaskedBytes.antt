-- Two keys agree in the bits that lanes show exactly when they agree in the bytes that these lanes show: a mask keeps a byte, its low half or nothing.
-- Assumes nothing.
use Rattle.std.proofs.Common.{◌≡◌, ℕ, suc, ◌+◌, ◌-◌, ◌*◌, ◌/◌, ◌%◌, ◌^◌, ◌<◌, Bool, true, false, cond, ltb, ◌↔◌, sym, refl, ap, ◌∙◌, pow-suc, arith, ltb-false, ltb-true}
use mathlib.Core.Logic.Iff
use native.Mathlib.Nat.{div-div-eq-div-mul}
use lib.Bits.{bit_and, and_lt, and_mask, and_zero_r}
use Rattle.key.specs.KeyTable.{key_byte}
use Rattle.key.specs.LaneBits.{showing, bits_in, AgreeIn}
use Rattle.key.proofs.AndLaws.{and_byte}
use Rattle.key.proofs.LaneBytes.{Seen}

small : (n : ℕ) → n % 256 < 256
small n = omega arith

two_parts : (a b c d : ℕ) → b < 256 → d < 256 → (a * 256 + b ≡ c * 256 + d) ↔ (b ≡ d) × (a ≡ c)
two_parts a b c d h l = (λ e. (omega arith, omega arith), λ e. omega arith)

-- what lies above a byte
above : (k i : ℕ) → k / 256 ^ i / 256 ≡ k / 256 ^ suc i
above k i = div-div-eq-div-mul k (256 ^ i) 256 ∙ ap (λ (z : ℕ). k / z) (sym (pow-suc 256 i))

whole : (k : ℕ) → k / 256 ^ 0 ≡ k
whole k = omega arith

-- two keys masked, from their byte i on
byte_and_rest : (k k' i m r : ℕ) → r < 256
    → AgreeIn (m * 256 + r) (k / 256 ^ i) (k' / 256 ^ i) ↔ AgreeIn r (key_byte k i) (key_byte k' i) × AgreeIn m (k / 256 ^ suc i) (k' / 256 ^ suc i)
byte_and_rest k k' i m r h =
    rw (← above k i, ← above k' i, and_byte (k / 256 ^ i) m r h, and_byte (k' / 256 ^ i) m r h)
    (two_parts (bit_and (k / 256 ^ i / 256) m) (bit_and (key_byte k i) r) (bit_and (k' / 256 ^ i / 256) m) (bit_and (key_byte k' i) r)
    (and_lt 8 (key_byte k i) r (small (k / 256 ^ i)) h) (and_lt 8 (key_byte k' i) r (small (k' / 256 ^ i)) h))

-- j low bits, masked if a lane is shown
part_by : (lane bound j n n' : ℕ) (b : Bool) → ltb lane bound ≡ b → AgreeIn (cond b (2 ^ j - 1) 0) n n' ↔ (lane < bound → n % 2 ^ j ≡ n' % 2 ^ j)
part_by lane bound j n n' true e = rw (and_mask n j, and_mask n' j) (λ q _. q, λ f. f (ltb-true lane bound e))
part_by lane bound j n n' false e =
    let past = ltb-false lane bound e in
    rw (and_zero_r n, and_zero_r n') (λ _ h. absurd (omega arith), λ _. refl)

part : (lane bound j n n' : ℕ) → AgreeIn (showing bound lane (2 ^ j - 1)) n n' ↔ (lane < bound → n % 2 ^ j ≡ n' % 2 ^ j)
part lane bound j n n' = part_by lane bound j n n' (ltb lane bound) refl

-- a byte, masked if a lane is shown
byte_part : (lane bound n n' : ℕ) → AgreeIn (showing bound lane 0xFF) (n % 256) (n' % 256) ↔ (lane < bound → n % 256 ≡ n' % 256)
byte_part lane bound n n' =
    let twice : (z : ℕ) → z % 256 % 256 ≡ z % 256 = λ z. omega arith in
    rw (twice n, twice n') at (part lane bound 8 (n % 256) (n' % 256))

showing_small : (lanes lane bits : ℕ) → bits < 256 → showing lanes lane bits < 256
showing_small lanes lane bits h = by_test (ltb lane lanes)
  where
    by_test : (b : Bool) → cond b bits 0 < 256
    by_test true = h
    by_test false = omega arith

-- bits that are shifted, if a lane is shown
shifted : (lanes lane bits place : ℕ) → showing lanes lane (bits * place) ≡ showing lanes lane bits * place
shifted lanes lane bits place = by_test (ltb lane lanes)
  where
    by_test : (b : Bool) → cond b (bits * place) 0 ≡ cond b bits 0 * place
    by_test true = refl
    by_test false = omega arith

module _ (lanes : ℕ) where
  abbrev s0 : ℕ
  s0 = showing lanes 0 0xFF

  abbrev s1 : ℕ
  s1 = showing lanes 8 0xFF

  abbrev s2 : ℕ
  s2 = showing lanes 2 0xFF

  abbrev s3 : ℕ
  s3 = showing lanes 0xE 0xFF

  abbrev s4 : ℕ
  s4 = showing lanes 4 0xF

  abbrev s5 : ℕ
  s5 = showing lanes 0x18 0xFF

  abbrev s6 : ℕ
  s6 = showing lanes 6 0xFF

  -- the bits from each byte on
  abbrev from_5 : ℕ
  from_5 = s6 * 256 + s5

  abbrev from_4 : ℕ
  from_4 = from_5 * 256 + s4

  abbrev from_3 : ℕ
  from_3 = from_4 * 256 + s3

  abbrev from_2 : ℕ
  from_2 = from_3 * 256 + s2

  abbrev from_1 : ℕ
  from_1 = from_2 * 256 + s1

  sum_is : (a b c d e f g : ℕ) {x1 x2 x3 x4 x5 x6 : ℕ}
      → x2 ≡ c * 256 ^ 2 → x4 ≡ e * 256 ^ 4 → x6 ≡ g * 256 ^ 6 → x1 ≡ b * 256 ^ 1 → x3 ≡ d * 256 ^ 3 → x5 ≡ f * 256 ^ 5
      → a + x2 + x4 + x6 + x1 + x3 + x5 ≡ (((((g * 256 + f) * 256 + e) * 256 + d) * 256 + c) * 256 + b) * 256 + a
  sum_is a b c d e f g e2 e4 e6 e1 e3 e5 = omega arith

  byte_by_byte : bits_in lanes ≡ from_1 * 256 + s0
  unfolding bits_in
  byte_by_byte =
      sum_is s0 s1 s2 s3 s4 s5 s6 (shifted lanes 2 0xFF (256 ^ 2)) (shifted lanes 4 0xF (256 ^ 4)) (shifted lanes 6 0xFF (256 ^ 6)) (shifted lanes 8 0xFF (256 ^ 1))
      (shifted lanes 0xE 0xFF (256 ^ 3)) (shifted lanes 0x18 0xFF (256 ^ 5))

  -- keys agree in the bits that lanes show exactly when they agree in the bytes
  module _ (k k' : ℕ) where
    -- from a byte on, of which a lane shows all bits
    next : (i m lane : ℕ)
        → AgreeIn (m * 256 + showing lanes lane 0xFF) (k / 256 ^ i) (k' / 256 ^ i)
        ↔ (lane < lanes → key_byte k i ≡ key_byte k' i) × AgreeIn m (k / 256 ^ suc i) (k' / 256 ^ suc i)
    next i m lane =
        let both = byte_and_rest k k' i m (showing lanes lane 0xFF) (showing_small lanes lane 0xFF (omega arith)) in
        let one = byte_part lane lanes (k / 256 ^ i) (k' / 256 ^ i) in
        (λ e. (one.0 (both.0 e).0, (both.0 e).1), λ e. both.1 (one.1 e.0, e.1))

    -- and from byte 4 on, of which lane 4 shows the low half
    fourth : AgreeIn from_4 (k / 256 ^ 4) (k' / 256 ^ 4) ↔ (4 < lanes → key_byte k 4 % 16 ≡ key_byte k' 4 % 16) × AgreeIn from_5 (k / 256 ^ 5) (k' / 256 ^ 5)
    fourth =
        let both = byte_and_rest k k' 4 from_5 s4 (showing_small lanes 4 0xF (omega arith)) in
        let one = part 4 lanes 4 (key_byte k 4) (key_byte k' 4) in
        (λ e. (one.0 (both.0 e).0, (both.0 e).1), λ e. both.1 (one.1 e.0, e.1))

    from_the_start : AgreeIn (from_1 * 256 + s0) k k' ↔ AgreeIn (from_1 * 256 + s0) (k / 256 ^ 0) (k' / 256 ^ 0)
    from_the_start = rw (whole k, whole k') Iff.rfl

    zeroth : AgreeIn (bits_in lanes) k k' ↔ (0 < lanes → key_byte k 0 ≡ key_byte k' 0) × AgreeIn from_1 (k / 256 ^ 1) (k' / 256 ^ 1)
    zeroth = rw byte_by_byte (Iff.trans from_the_start (next 0 from_1 0))

    pub bits_are_bytes : AgreeIn (bits_in lanes) k k' ↔ Seen lanes k k'
    bits_are_bytes = (
      λ e0.
          let e1 = zeroth.0 e0 in
          let e2 = (next 1 from_2 8).0 e1.1 in
          let e3 = (next 2 from_3 2).0 e2.1 in
          let e4 = (next 3 from_4 0xE).0 e3.1 in
          let e5 = fourth.0 e4.1 in
          let e6 = (next 5 s6 0x18).0 e5.1 in
          record { b0 = e1.0; b1 = e2.0; b2 = e3.0; b3 = e4.0; b4 = e5.0; b5 = e6.0; b6 = (part 6 lanes 8 (k / 256 ^ 6) (k' / 256 ^ 6)).0 e6.1 },
      λ s.
          let e6 = (part 6 lanes 8 (k / 256 ^ 6) (k' / 256 ^ 6)).1 s.b6 in
          let e5 = (next 5 s6 0x18).1 (s.b5, e6) in
          let e4 = fourth.1 (s.b4, e5) in
          let e3 = (next 3 from_4 0xE).1 (s.b3, e4) in
          let e2 = (next 2 from_3 2).1 (s.b2, e3) in
          let e1 = (next 1 from_2 8).1 (s.b1, e2) in
          zeroth.1 (s.b0, e1),
    )
