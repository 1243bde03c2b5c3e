-- T's even lanes show the bytes that T is made of, one after another: T agrees in the even lanes below a bound exactly when the keys agree in the bytes that
-- these lanes show. Assumes nothing.
use Rattle.std.proofs.Common.{◌≡◌, ℕ, zero, suc, ◌*◌, ◌/◌, ◌%◌, ◌^◌, ◌<◌, ◌≤◌, List, [], ◌∷◌, take, sym, refl, ap, ◌∙◌, ⊎_elim, arith, get_or-take}
use lib.Bits.{bit_xor, xor_lt}
use Rattle.laws.specs.Lists.{at}
use Rattle.laws.proofs.Side.{side}
use Rattle.laws.proofs.XorLaws.{xor_back}
use Rattle.key.specs.KeyTable.{plus, minus, key_byte, table_by, table_t}
use Rattle.key.specs.CountingBits.{SameEvenLanes}

-- two keys agree in the bytes that the even lanes below a bound show
pub record Seen (bound k k' : ℕ) : Type 0 where
  pub b0 : 0 < bound → key_byte k 0 ≡ key_byte k' 0
  pub b2 : 2 < bound → key_byte k 2 ≡ key_byte k' 2
  pub b4 : 4 < bound → key_byte k 4 % 16 ≡ key_byte k' 4 % 16
  pub b6 : 6 < bound → key_byte k 6 ≡ key_byte k' 6
  pub b1 : 8 < bound → key_byte k 1 ≡ key_byte k' 1
  pub b3 : 0xE < bound → key_byte k 3 ≡ key_byte k' 3
  pub b5 : 0x18 < bound → key_byte k 5 ≡ key_byte k' 5

-- a sum or a difference with a byte that is known tells the other byte
plus_back : {c c' x y : ℕ} → c ≡ c' → x < 256 → y < 256 → plus x c ≡ plus y c' → x ≡ y
plus_back q h l e = omega arith

plus_from_back : {c c' x y : ℕ} → c ≡ c' → x < 256 → y < 256 → plus c x ≡ plus c' y → x ≡ y
plus_from_back q h l e = omega arith

minus_back : {c c' x y : ℕ} → c ≡ c' → c < 256 → x < 256 → y < 256 → minus x c ≡ minus y c' → x ≡ y
minus_back q m h l e = omega arith

minus_from_back : {c c' x y : ℕ} → c ≡ c' → x < 256 → y < 256 → minus c x ≡ minus c' y → x ≡ y
minus_from_back q h l e = omega arith

small : (n : ℕ) → n % 256 < 256
small n = omega arith

half_small : (n : ℕ) → n % 16 < 256
half_small n = omega arith

t5_small : (k : ℕ) → bit_xor (key_byte k 5) 0x13 < 256
t5_small k = xor_lt 8 (key_byte k 5) 0x13 (small (k / 256 ^ 5)) (omega arith)

-- lanes tell bytes: T8 = T2 + T1 shows k1; TE = (T8 - T3) ^ FF shows k3; T18 = T15 + T7, with T15 = T5 + ED, shows k5
pub seen_of : (bound k k' : ℕ) → SameEvenLanes bound k k' → Seen bound k k'
unfolding table_t table_by
seen_of bound k k' e =
    let t8 : 8 < bound → plus (key_byte k 2) (key_byte k 1) ≡ plus (key_byte k' 2) (key_byte k' 1) = λ h. e 8 h refl in
    record {
      b0 = λ h. e 0 h refl;
      b2 = λ h. e 2 h refl;
      b4 = λ h. plus_back refl (half_small _) (half_small _) (e 4 h refl);
      b6 = λ h. plus_back refl (small _) (small _) (e 6 h refl);
      b1 = λ h. plus_from_back (e 2 (omega arith) refl) (small _) (small _) (t8 h);
      b3 = λ h. minus_back refl (omega arith) (small _) (small _) (minus_from_back (t8 (omega arith)) (small _) (small _) (xor_back 0xFF _ _ (e 0xE h refl)));
      b5 = λ h. xor_back 0x13 _ _ (plus_back refl (t5_small k) (t5_small k') (plus_back (ap (λ (t : ℕ). bit_xor t 0xFF) (e 0 (omega arith) refl)) (small _) (small _) (e 0x18 h refl)));
    }

-- ---- bytes tell lanes

-- every second element, from the first
evens : List ℕ → List ℕ
evens [] = []
evens (x ∷ []) = x ∷ []
evens (x ∷ y ∷ xs) = x ∷ evens xs

two_more : (i : ℕ) → suc i * 2 ≡ suc (suc (i * 2))
two_more i = omega arith

even_at : (xs : List ℕ) (i : ℕ) → at (evens xs) i ≡ at xs (i * 2)
unfolding evens
even_at [] i = refl
even_at (x ∷ []) zero = refl
even_at (x ∷ []) (suc i) = rw two_more
even_at (x ∷ y ∷ xs) zero = refl
even_at (x ∷ y ∷ xs) (suc i) = rw two_more (even_at xs i)

-- the first n even lanes of T agree, whatever operation is put for xor
abbrev First : ℕ → ℕ → ℕ → Type 0
First n k k' = (xor : ℕ → ℕ → ℕ) → take n (evens (table_by xor k)) ≡ take n (evens (table_by xor k'))

-- and so does each of them
lane_of : (n k k' lane : ℕ) → First n k k' → lane < n * 2 → lane % 2 ≡ 0 → at (table_t k) lane ≡ at (table_t k') lane
unfolding table_t
lane_of n k k' lane same h even =
    let e : lane / 2 * 2 ≡ lane = omega arith in
    let nth : (key : ℕ) → at (table_t key) lane ≡ at (take n (evens (table_t key))) (lane / 2) =
    λ key. ap (at (table_t key)) (sym e) ∙ sym (even_at (table_t key) (lane / 2)) ∙ sym (get_or-take n (evens (table_t key)) (lane / 2) 0 (omega arith)) in
    nth k ∙ ap (λ (t : List ℕ). at t (lane / 2)) (same bit_xor) ∙ sym (nth k')

module _ (bound k k' : ℕ) (s : Seen bound k k') where
  first_1 : 0 < bound → First 1 k k'
  unfolding table_by evens
  first_1 h xor = rw (s.b0 h)

  first_2 : 2 < bound → First 2 k k'
  unfolding table_by evens
  first_2 h xor = rw (s.b0 (omega arith), s.b2 h)

  first_3 : 4 < bound → First 3 k k'
  unfolding table_by evens
  first_3 h xor = rw (s.b0 (omega arith), s.b2 (omega arith), s.b4 h)

  first_4 : 6 < bound → First 4 k k'
  unfolding table_by evens
  first_4 h xor = rw (s.b0 (omega arith), s.b2 (omega arith), s.b4 (omega arith), s.b6 h)

  first_7 : 8 < bound → First 7 k k'
  unfolding table_by evens
  first_7 h xor = rw (s.b0 (omega arith), s.b2 (omega arith), s.b4 (omega arith), s.b6 (omega arith), s.b1 h)

  first_12 : 0xE < bound → First 12 k k'
  unfolding table_by evens
  first_12 h xor = rw (s.b0 (omega arith), s.b2 (omega arith), s.b4 (omega arith), s.b6 (omega arith), s.b1 (omega arith), s.b3 h)

  -- all bytes: all of T
  all_of : 0x18 < bound → (xor : ℕ → ℕ → ℕ) → table_by xor k ≡ table_by xor k'
  unfolding table_by
  all_of h xor = rw (s.b0 (omega arith), s.b2 (omega arith), s.b4 (omega arith), s.b6 (omega arith), s.b1 (omega arith), s.b3 (omega arith), s.b5 h)

  pub same_table_of : 0x18 < bound → table_t k ≡ table_t k'
  unfolding table_t
  same_table_of h = all_of h bit_xor

  -- an even lane lies before the next lane that shows something more
  pub lanes_of : SameEvenLanes bound k k'
  lanes_of lane l even =
      ⊎_elim (λ (b : lane < 2). lane_of 1 k k' lane (first_1 (omega arith)) (omega arith) even) (λ (a2 : 2 ≤ lane).
      ⊎_elim (λ (b : lane < 4). lane_of 2 k k' lane (first_2 (omega arith)) (omega arith) even) (λ (a4 : 4 ≤ lane).
      ⊎_elim (λ (b : lane < 6). lane_of 3 k k' lane (first_3 (omega arith)) (omega arith) even) (λ (a6 : 6 ≤ lane).
      ⊎_elim (λ (b : lane < 8). lane_of 4 k k' lane (first_4 (omega arith)) (omega arith) even) (λ (a8 : 8 ≤ lane).
      ⊎_elim (λ (b : lane < 0xE). lane_of 7 k k' lane (first_7 (omega arith)) (omega arith) even) (λ (a_e : 0xE ≤ lane).
      ⊎_elim (λ (b : lane < 0x18). lane_of 12 k k' lane (first_12 (omega arith)) (omega arith) even) (λ (a18 : 0x18 ≤ lane).
      ap (λ (t : List ℕ). at t lane) (same_table_of (omega arith)))
      (side lane 0x18)) (side lane 0xE)) (side lane 8)) (side lane 6)) (side lane 4)) (side lane 2)
