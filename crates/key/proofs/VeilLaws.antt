-- V and A, byte by byte, as one loop over T makes them from T and from a row of letters. Assumes nothing.
use Rattle.std.proofs.Common.{◌≡◌, ℕ, ◌/◌, ◌%◌, ◌<◌, ◌≤◌, cond, eqb, List, [], ◌∷◌, length, sym, refl, ap, ◌∙◌, arith, eq-eqb, ne_eqb}
use lib.Bits.{bit_xor}
use Rattle.laws.specs.Lists.{at, tab}
use Rattle.laws.proofs.TabLaws.{tab_at, tab_ext}
use Rattle.laws.proofs.UptoLaws.{Upto, upto_end}
use Rattle.key.specs.KeyTable.{letters, table_v, table_aat, table_a}

-- V and A at a position, made of T
abbrev pub v_at : List ℕ → ℕ → ℕ
v_at t i = bit_xor (at t i) 0xFF

abbrev pub a_at : List ℕ → ℕ → ℕ
a_at t i = cond (eqb (i % 2) 0) (v_at t i) (at letters (i / 2 % 4))

-- the row of letters, and its bytes by position
abbrev pub lettered : List ℕ
lettered =
    0 ∷ 0x55 ∷ 0 ∷ 0x52 ∷ 0 ∷ 0x55 ∷ 0 ∷ 0x43 ∷ 0 ∷ 0x55 ∷ 0 ∷ 0x52 ∷ 0 ∷ 0x55 ∷ 0 ∷ 0x43
    ∷ 0 ∷ 0x55 ∷ 0 ∷ 0x52 ∷ 0 ∷ 0x55 ∷ 0 ∷ 0x43 ∷ 0 ∷ 0x55 ∷ 0 ∷ 0x52 ∷ 0 ∷ 0x55 ∷ 0 ∷ 0x43 ∷ []

lettered_at : ℕ → ℕ
lettered_at i = cond (eqb (i % 2) 0) 0 (at letters (i / 2 % 4))

lettered_is : lettered ≡ tab lettered_at 32
unfolding tab lettered_at
lettered_is = refl

pub lettered_length : length lettered ≡ 32
lettered_length = refl

-- an even position takes T inverted, an odd one keeps its letter
pub even : (t : List ℕ) (i : ℕ) → i % 2 ≡ 0 → v_at t i ≡ a_at t i
even t i h = rw (eq-eqb (i % 2) 0 h)

pub odd : (t : List ℕ) (i : ℕ) → i < 32 → (i % 2 ≡ 0 → ⊥) → at lettered i ≡ a_at t i
unfolding lettered_at
odd t i l h = ap (λ (z : List ℕ). at z i) lettered_is ∙ tab_at lettered_at 32 i l ∙ rw (ne_eqb (i % 2) 0 h)

pub v_done : (t v : List ℕ) (i : ℕ) → Upto (v_at t) t v i → length t ≡ 32 → 32 ≤ i → v ≡ table_v t
unfolding table_v
v_done t v i u e h = upto_end (v_at t) t v i 32 u e h

pub a_done : (t a : List ℕ) (i : ℕ) → Upto (a_at t) lettered a i → 32 ≤ i → a ≡ table_a (table_v t)
unfolding table_a table_v
a_done t a i u h =
    tab_ext (table_aat (table_v t)) 32 a u.len
    (λ j k. u.below j (omega arith) ∙ ap (λ (z : ℕ). cond (eqb (j % 2) 0) z (at letters (j / 2 % 4))) (sym (tab_at (v_at t) 32 j k)))
