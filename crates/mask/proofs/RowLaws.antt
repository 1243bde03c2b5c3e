-- A row of bytes XORed with a row of a table. Assumes nothing.
use mathlib.Core.Path.{◌≡◌, ap, ◌∙◌}
use mathlib.Core.List.{List, ◌++◌}
use Prim.Native.Nat.{ℕ, ◌+◌, ◌-◌, ◌≤◌, ◌<◌}
use native.Mathlib.Omega.{arith}
use lib.ListN.{length, take, drop}
use lib.Bits.{bit_xor}
use Rattle.laws.specs.Lists.{at}
use Rattle.laws.proofs.TabLaws.{tab_length, tab_at}
use Rattle.laws.proofs.SpliceLaws.{part_at_lem, part_length}
use Rattle.laws.proofs.UptoLaws.{Upto, upto_part}
use Rattle.mask.specs.Rows.{xored}

pub xored_length : (bytes row : List ℕ) → length (xored bytes row) ≡ length bytes
unfolding xored
xored_length bytes row = tab_length _ (length bytes)

pub xored_at : (bytes row : List ℕ) (lane : ℕ) → lane < length bytes → at (xored bytes row) lane ≡ bit_xor (at bytes lane) (at row lane)
unfolding xored
xored_at bytes row lane h = tab_at (λ i. bit_xor (at bytes i) (at row i)) (length bytes) lane h

-- a part of s from i to e, XORed with a row
pub xored_part : (s row : List ℕ) (i e lane : ℕ) → e ≤ length s → lane < e - i
    → at (xored (take (e - i) (drop i s)) row) lane ≡ bit_xor (at s (i + lane)) (at row lane)
xored_part s row i e lane h k =
    xored_at (take (e - i) (drop i s)) row lane (omega (arith, part_length s i e h))
    ∙ ap (λ (z : ℕ). bit_xor z (at row lane)) (part_at_lem s i e lane k)

-- the next part of s, which is as it was, is XORed with a row
pub upto_xored : (f : ℕ → ℕ) (s₀ s y row : List ℕ) (i e : ℕ) → Upto f s₀ s i → i ≤ e → e ≤ length s
    → y ≡ xored (take (e - i) (drop i s)) row
    → ((lane : ℕ) → lane < e - i → bit_xor (at s₀ (i + lane)) (at row lane) ≡ f (i + lane))
    → Upto f s₀ (take i s ++ (y ++ drop (e - i) (drop i s))) e
upto_xored f s₀ s y row i e u h k q g =
    upto_part f s₀ s y i i e u (omega arith) h k (ap length q ∙ xored_length _ row ∙ part_length s i e k)
    (λ lane l.
    ap (λ (z : List ℕ). at z lane) q ∙ xored_part s row i e lane k l
    ∙ ap (λ (z : ℕ). bit_xor z (at row lane)) (u.above (i + lane) (omega arith))
    ∙ g lane l)
