-- The head of a video payload, row by row: what each row is XORed with. Assumes nothing.
use mathlib.Core.Path.{◌≡◌, refl, ap, ap₂, ◌∙◌}
use mathlib.Core.List.{List}
use Prim.Native.Nat.{ℕ, zero, suc, ◌+◌, ◌*◌, ◌-◌, ◌/◌, ◌%◌, ◌≤◌, ◌<◌}
use native.Mathlib.Numerals.{add-one}
use native.Mathlib.Omega.{arith}
use lib.ListN.{length, take, drop}
use lib.Bits.{bit_xor}
use borrow.Author.Tests.{lt-ltb, le-ltb}
use Rattle.laws.specs.Lists.{at}
use Rattle.laws.proofs.UptoLaws.{Upto}
use Rattle.mask.specs.Rows.{xored}
use Rattle.mask.specs.Video.{tail, head_mask, xored_head_at}
use Rattle.mask.proofs.RowLaws.{xored_part}

-- T ^ the tail's rows before row r
unfoldable pub sofar : List ℕ → List ℕ → ℕ → ℕ → ℕ
sofar t s zero lane = at t lane
sofar t s (suc r) lane = head_mask t s r lane

pub sofar_start : (t s : List ℕ) (lane : ℕ) → at t lane ≡ sofar t s 0 lane
unfolding sofar
sofar_start t s lane = refl

mask_row : (t s : List ℕ) (r lane : ℕ) → bit_xor (tail s r lane) (sofar t s r lane) ≡ head_mask t s r lane
unfolding sofar head_mask
mask_row t s zero lane = refl
mask_row t s (suc r) lane = refl

-- one row more
pub sofar_next : (t s₀ s mask next : List ℕ) (r : ℕ) → Upto (xored_head_at t s₀) s₀ s (0x40 + r * 0x20) → r < 8 → 0x140 + r * 0x20 + 0x20 ≤ length s
    → next ≡ xored (take (0x140 + r * 0x20 + 0x20 - (0x140 + r * 0x20)) (drop (0x140 + r * 0x20) s)) mask
    → ((lane : ℕ) → lane < 0x20 → at mask lane ≡ sofar t s₀ r lane)
    → (lane : ℕ) → lane < 0x20 → at next lane ≡ sofar t s₀ (r + 1) lane
unfolding sofar
sofar_next t s₀ s mask next r u l h e b lane k =
    rw (add-one r)
    (ap (λ (z : List ℕ). at z lane) e ∙ xored_part s mask (0x140 + r * 0x20) (0x140 + r * 0x20 + 0x20) lane h (omega arith)
    ∙ ap₂ bit_xor (u.above (0x140 + r * 0x20 + lane) (omega arith)) (b lane k) ∙ mask_row t s₀ r lane)

pub head_before : (t s : List ℕ) (p : ℕ) → p < 0x40 → at s p ≡ xored_head_at t s p
unfolding xored_head_at
head_before t s p h = rw (lt-ltb p 0x40 h)

pub head_after : (t s : List ℕ) (p : ℕ) → 0x140 ≤ p → at s p ≡ xored_head_at t s p
unfolding xored_head_at
head_after t s p h = rw (le-ltb p 0x40 (omega arith), le-ltb p 0x140 h)

pub head_in : (t s : List ℕ) (p : ℕ) → 0x40 ≤ p → p < 0x140 → xored_head_at t s p ≡ bit_xor (at s p) (head_mask t s ((p - 0x40) / 0x20) (p % 0x20))
unfolding xored_head_at
head_in t s p l h = rw (le-ltb p 0x40 l, lt-ltb p 0x140 h)

-- a row, XORed with its mask, is the new row
pub head_row : (t s mask : List ℕ) (r lane : ℕ) → r < 8 → lane < 0x20 → at mask lane ≡ sofar t s (r + 1) lane
    → bit_xor (at s (0x40 + r * 0x20 + lane)) (at mask lane) ≡ xored_head_at t s (0x40 + r * 0x20 + lane)
unfolding xored_head_at sofar
head_row t s mask r lane l h e =
    let p : (0x40 + r * 0x20 + lane - 0x40) / 0x20 ≡ r = omega arith in
    let q : (0x40 + r * 0x20 + lane) % 0x20 ≡ lane = omega arith in
    rw (le-ltb (0x40 + r * 0x20 + lane) 0x40 (omega arith), lt-ltb (0x40 + r * 0x20 + lane) 0x140 (omega arith), p, q)
    (ap (bit_xor (at s (0x40 + r * 0x20 + lane))) (rw add-one at e))
