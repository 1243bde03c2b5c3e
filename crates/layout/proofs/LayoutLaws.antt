-- A slice that is too short for a layout, and what a layout that was read is known to have. Assumes nothing.
use Rattle.std.specs.Prelude.{Result, Ok, Err}
use mathlib.Core.Path.{◌≡◌, refl, ap}
use mathlib.Core.List.{List}
use mathlib.Core.Bool.{Bool, true, false, not, cond}
use Prim.Native.Nat.{ℕ, ◌+◌, ◌-◌, ◌≤◌, ◌<◌}
use native.Mathlib.Omega.{arith}
use lib.ListN.{length, take, drop}
use lib.Dec.{ltb, eqb}
use borrow.Author.Tests.{lt-ltb, ltb-false}
use Rattle.word.specs.Numbers.{be16, be32}
use Rattle.reading.specs.declared.TableMode.{TableMode}
use Rattle.refusal.specs.declared.Cause.{Cause}
use Rattle.refusal.specs.declared.Cause.TheVariants as cause
use Rattle.layout.specs.declared.Layout.{Layout}
use Rattle.layout.specs.Layouts.{laid_in, counted_in, layout_in, body_of}

-- fewer bytes than the signature has
pub short : (t : List ℕ) (m : TableMode) → length t < 4 → Err cause.RanOut ≡ layout_in t m
unfolding layout_in
short t m h = rw (lt-ltb (length t) 4 h)

-- ---- a layout that was read

unrefused : (b : Bool) (why : Cause) (l : Layout) (next : Result Layout Cause) → cond b (Err why) next ≡ Ok l → (b ≡ false) × (next ≡ Ok l)
unrefused true why l next e = let z : ◌≡◌ {A = ℕ} 0 1 = cc in absurd (omega arith)
unrefused false why l next e = (refl, e)

counted_sound : (t : List ℕ) (m : TableMode) (size : ℕ) (l : Layout) → counted_in t m size ≡ Ok l → (l.columns ≤ 64) × (l.rows ≤ 256) × (size ≡ l.size)
unfolding counted_in
counted_sound t m size l e =
    let a = unrefused (ltb 64 (be16 t 24)) cause.TooMany l _ e in
    let b = unrefused (ltb 256 (be32 t 28)) cause.TooMany l _ a.1 in
    let is : laid_in t m size ≡ l = cc in
    let columns : be16 t 24 ≡ l.columns = ap (λ (x : Layout). x.columns) is in
    let rows : be32 t 28 ≡ l.rows = ap (λ (x : Layout). x.rows) is in
    (rw columns at (ltb-false 64 (be16 t 24) a.0), rw rows at (ltb-false 256 (be32 t 28) b.0), ap (λ (x : Layout). x.size) is)

-- its counts are within the limits, its size is that of the header, and its body is there
pub sound : (t : List ℕ) (m : TableMode) (l : Layout) → layout_in t m ≡ Ok l
    → (l.columns ≤ 64) × (l.rows ≤ 256) × (be32 t 4 ≡ l.size + 24) × (32 + l.size ≤ length t)
unfolding layout_in
sound t m l e =
    let a = unrefused (ltb (length t) 4) cause.RanOut l _ e in
    let b = unrefused (not (eqb (be32 t 0) 0x40555446)) cause.NoTable l _ a.1 in
    let d = unrefused (ltb (length t) 32) cause.RanOut l _ b.1 in
    let f = unrefused (ltb (be32 t 4) 24) cause.TooSmall l _ d.1 in
    let g = unrefused (ltb (length t) (32 + (be32 t 4 - 24))) cause.RanOut l _ f.1 in
    let k = counted_sound t m (be32 t 4 - 24) l g.1 in
    let large = ltb-false (be32 t 4) 24 f.0 in
    let there = ltb-false (length t) (32 + (be32 t 4 - 24)) g.0 in
    (k.0, k.1, omega (arith, large, k.2), omega (arith, there, k.2))

-- the body as it is cut out of the slice
pub body_cut : (t : List ℕ) (l : Layout) → take (32 + l.size - 32) (drop 32 t) ≡ body_of t l
body_cut t l =
    let e : 32 + l.size - 32 ≡ l.size = omega arith in
    ap (λ (n : ℕ). take n (drop 32 t)) e
