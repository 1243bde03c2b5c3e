-- A name, compared byte by byte. Assumes nothing.
use mathlib.Core.Path.{◌≡◌, ◌∙◌}
use mathlib.Core.List.{List}
use mathlib.Core.Bool.{false, cond}
use Prim.Native.Nat.{ℕ, ◌+◌, ◌≤◌, ◌<◌}
use native.Mathlib.Numerals.{add-one}
use native.Mathlib.Omega.{arith}
use lib.ListN.{length, drop, drop_of_length-le}
use lib.Seq.{drop-cons}
use lib.Dec.{eqb}
use borrow.Author.Tests.{eq-eqb, ne_eqb}
use Rattle.laws.specs.Lists.{at}
use Rattle.lookup.specs.Names.{spells}

module _ (b name : List ℕ) (p i : ℕ) where
  step : i < length name
      → spells b (p + i) (drop i name) ≡ cond (eqb (at b (p + i)) 0) false (cond (eqb (at b (p + i)) (at name i)) (spells b (p + (i + 1)) (drop (i + 1) name)) false)
  unfolding spells
  step h =
      let e : p + i + 1 ≡ p + (i + 1) = omega arith in
      rw (drop-cons name i 0 h, ← e, add-one i)

  -- the text ends before the name does
  pub ended : i < length name → at b (p + i) ≡ 0 → spells b (p + i) (drop i name) ≡ false
  ended h e = step h ∙ rw (eq-eqb (at b (p + i)) 0 e)

  pub differs : i < length name → (at b (p + i) ≡ 0 → ⊥) → (at b (p + i) ≡ at name i → ⊥) → spells b (p + i) (drop i name) ≡ false
  differs h e f = step h ∙ rw (ne_eqb (at b (p + i)) 0 e, ne_eqb (at b (p + i)) (at name i) f)

  pub same : i < length name → (at b (p + i) ≡ 0 → ⊥) → at b (p + i) ≡ at name i → spells b (p + i) (drop i name) ≡ spells b (p + (i + 1)) (drop (i + 1) name)
  same h e f = step h ∙ rw (ne_eqb (at b (p + i)) 0 e, eq-eqb (at b (p + i)) (at name i) f)

  pub over : length name ≤ i → spells b (p + i) (drop i name) ≡ eqb (at b (p + i)) 0
  unfolding spells
  over h = rw (drop_of_length-le name h)
