-- A byte within quotes, a field that is put byte by byte, what stands after a field, and a number by its sign: a law for each return of the code. Assumes nothing.
use mathlib.Core.Path.{◌≡◌, refl, subst}
use mathlib.Core.List.{List, [], ◌∷◌, ◌++◌}
use mathlib.Core.Bool.{Bool, true, false}
use Prim.Native.Nat.{ℕ, zero, suc, ◌+◌, ◌≤◌, ◌<◌}
use native.Mathlib.Numerals.{add-one}
use native.Mathlib.Nat.{not-suc-le-zero}
use native.Mathlib.Omega.{arith}
use lib.ListN.{length, drop, drop_of_length-le}
use lib.Seq.{drop-cons}
use lib.Dec.{T}
use lib.IntN.{ℤ, pos, negsuc, nat_abs}
use lib.Signed.{lt_z}
use mir.Syntax.{w32}
use mir.Val.{SFits, to_z, of_z}
use mir.Facts.{to_z-of_z}
use borrow.Author.Tests.{eq-eqb, ne_eqb, ltb-true}
use Rattle.laws.specs.Lists.{at}
use Rattle.text.specs.Numbers.{decimal}
use Rattle.csv_text.specs.Written.{quote, comma, cr, lf, escaped, doubled, mark_after}
use Rattle.table_csv.specs.Texts.{signed_text}

pub escaped_quote : (byte : ℕ) → byte ≡ quote → quote ∷ quote ∷ [] ≡ escaped byte
escaped_quote byte e = rw (eq-eqb byte quote e)

pub escaped_other : (byte : ℕ) → (byte ≡ quote → ⊥) → byte ∷ [] ≡ escaped byte
escaped_other byte e = rw (ne_eqb byte quote e)

-- ---- with the bytes that are left put after it, what stands there is the whole

module _ (field : List ℕ) (i : ℕ) where
  pub doubled_next : i < length field → doubled (drop i field) ≡ escaped (at field i) ++ doubled (drop (i + 1) field)
  unfolding doubled
  doubled_next h = rw (add-one, drop-cons field i 0 h)

  pub doubled_over : length field ≤ i → doubled (drop i field) ≡ []
  unfolding doubled
  doubled_over h = rw (drop_of_length-le field h)

-- ---- what stands after a field

pub mark_last : (more : ℕ) → more ≡ 0 → cr ∷ lf ∷ [] ≡ mark_after more
mark_last more e = rw e

pub mark_between : (more : ℕ) → (more ≡ 0 → ⊥) → comma ∷ [] ≡ mark_after more
mark_between zero e = absurd (e refl)
mark_between (suc more) e = refl

-- ---- a number by its sign

negative : (z : ℤ) (n : ℕ) → lt_z z (pos 0) ≡ true → n ≡ nat_abs z → (0x2D ∷ []) ++ decimal n ≡ signed_text z
unfolding signed_text
negative (pos m) n h e = absurd (not-suc-le-zero (ltb-true m 0 h))
negative (negsuc k) n h e =
    let same : n ≡ k + 1 = omega (arith, e) in
    rw same

other : (z : ℤ) (n : ℕ) → lt_z z (pos 0) ≡ false → n ≡ nat_abs z → decimal n ≡ signed_text z
unfolding signed_text
other (pos m) n h e = rw e
other (negsuc k) n h e = absurd (subst (λ (b : Bool). T b) h tt)

module _ (z : ℤ) (f : SFits w32 z) (n : ℕ) (size : n ≡ nat_abs z) where
  pub negative_text : lt_z (to_z w32 (of_z w32 z)) (pos 0) ≡ true → (0x2D ∷ []) ++ decimal n ≡ signed_text z
  negative_text h = negative z n (rw (to_z-of_z f) at h) size

  pub other_text : lt_z (to_z w32 (of_z w32 z)) (pos 0) ≡ false → decimal n ≡ signed_text z
  other_text h = other z n (rw (to_z-of_z f) at h) size
