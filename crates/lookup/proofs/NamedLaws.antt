-- A search over the columns marks the last that has the name, by its number; and a row is as long as its columns' cells. Assumes nothing.
use Rattle.std.specs.Prelude.{Option, Some}
use Prim.Native.Nat.{ℕ, zero, suc, ◌+◌, ◌≤◌, ◌<◌}
use mathlib.Core.Path.{◌≡◌, refl, ap}
use mathlib.Core.Logic.{◌⊎◌, inl, inr, ⊎_elim}
use mathlib.Core.Bool.{Bool, true, false}
use mathlib.Core.List.{List}
use native.Mathlib.Omega.{arith}
use Rattle.laws.proofs.Side.{side}
use Rattle.layout.specs.declared.Layout.{Layout}
use Rattle.lookup.specs.declared.Mark.{Mark}
use Rattle.lookup.specs.Search.{mark_if, search_from}
use Rattle.lookup.specs.Numbers.{record_at, offset_at}
use Rattle.lookup.specs.Promises.{is_named, LastNamed}

module _ (b : List ℕ) (l : Layout) (name : List ℕ) where
  -- what a search says that began at column j with a mark
  abbrev Marks : ℕ → Option Mark → Option Mark → Type 0
  Marks j best mark =
      ((k : ℕ) × (j ≤ k) × LastNamed b l name k × (mark ≡ Some (record { entry = record_at b l k; offset = offset_at b l k })))
      ⊎ (((i : ℕ) → j ≤ i → i < l.columns → is_named b l name i ≡ false) × (mark ≡ best))

  -- with one column before it, which has the name or not
  one_before : (j : ℕ) (best mark : Option Mark) → j < l.columns → (t : Bool) → is_named b l name j ≡ t
      → Marks (suc j) (mark_if t (record_at b l j) (offset_at b l j) best) mark → Marks j best mark
  one_before j best mark h t e (inl (k, f, last, m)) = inl (k, omega arith, last, m)
  one_before j best mark h true e (inr (none, m)) =
      inl (j, omega arith, record { within = h; named = e; last = λ i f g. none i (omega arith) g }, m)
  one_before j best mark h false e (inr (none, m)) =
      inr ((λ i f g. ⊎_elim (λ (q : i < suc j). let at_j : i ≡ j = omega arith in rw at_j e) (λ (q : suc j ≤ i). none i q g) (side i (suc j))), m)

  pub searched : (n j : ℕ) → j + n ≡ l.columns → (best : Option Mark)
      → ((search_from b l name n (record_at b l j) (offset_at b l j) best).width ≡ offset_at b l l.columns)
      × Marks j best (search_from b l name n (record_at b l j) (offset_at b l j) best).mark
  unfolding search_from record_at offset_at
  searched zero j e best =
      let all : j ≡ l.columns = omega arith in
      (ap (offset_at b l) all, inr ((λ i f g. absurd (omega arith)), refl))
  searched (suc n) j e best =
      let rest = searched n (suc j) (omega arith) (mark_if (is_named b l name j) (record_at b l j) (offset_at b l j) best) in
      (rest.0, one_before j best (search_from b l name (suc n) (record_at b l j) (offset_at b l j) best).mark (omega arith) (is_named b l name j) refl rest.1)
