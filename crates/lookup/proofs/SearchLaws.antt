-- One step of the search over the columns, and its end. Assumes nothing.
use Rattle.std.specs.Prelude.{Option}
use mathlib.Core.Path.{◌≡◌, refl, ap, ◌∙◌}
use mathlib.Core.List.{List}
use mathlib.Core.Bool.{Bool}
use Prim.Native.Nat.{ℕ, zero, suc, ◌+◌, ◌-◌, ◌≤◌, ◌<◌}
use native.Mathlib.Nat.{not-suc-le-zero}
use native.Mathlib.Omega.{arith}
use Rattle.laws.specs.Lists.{at}
use Rattle.word.specs.Numbers.{be32}
use Rattle.layout.specs.declared.Layout.{Layout}
use Rattle.column.specs.Storages.{in_record, in_row}
use Rattle.lookup.specs.declared.Mark.{Mark}
use Rattle.lookup.specs.Names.{spells}
use Rattle.lookup.specs.Search.{mark_if, search_from}

module _ (b : List ℕ) (l : Layout) (name : List ℕ) where
  pub search_end : (n p q : ℕ) (best : Option Mark) → n ≤ 0 → search_from b l name n p q best ≡ record { mark = best; width = q }
  unfolding search_from
  search_end zero p q best h = refl
  search_end (suc n) p q best h = absurd (not-suc-le-zero h)

  -- x is the type byte, r and w its bytes in the record and in a row, t the test of its name, m the mark then, as they were told
  pub search_next : (n p q x r w : ℕ) (t : Bool) (best m : Option Mark) → 0 < n → x ≡ at b p → r ≡ in_record l.mode x → w ≡ in_row l.mode x
      → t ≡ spells b (l.strings + be32 b (p + 1) - 24) name → m ≡ mark_if t p q best
      → search_from b l name n p q best ≡ search_from b l name (n - 1) (p + r) (q + w) m
  unfolding search_from
  search_next zero p q x r w t best m h e f g k j = absurd (not-suc-le-zero h)
  search_next (suc n) p q x r w t best m h e f g k j =
      let one : n ≡ suc n - 1 = omega arith in
      let f' : r ≡ in_record l.mode (at b p) = f ∙ ap (in_record l.mode) e in
      let g' : w ≡ in_row l.mode (at b p) = g ∙ ap (in_row l.mode) e in
      let j' : m ≡ mark_if (spells b (l.strings + be32 b (p + 1) - 24) name) p q best = j ∙ ap (λ (u : Bool). mark_if u p q best) k in
      rw (f', g', j', ← one)
