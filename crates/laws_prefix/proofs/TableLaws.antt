-- A table in a slice, and a cell of it, are the same with more bytes behind the slice, and are refused alike, unless the slice's bytes run out: all of it lies within. Assumes nothing.
use Rattle.std.specs.Prelude.{Result, Ok, Err}
use Rattle.refusal.specs.declared.Refusal.{Refusal}
use Rattle.refusal.specs.declared.Cause.{Cause}
use Prim.Native.Nat.{ℕ, ◌+◌, ◌-◌, ◌≤◌, ◌<◌}
use mathlib.Core.Path.{◌≡◌, refl, sym, ap, ◌∙◌, subst}
use mathlib.Core.List.{List, ◌++◌}
use mathlib.Core.Bool.{Bool, not}
use mathlib.Core.Logic.{⊎_elim}
use native.Mathlib.Omega.{arith}
use lib.ListN.{length, drop, length-drop}
use lib.Seq.{drop-append-le}
use lib.Dec.{ltb, eqb}
use borrow.Author.Tests.{le-ltb, ltb-false}
use Rattle.laws.proofs.Side.{side}
use Rattle.word.specs.Numbers.{be32}
use Rattle.refusal.specs.declared.Cause.TheVariants as cause
use Rattle.reading.specs.declared.TableMode.{TableMode}
use Rattle.layout.specs.declared.Layout.{Layout}
use Rattle.layout.specs.Layouts.{counted_in, layout_in, body_of}
use Rattle.layout.proofs.LayoutLaws.{sound, short}
use Rattle.table.specs.Walks.{walk_of}
use Rattle.table.specs.Tables.{table_to, table_from, table_of, table_at}
use Rattle.table.proofs.TableLaws.{past_the_end}
use Rattle.table.proofs.Promises.{AcceptedLiesWithin}
use Rattle.lookup.specs.Lookups.{cell_from, after_table, cell_of, last_row, last_cell_of}
use Rattle.laws_prefix.specs.Needs.{is_laid}
use Rattle.laws_prefix.proofs.ByteLaws.{longer, be16_kept, be32_kept, taken_kept}
use Rattle.laws_prefix.proofs.Settled.{Settled, cut_or, test_or, layout_open, table_open, cell_open, none}

-- ---- a table that t begins with

module _ (t more : List ℕ) (m : TableMode) where
  body_kept : (l : Layout) → 32 + l.size ≤ length t → body_of (t ++ more) l ≡ body_of t l
  body_kept l h = taken_kept t more 32 l.size h

  counted_same : (size : ℕ) → 32 ≤ length t → counted_in (t ++ more) m size ≡ counted_in t m size
  unfolding counted_in
  counted_same size h =
      rw (be16_kept t more 10 (omega arith), be32_kept t more 12 (omega arith), be32_kept t more 16 (omega arith), be16_kept t more 24 (omega arith), be32_kept t more 28 (omega arith))

  layout_settled : Settled layout_open (layout_in t m) (layout_in (t ++ more) m)
  unfolding layout_in
  layout_settled =
      let n = longer t more in
      cut_or layout_open (ltb (length t) 4) (ltb (length (t ++ more)) 4) (Err cause.RanOut) _ _ (λ e. refl)
      (λ e4.
      let four = ltb-false (length t) 4 e4 in (
        le-ltb (length (t ++ more)) 4 (omega (arith, n, four)),
        rw (be32_kept t more 0 (omega arith))
            (test_or layout_open (not (eqb (be32 t 0) 0x40555446)) (Err cause.NoTable) _ _
            (cut_or layout_open (ltb (length t) 32) (ltb (length (t ++ more)) 32) (Err cause.RanOut) _ _ (λ e. refl)
            (λ e32.
            let all = ltb-false (length t) 32 e32 in (
              le-ltb (length (t ++ more)) 32 (omega (arith, n, all)),
              rw (be32_kept t more 4 (omega arith))
                  (test_or layout_open (ltb (be32 t 4) 24) (Err cause.TooSmall) _ _
                  (cut_or layout_open (ltb (length t) (32 + (be32 t 4 - 24))) (ltb (length (t ++ more)) (32 + (be32 t 4 - 24))) (Err cause.RanOut) _ _ (λ e. refl)
                  (λ body.
                  let there = ltb-false (length t) (32 + (be32 t 4 - 24)) body in
                  (le-ltb (length (t ++ more)) (32 + (be32 t 4 - 24)) (omega (arith, n, there)), λ unless. counted_same (be32 t 4 - 24) all)))),
            )))),
      ))

  abbrev laid : Bool
  laid = is_laid (layout_in t m)

  from_settled : (place : ℕ) (x : Result Layout Cause) → layout_in t m ≡ x → Settled (table_open laid) (table_from place t x) (table_of place (t ++ more) m)
  unfolding table_of
  from_settled place (Ok l) e unless =
      let f : layout_in (t ++ more) m ≡ Ok l = layout_settled (rw e none) ∙ e in
      ap (table_from place (t ++ more)) f ∙ ap (λ (b : List ℕ). table_to place l (walk_of b l)) (body_kept l (sound t m l e).3)
  from_settled place (Err why) e unless =
      let closed : layout_open (Err why) → ⊥ = λ one. unless (one, ap is_laid e) in
      ap (table_from place (t ++ more)) (layout_settled (rw e closed) ∙ e)

  table_of_settled : (place : ℕ) → Settled (table_open laid) (table_of place t m) (table_of place (t ++ more) m)
  unfolding table_of
  table_of_settled place = from_settled place (layout_in t m) refl

-- ---- a table at a place, and its cells

module _ (s more : List ℕ) (place : ℕ) (m : TableMode) where
  abbrev there : Bool
  there = is_laid (layout_in (drop place s) m)

  pub table_settled : Settled (table_open there) (table_at s place m) (table_at (s ++ more) place m)
  table_settled unless =
      ⊎_elim
      (λ (h : length s < place).
      let short-of : length (drop place s) < 4 = omega (arith, length-drop place s) in
      absurd (unless (subst (table_open there) (past_the_end s place m h) (refl, ap is_laid (sym (short (drop place s) m short-of))))))
      (λ (h : place ≤ length s). rw (drop-append-le place s more h) (table_of_settled (drop place s) more m place unless))
      (side (length s) place)

  from_kept : (name : List ℕ) (row : ℕ) (l : Layout) → place + (32 + l.size) ≤ length s → cell_from (s ++ more) place name row l ≡ cell_from s place name row l
  unfolding cell_from
  from_kept name row l h =
      rw (drop-append-le place s more (omega arith), body_kept (drop place s) more m l (simp length-drop (omega arith)))

  cell_after : (name : List ℕ) (row : ℕ) (x : Result Layout Refusal) → table_at s place m ≡ x → Settled (cell_open there) (after_table (cell_from s place name row) x) (cell_of (s ++ more) place m name row)
  cell_after name row (Ok l) e unless =
      ap (after_table (cell_from (s ++ more) place name row)) (table_settled (rw e none) ∙ e) ∙ from_kept name row l (AcceptedLiesWithin s place m l e).3
  cell_after name row (Err refusal) e unless = ap (after_table (cell_from (s ++ more) place name row)) (table_settled (rw e unless) ∙ e)

  pub cell_settled : (name : List ℕ) (row : ℕ) → Settled (cell_open there) (cell_of s place m name row) (cell_of (s ++ more) place m name row)
  cell_settled name row = cell_after name row (table_at s place m) refl

  last_after : (name : List ℕ) (x : Result Layout Refusal) → table_at s place m ≡ x → Settled (cell_open there) (after_table (cell_from s place name (last_row x)) x) (last_cell_of (s ++ more) place m name)
  last_after name (Ok l) e unless =
      ap (λ (x : Result Layout Refusal). after_table (cell_from (s ++ more) place name (last_row x)) x) (table_settled (rw e none) ∙ e)
      ∙ from_kept name (last_row (Ok l)) l (AcceptedLiesWithin s place m l e).3
  last_after name (Err refusal) e unless =
      ap (λ (x : Result Layout Refusal). after_table (cell_from (s ++ more) place name (last_row x)) x) (table_settled (rw e unless) ∙ e)

  pub last_settled : (name : List ℕ) → Settled (cell_open there) (last_cell_of s place m name) (last_cell_of (s ++ more) place m name)
  last_settled name = last_after name (table_at s place m) refl
