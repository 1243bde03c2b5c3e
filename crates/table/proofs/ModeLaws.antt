-- Both modes read a column alike whose nibble is 3, 5 or 7, and so a table that has no other. Assumes nothing.
use Rattle.std.specs.Prelude.{Option, Some, None, Result, Ok, Err}
use mathlib.Core.Path.{◌≡◌, refl, sym, ap, ap₂, ◌∙◌}
use mathlib.Core.List.{List}
use mathlib.Core.Bool.{Bool, true, false, not, cond, ◌||◌, ◌&&◌}
use Prim.Native.Nat.{ℕ, zero, suc, ◌+◌, ◌-◌, ◌/◌, ◌%◌}
use native.Mathlib.Omega.{arith}
use lib.ListN.{length}
use lib.Dec.{leb, ltb, eqb}
use borrow.Author.Tests.{eqb-true, ne_eqb}
use Rattle.laws.specs.Lists.{at}
use Rattle.word.specs.Numbers.{be16, be32}
use Rattle.reading.specs.declared.TableMode.{TableMode}
use Rattle.reading.specs.declared.TableMode.TheVariants.{Original, ZeroColumns}
use Rattle.refusal.specs.declared.Cause.{Cause}
use Rattle.refusal.specs.declared.Cause.TheVariants as cause
use Rattle.layout.specs.declared.Layout.{Layout}
use Rattle.layout.specs.Layouts.{laid_in, counted_in, layout_in}
use Rattle.cell.specs.declared.Cell.{Cell}
use Rattle.cell.specs.declared.Cell.TheVariants.{Nothing}
use Rattle.cell.specs.Types.{Kind, u8, i8, u16, i16, u32, i32, u64, f32, text, blob, unknown, kind_of, width_of}
use Rattle.cell.specs.Parts.{end_of}
use Rattle.cell.specs.Cells.{value_at, cell_at}
use Rattle.column.specs.declared.Storage.{Storage}
use Rattle.column.specs.declared.Storage.TheVariants.{Constant, Stored, Zero, Unknown}
use Rattle.column.specs.declared.Column.{Column}
use Rattle.column.specs.Storages.{storage_of, record_of, in_record, row_of, constant_at, cell_in}
use Rattle.column.specs.Columns.{column_of, column_by, column_from, named, column_at}
use Rattle.table.specs.Walks.{after_column, columns_from, after_cell, row_from, after_walk, rows_from, walk_of}
use Rattle.table.specs.Promises.{known, known_from, relaid}

-- ---- a known column

-- a, c and e tell whether a nibble is 3, 5 or 7, and d whether it is 1
by_tests : (a c d e : Bool) → (a || (c || e)) ≡ true → (c ≡ true → d ≡ false)
    → cond (a || e) Constant (cond d Zero (cond c Stored Unknown)) ≡ cond (a || e) Constant Stored
by_tests true c d e h f = refl
by_tests false c d true h f = refl
by_tests false true d false h f = rw (f refl)
by_tests false false d false h f = let g : false ≡ true = h in cc

pub storage_agrees : (x : ℕ) → known x ≡ true → storage_of ZeroColumns x ≡ storage_of Original x
storage_agrees x h =
    by_tests (eqb (x / 16) 3) (eqb (x / 16) 5) (eqb (x / 16) 1) (eqb (x / 16) 7) h
    (λ e. let five = eqb-true (x / 16) 5 e in ne_eqb (x / 16) 1 (λ one. omega (arith, five, one)))

both_left : (a c : Bool) → (a && c) ≡ true → a ≡ true
both_left true c e = refl
both_left false c e = e

both_right : (a c : Bool) → (a && c) ≡ true → c ≡ true
both_right true c e = e
both_right false c e = let g : false ≡ true = e in cc

module _ (b : List ℕ) (n p : ℕ) (all : known_from b (suc n) p ≡ true) where
  pub known_here : known (at b p) ≡ true
  unfolding known_from
  known_here = both_left (known (at b p)) (known_from b n (p + in_record Original (at b p))) all

  pub known_later : known_from b n (p + in_record Original (at b p)) ≡ true
  unfolding known_from
  known_later = both_right (known (at b p)) (known_from b n (p + in_record Original (at b p))) all

-- ---- no value depends on the mode, and no column but by its storage

module _ (b : List ℕ) (l : Layout) (m : TableMode) where
  value_stays : (x : Kind) (p : ℕ) → value_at x b p (relaid m l) ≡ value_at x b p l
  unfolding value_at
  value_stays u8 p = refl
  value_stays i8 p = refl
  value_stays u16 p = refl
  value_stays i16 p = refl
  value_stays u32 p = refl
  value_stays i32 p = refl
  value_stays u64 p = refl
  value_stays f32 p = refl
  value_stays text p = refl
  value_stays blob p = refl
  value_stays unknown p = refl

  cell_stays : (k p : ℕ) → cell_at b k p (relaid m l) ≡ cell_at b k p l
  unfolding cell_at
  cell_stays k p = rw (value_stays (kind_of k) p)

  constant_stays : (s : Storage) (k p : ℕ) → constant_at b s k p (relaid m l) ≡ constant_at b s k p l
  constant_stays Constant k p = cell_stays k p
  constant_stays Stored k p = refl
  constant_stays Zero k p = refl
  constant_stays Unknown k p = refl

  pub in_stays : (s : Storage) (c : Cell) (k p : ℕ) → cell_in b s c k p (relaid m l) ≡ cell_in b s c k p l
  in_stays Constant c k p = refl
  in_stays Stored c k p = cell_stays k p
  in_stays Zero c k p = refl
  in_stays Unknown c k p = refl

module _ (b : List ℕ) (l : Layout) where
  abbrev zl : Layout
  zl = relaid ZeroColumns l

  abbrev ol : Layout
  ol = relaid Original l

  by_agrees : (p x name : ℕ) → known x ≡ true → column_by b p x name zl ≡ column_by b p x name ol
  by_agrees p x name h =
      ap (λ (s : Storage). column_of name s (x % 16) (p + record_of s (width_of (x % 16))) (constant_at b s (x % 16) (p + 5) zl)) (storage_agrees x h)
      ∙ ap (column_of name (storage_of Original x) (x % 16) (p + in_record Original x))
      (constant_stays b l ZeroColumns (storage_of Original x) (x % 16) (p + 5) ∙ sym (constant_stays b l Original (storage_of Original x) (x % 16) (p + 5)))

  named_agrees : (p name : ℕ) → known (at b p) ≡ true → (e : Option ℕ) → named b p name zl e ≡ named b p name ol e
  unfolding named column_from
  named_agrees p name h (Some z) = by_agrees p (at b p) name h
  named_agrees p name h None = refl

  pub column_agrees : (p : ℕ) → known (at b p) ≡ true → column_at b p zl ≡ column_at b p ol
  unfolding column_at
  column_agrees p h = rw (named_agrees p (l.strings + be32 b (p + 1)) h (end_of b (l.strings + be32 b (p + 1))))

  -- a column's record ends where what it takes ends
  of_next : (name : ℕ) (s : Storage) (k next : ℕ) (x : Result Cell Cause) (c : Column) → column_of name s k next x ≡ Ok c → next ≡ c.next
  of_next name s k next (Ok v) c e = cc
  of_next name s k next (Err why) c e = let z : ◌≡◌ {A = ℕ} 0 1 = cc in absurd (omega arith)

  named_next : (p name : ℕ) (e : Option ℕ) (c : Column) → named b p name ol e ≡ Ok c → p + in_record Original (at b p) ≡ c.next
  unfolding named column_from
  named_next p name (Some z) c h =
      of_next name (storage_of Original (at b p)) (at b p % 16) (p + in_record Original (at b p)) (constant_at b (storage_of Original (at b p)) (at b p % 16) (p + 5) ol) c h
  named_next p name None c h = let z : ◌≡◌ {A = ℕ} 0 1 = cc in absurd (omega arith)

  column_next : (p : ℕ) (c : Column) → column_at b p ol ≡ Ok c → p + in_record Original (at b p) ≡ c.next
  unfolding column_at
  column_next p c h = go (leb (p + 5) (length b)) h
    where
      go : (t : Bool) → cond t (named b p (l.strings + be32 b (p + 1)) ol (end_of b (l.strings + be32 b (p + 1)))) (Err cause.RanOut) ≡ Ok c
          → p + in_record Original (at b p) ≡ c.next
      go true e = named_next p (l.strings + be32 b (p + 1)) (end_of b (l.strings + be32 b (p + 1))) c e
      go false e = let z : ◌≡◌ {A = ℕ} 0 1 = cc in absurd (omega arith)

  -- ---- the walks

  columns_agree : (n p : ℕ) → known_from b n p ≡ true → columns_from b zl n p ≡ columns_from b ol n p
  unfolding columns_from
  columns_agree zero p all = refl
  columns_agree (suc n) p all =
      ap (after_column (columns_from b zl n)) (column_agrees p (known_here b n p all))
      ∙ go (column_at b p ol) refl (columns_agree n (p + in_record Original (at b p)) (known_later b n p all))
    where
      go : (x : Result Column Cause) → column_at b p ol ≡ x
          → columns_from b zl n (p + in_record Original (at b p)) ≡ columns_from b ol n (p + in_record Original (at b p))
          → after_column (columns_from b zl n) x ≡ after_column (columns_from b ol n) x
      go (Ok c) e w = rw (column_next p c e) at w
      go (Err why) e w = refl

  row_agrees : (n p q : ℕ) → known_from b n p ≡ true → row_from b zl n p q ≡ row_from b ol n p q
  unfolding row_from
  row_agrees zero p q all = refl
  row_agrees (suc n) p q all =
      let x = at b p in
      let k = x % 16 in
      ap (λ (s : Storage). after_cell (row_from b zl n (p + record_of s (width_of k)) (q + row_of s (width_of k))) (cell_in b s Nothing k q zl)) (storage_agrees x (known_here b n p all))
      ∙ ap₂ after_cell (row_agrees n (p + in_record Original x) (q + row_of (storage_of Original x) (width_of k)) (known_later b n p all))
      (in_stays b l ZeroColumns (storage_of Original x) Nothing k q ∙ sym (in_stays b l Original (storage_of Original x) Nothing k q))

  module _ (all : known_from b l.columns 0 ≡ true) where
    rows_agree : (n q : ℕ) → rows_from b zl n q ≡ rows_from b ol n q
    unfolding rows_from
    rows_agree zero q = refl
    rows_agree (suc n) q =
        ap (after_walk (rows_from b zl n)) (row_agrees l.columns 0 q all) ∙ go (row_from b ol l.columns 0 q) (λ p. rows_agree n p)
      where
        go : (w : Result ℕ Cause) → ((p : ℕ) → rows_from b zl n p ≡ rows_from b ol n p) → after_walk (rows_from b zl n) w ≡ after_walk (rows_from b ol n) w
        go (Ok p) rest = rest p
        go (Err why) rest = refl

    pub walk_agrees : walk_of b zl ≡ walk_of b ol
    unfolding walk_of
    walk_agrees = rw (columns_agree l.columns 0 all, rows_agree l.rows l.start)

-- ---- a layout in one mode is that in another

abbrev pub relaid_in : TableMode → Result Layout Cause → Result Layout Cause
relaid_in m (Ok l) = Ok (relaid m l)
relaid_in m (Err why) = Err why

module _ (m : TableMode) where
  past : (t : Bool) (why : Cause) (x y : Result Layout Cause) → x ≡ relaid_in m y → cond t (Err why) x ≡ relaid_in m (cond t (Err why) y)
  past true why x y e = refl
  past false why x y e = e

  counted_alike : (t : List ℕ) (n : ℕ) → counted_in t m n ≡ relaid_in m (counted_in t Original n)
  unfolding counted_in
  counted_alike t n =
      past (ltb 64 (be16 t 24)) cause.TooMany _ _ (past (ltb 256 (be32 t 28)) cause.TooMany (Ok (laid_in t m n)) (Ok (laid_in t Original n)) refl)

  pub laid_alike : (t : List ℕ) → layout_in t m ≡ relaid_in m (layout_in t Original)
  unfolding layout_in
  laid_alike t =
      past (ltb (length t) 4) cause.RanOut _ _
      (past (not (eqb (be32 t 0) 0x40555446)) cause.NoTable _ _
      (past (ltb (length t) 32) cause.RanOut _ _
      (past (ltb (be32 t 4) 24) cause.TooSmall _ _
      (past (ltb (length t) (32 + (be32 t 4 - 24))) cause.RanOut _ _ (counted_alike t (be32 t 4 - 24))))))

-- a layout that was read in a mode has that mode
pub own_mode : (t : List ℕ) (m : TableMode) (l : Layout) → layout_in t m ≡ Ok l → relaid m l ≡ l
own_mode t m l e = sym (go (layout_in t Original) (sym e ∙ laid_alike m t))
  where
    go : (x : Result Layout Cause) → Ok l ≡ relaid_in m x → l ≡ relaid m l
    go (Ok k) f = let same : l ≡ relaid m k = cc in same ∙ sym (ap (relaid m) same)
    go (Err why) f = let z : ◌≡◌ {A = ℕ} 0 1 = cc in absurd (omega arith)
