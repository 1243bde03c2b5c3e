-- The promises of specs/Promises.antt, each under its name: what was written stands at the front of the output, and the RFC's reader gives back its records; and
-- a walk that reads to its end has no cell that is refused. Assumes nothing.
use Rattle.std.specs.Prelude.{Result, Ok, Err}
use Rattle.refusal.specs.declared.Refusal.{Refusal}
use mathlib.Core.Path.{◌≡◌, refl, sym, ap, ◌∙◌}
use mathlib.Core.List.{List, [], ◌∷◌}
use mathlib.Core.Bool.{Bool, true, false, cond}
use Prim.Native.Nat.{ℕ, zero, suc, ◌+◌, ◌≤◌}
use native.Mathlib.Omega.{arith}
use lib.ListN.{length, take, drop}
use lib.Seq.{sets-eq, length-sets, take_at, drop_at}
use lib.Dec.{eqb}
use borrow.Author.Tests.{eqb-false}
use Rattle.lent.proofs.RoomLaws.{planned_so}
use Rattle.reading.specs.declared.TableMode.{TableMode}
use Rattle.layout.specs.declared.Layout.{Layout}
use Rattle.layout.specs.Layouts.{body_of}
use Rattle.table.specs.Tables.{table_of, table_at}
use Rattle.table.proofs.TableLaws.{laid_out}
use Rattle.csv_text.specs.Written.{csv_of}
use Rattle.csv_text.specs.Reading.{records_in}
use Rattle.csv_text.specs.Promises.{SomeInEach}
use Rattle.csv_text.proofs.Promises.{FieldsReadBack}
use Rattle.table_csv.specs.declared.Line.{Line}
use Rattle.table_csv.specs.declared.Line.TheVariants.{Names, Cells}
use Rattle.table_csv.specs.Texts.{line_from, row_end, row_texts, name_texts, texts_of}
use Rattle.table_csv.specs.Writing.{texts_in, texts_at, to_write}
use Rattle.table_csv.specs.Promises as promised
use Rattle.table_csv.proofs.CellReadLaws.{all_read}

-- ---- every record of a table with columns has a field

module _ (b : List ℕ) (l : Layout) where
  line_some : (line : Line) (n p q : ℕ) (records : List (List (List ℕ))) → (n ≡ 0 → ⊥) → SomeInEach records → SomeInEach (line_from b l line n p q ∷ records)
  unfolding line_from SomeInEach
  line_some line zero p q records some more = absurd (some refl)
  line_some line (suc n) p q records some more = more

  rows_some : (l.columns ≡ 0 → ⊥) → (n q : ℕ) → SomeInEach (row_texts b l n q)
  unfolding row_texts SomeInEach
  rows_some some zero q = tt
  rows_some some (suc n) q = line_some Cells l.columns 0 q (row_texts b l n (row_end b l l.columns 0 q)) some (rows_some some n (row_end b l l.columns 0 q))

  texts_some : SomeInEach (texts_of b l)
  unfolding texts_of SomeInEach
  texts_some = go (eqb l.columns 0) refl
    where
      go : (t : Bool) → eqb l.columns 0 ≡ t → SomeInEach (cond t [] (name_texts b l ∷ row_texts b l l.rows l.start))
      go true e = tt
      go false e =
          let some : l.columns ≡ 0 → ⊥ = eqb-false l.columns 0 e in
          line_some Names l.columns 0 0 (row_texts b l l.rows l.start) some (rows_some some l.rows l.start)

in_some : (t : List ℕ) (x : Result Layout Refusal) → SomeInEach (texts_in t x)
unfolding SomeInEach
in_some t (Ok l) = texts_some (body_of t l) l
in_some t (Err refusal) = tt

at_some : (bytes : List ℕ) (place : ℕ) (m : TableMode) → SomeInEach (texts_at bytes place m)
unfolding texts_at
at_some bytes place m = in_some (drop place bytes) (table_at bytes place m)

-- ---- a size that is answered is that of the CSV, which has room

to_write_lem : (n size : ℕ) (x : Result Layout Refusal) → to_write n x ≡ Ok size → n ≡ size
to_write_lem n size (Ok l) e = cc
to_write_lem n size (Err refusal) e = let z : ◌≡◌ {A = ℕ} 0 1 = cc in absurd (omega arith)

pub ReadingBack : promised.ReadingBack
ReadingBack bytes place m out out' size w =
    let csv = csv_of (texts_at bytes place m) in
    let planned = planned_so (length out) (to_write (length csv) (table_at bytes place m)) size (sym w.0) in
    let sized = to_write_lem (length csv) size (table_at bytes place m) planned.0 in
    let room : 0 + length csv ≤ length out = omega (arith, planned.1) in
    let front : take size out' ≡ csv = ap (take size) (w.1 ∙ sets-eq csv out 0 room) ∙ take_at csv (drop (0 + length csv) out) size sized in
    ap records_in front ∙ FieldsReadBack (texts_at bytes place m) (at_some bytes place m)

pub RefusalsLeaveTheOutput : promised.RefusalsLeaveTheOutput
RefusalsLeaveTheOutput bytes place m out out' refusal w = w.1

pub BytesPastTheCsvStay : promised.BytesPastTheCsvStay
BytesPastTheCsvStay bytes place m out out' size w =
    let csv = csv_of (texts_at bytes place m) in
    let planned = planned_so (length out) (to_write (length csv) (table_at bytes place m)) size (sym w.0) in
    let sized = to_write_lem (length csv) size (table_at bytes place m) planned.0 in
    let room : 0 + length csv ≤ length out = omega (arith, planned.1) in
    let n : 0 + length csv ≡ size = omega arith in
    (ap length w.1 ∙ length-sets out 0 csv, ap (drop size) (w.1 ∙ sets-eq csv out 0 room) ∙ drop_at csv (drop (0 + length csv) out) size sized ∙ ap (λ (k : ℕ). drop k out) n)

pub EveryCellIsRead : promised.EveryCellIsRead
unfolding table_of
EveryCellIsRead bytes place m l e =
    let t = drop place bytes in
    all_read place l (body_of t l) (rw (laid_out place t m l e) at e)
