-- What is measured is the length of what is put; the body of a table at a place is a part of the slice; its size is a number of 32 bits. Assumes nothing.
use Rattle.std.specs.Prelude.{Result, Ok, Err}
use mathlib.Core.Path.{◌≡◌, refl}
use mathlib.Core.List.{List}
use Prim.Native.Nat.{ℕ, ◌+◌, ◌-◌, ◌^◌, ◌≤◌, ◌<◌}
use native.Mathlib.Omega.{arith}
use lib.ListN.{length, take, drop}
use lib.Seq.{drop-drop, get_or-drop}
use Rattle.laws.specs.Lists.{at}
use Rattle.laws.specs.Outputs.{Put}
use Rattle.word.specs.Numbers.{be32}
use Rattle.reading.specs.declared.TableMode.{TableMode}
use Rattle.refusal.specs.declared.Refusal.{Refusal}
use Rattle.layout.specs.declared.Layout.{Layout}
use Rattle.layout.specs.Layouts.{body_of}
use Rattle.table.specs.Tables.{table_at}
use Rattle.table.proofs.Promises.{AcceptedLiesWithin}
use Rattle.csv_text.specs.Written.{csv_of}
use Rattle.table_csv.specs.Texts.{texts_of}
use Rattle.table_csv.specs.Writing.{texts_at, WritingOf, Writing}

pub sized : {csv out after : List ℕ} {size : ℕ} → Put csv out 0 after size → size ≡ length csv
sized put = omega (arith, put.ends)

pub body_at : (bytes : List ℕ) (place : ℕ) (l : Layout) → take (place + 32 + l.size - (place + 32)) (drop (place + 32) bytes) ≡ body_of (drop place bytes) l
body_at bytes place l =
    let size : place + 32 + l.size - (place + 32) ≡ l.size = omega arith in
    rw (size, drop-drop 32 place bytes)

module _ (bytes : List ℕ) (place : ℕ) (m : TableMode) where
  texts_of_lem : (l : Layout) → table_at bytes place m ≡ Ok l → texts_of (body_of (drop place bytes) l) l ≡ texts_at bytes place m
  unfolding texts_at
  texts_of_lem l e = rw e

  pub written : (l : Layout) → table_at bytes place m ≡ Ok l → (r : Result ℕ Refusal) (out out' : List ℕ) → WritingOf (csv_of (texts_of (body_of (drop place bytes) l) l)) (Ok l) out r out'
      → Writing bytes place m out r out'
  written l e r out out' w = rw (← texts_of_lem l e, e) w

  pub refused : (refusal : Refusal) → table_at bytes place m ≡ Err refusal → (out : List ℕ) → Writing bytes place m out (Err refusal) out
  refused refusal e out = (rw e, refl)

  -- what the code asks before it lends the body
  pub accepted : ((i : ℕ) → at bytes i < 256) → (l : Layout) → table_at bytes place m ≡ Ok l
      → ((l.columns ≤ 64) × (l.rows ≤ 256) × (l.size < 2 ^ 32)) × (place + (32 + l.size) ≤ length bytes)
  accepted byte l e =
      let lies = AcceptedLiesWithin bytes place m l e in
      let size : be32 (drop place bytes) 4 < 2 ^ 32 =
      simp get_or-drop (omega (arith, byte (place + 4), byte (place + 5), byte (place + 6), byte (place + 7))) in
      ((lies.0, lies.1, omega (arith, lies.2)), lies.3)
