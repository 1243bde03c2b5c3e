-- The promises of specs/Promises.antt, each under its name: a layout that breaks the first is refused, and known columns are read alike. Assumes nothing.
use Rattle.std.specs.Prelude.{Result, Ok, Err}
use Rattle.refusal.specs.declared.Cause.{Cause}
use mathlib.Core.Path.{◌≡◌, refl, ap, ◌∙◌, subst}
use mathlib.Core.List.{List}
use mathlib.Core.Bool.{true}
use Prim.Native.Nat.{ℕ}
use native.Mathlib.Omega.{arith}
use lib.ListN.{drop, length-drop}
use Rattle.reading.specs.declared.TableMode.TheVariants.{Original, ZeroColumns}
use Rattle.layout.specs.declared.Layout.{Layout}
use Rattle.layout.specs.Layouts.{layout_in, body_of}
use Rattle.layout.proofs.LayoutLaws.{sound}
use Rattle.table.specs.Walks.{walk_of}
use Rattle.table.specs.Tables.{table_to, table_from, table_of}
use Rattle.table.specs.Promises.{known_in, relaid, in_mode}
use Rattle.table.specs.Promises as promised
use Rattle.table.proofs.TableLaws.{laid_out}
use Rattle.table.proofs.RefusalLaws.{FairTable, table_fair}
use Rattle.table.proofs.ModeLaws.{walk_agrees, relaid_in, laid_alike}

pub AcceptedLiesWithin : promised.AcceptedLiesWithin
AcceptedLiesWithin bytes place m l e =
    let s = sound (drop place bytes) m l (laid_out place (drop place bytes) m l e) in
    (s.0, s.1, s.2, omega (arith, s.3, length-drop place bytes))

module _ (place : ℕ) (t : List ℕ) where
  to_mode : (l : Layout) (w : Result ℕ Cause) → table_to place (relaid ZeroColumns l) w ≡ in_mode ZeroColumns (table_to place (relaid Original l) w)
  to_mode l (Ok q) = refl
  to_mode l (Err why) = refl

  by_layout : (x : Result Layout Cause) → known_in t x ≡ true → table_from place t (relaid_in ZeroColumns x) ≡ in_mode ZeroColumns (table_from place t (relaid_in Original x))
  by_layout (Ok l) all =
      ap (table_to place (relaid ZeroColumns l)) (walk_agrees (body_of t l) l all) ∙ to_mode l (walk_of (body_of t l) (relaid Original l))
  by_layout (Err why) all = refl

  agree : known_in t (layout_in t Original) ≡ true → table_of place t ZeroColumns ≡ in_mode ZeroColumns (table_of place t Original)
  unfolding table_of
  agree all = rw (laid_alike ZeroColumns t) (by_layout (layout_in t Original) all ∙ rw (← laid_alike Original t))

pub ModesAgree : promised.ModesAgree
ModesAgree bytes place all = agree place (drop place bytes) all

-- ---- refusals

pub TablesRefuseByThese : promised.TablesRefuseByThese
TablesRefuseByThese bytes place m refusal e = subst (FairTable place) e (table_fair bytes place m)
