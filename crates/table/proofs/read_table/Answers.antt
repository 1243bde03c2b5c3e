-- `table::read_table` meets its contract: what a slice has from a place on is the slice without what stands before it. Assumes nothing.
use mathlib.Core.Path.{ap, ◌∙◌}
use mathlib.Core.List.{List}
use Prim.Native.Nat.{ℕ}
use native.Mathlib.Omega.{arith}
use Rattle.table.specs.Tables.{table_of}
use Rattle.table.proofs.TableLaws.{past_the_end, from_place}
use Rattle.table.proofs.read_table.Goals as goal

pub returns-then-bytes-place : goal.returns-then-bytes-place
returns-then-bytes-place c =
    let a = c.args in
    c.refused.ensures ∙ past_the_end a.bytes.now a.place a.mode (omega arith)

pub returns : goal.returns
returns c =
    let a = c.args in
    c.read_from.ensures ∙ ap (λ (t : List ℕ). table_of a.place t a.mode) (from_place a.bytes.now a.place (omega arith))
