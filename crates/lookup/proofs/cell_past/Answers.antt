-- `lookup::cell_past` meets its contract: past the body every place is as good as its end. Assumes nothing.
use mathlib.Core.Path.{◌∙◌}
use Prim.Native.Nat.{◌+◌}
use native.Mathlib.Omega.{arith}
use lib.ListN.{length}
use Rattle.lookup.proofs.CellLaws.{past_the_body}
use Rattle.lookup.proofs.cell_past.Goals as goal

pub returns-then-left_from-offset : goal.returns-then-left_from-offset
returns-then-left_from-offset c =
    let a = c.args in
    c.read_cell.ensures
    ∙ past_the_body a.body.now a.kind a.layout (length a.body.now) (a.at + a.offset) (omega arith) (omega arith)
