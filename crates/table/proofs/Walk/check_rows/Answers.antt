-- `table::Walk::check_rows` meets its contract: what is left of the rows has the answer of all. Assumes nothing.
use Rattle.std.proofs.Common.{◌≡◌, ◌+◌, ◌-◌, sym, ◌∙◌, arith}
use Rattle.std.proofs.lemmas.Result.{err_from_is_err_and}
use Rattle.table.proofs.WalkLaws.{rows_next, rows_stop, rows_end}
use Rattle.table.proofs.Walk.check_rows.Goals as goal

pub loop-preserved : goal.loop-preserved
loop-preserved c =
    let walk = c.args.self.now in
    let one : walk.layout.rows - (c.loop.counter + 1) ≡ walk.layout.rows - c.loop.counter - 1 = omega arith in
    rw one
    (sym (rows_next walk.body.now walk.layout (walk.layout.rows - c.loop.counter) c.loop.at c.in_ok-at.at (omega arith)
    (sym c.check_row.ensures ∙ c.in_ok-at.was))
    ∙ c.loop.invariant)

pub returns-in_err-at : goal.returns-in_err-at
returns-in_err-at c =
    let walk = c.args.self.now in
    let p = err_from_is_err_and c.from_residual.result c.from_residual.ensures.1 in rw (p.1, p.2)
    (sym (rows_stop walk.body.now walk.layout (walk.layout.rows - c.loop.counter) c.loop.at _ (omega arith)
    (sym c.check_row.ensures ∙ c.in_err-at.was))
    ∙ c.loop.invariant)

pub returns : goal.returns
returns c =
    let walk = c.args.self.now in
    sym (rows_end walk.body.now walk.layout (walk.layout.rows - c.loop.counter) c.loop.at (omega arith)) ∙ c.loop.invariant
