-- `table::Walk::check_row` meets its contract: what is left of the row has the answer of the whole row. Assumes nothing.
use Rattle.std.proofs.Common.{◌≡◌, ◌+◌, ◌-◌, sym, ◌∙◌, arith}
use Rattle.std.proofs.lemmas.Result.{err_from_is_err_and}
use Rattle.table.proofs.WalkLaws.{row_next, row_stop, row_end_lem}
use Rattle.table.proofs.Walk.check_row.Goals as goal

pub loop-preserved : goal.loop-preserved
loop-preserved c =
    let walk = c.args.self.now in
    let one : walk.layout.columns - (c.loop.counter + 1) ≡ walk.layout.columns - c.loop.counter - 1 = omega arith in (
      rw one
          (sym (row_next walk.body.now walk.layout (walk.layout.columns - c.loop.counter) c.loop.entry c.loop.at c.read8-tag.result (omega arith) c.read8-tag.ensures.0
          c.in_record-entry.result c.in_ok-at.at c.in_record-entry.ensures.0 (sym c.check_in_row.ensures ∙ c.in_ok-at.was))
          ∙ c.loop.invariant.0),
      omega arith,
    )

pub returns-in_err-at : goal.returns-in_err-at
returns-in_err-at c =
    let walk = c.args.self.now in
    let p = err_from_is_err_and c.from_residual.result c.from_residual.ensures.1 in rw (p.1, p.2)
    (sym (row_stop walk.body.now walk.layout (walk.layout.columns - c.loop.counter) c.loop.entry c.loop.at c.read8-tag.result (omega arith) c.read8-tag.ensures.0
    _ (sym c.check_in_row.ensures ∙ c.in_err-at.was))
    ∙ c.loop.invariant.0)

pub returns : goal.returns
returns c =
    let walk = c.args.self.now in
    sym (row_end_lem walk.body.now walk.layout (walk.layout.columns - c.loop.counter) c.loop.entry c.loop.at (omega arith)) ∙ c.loop.invariant.0
