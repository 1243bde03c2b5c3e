-- `csv::put_rows` meets its contract: with the rows that are left put after it, what stands there is all of them. Assumes nothing.
use Rattle.std.proofs.Common.{◌≡◌, ◌+◌, ◌-◌, ◌<◌, ◌≤◌, arith}
use Rattle.laws.proofs.PutLaws.{all_left, less_left, none_left}
use Rattle.table_csv.proofs.LineLaws.{row_below, rows_next, rows_over}
use Rattle.table_csv.proofs.put_rows.Goals as goal

pub loop-init : goal.loop-init
loop-init c =
    let all : c.args.layout.rows - 0 ≡ c.args.layout.rows = omega arith in
    (rw all (all_left _ _ _), omega arith)

pub put_line-ends-requires : goal.put_line-ends-requires
put_line-ends-requires c =
    let a = c.args in
    let some : 0 < a.layout.rows - c.loop.counter = omega arith in
    (c.requires.0, omega arith, row_below a.body.now a.layout _ _ some _ c.loop.invariant.0 c.requires.2)

pub loop-preserved : goal.loop-preserved
loop-preserved c =
    let a = c.args in
    let some : 0 < a.layout.rows - c.loop.counter = omega arith in
    let one : a.layout.rows - (c.loop.counter + 1) ≡ a.layout.rows - c.loop.counter - 1 = omega arith in
    let whole = rows_next a.body.now a.layout (a.layout.rows - c.loop.counter) c.loop.at _ some c.put_line-ends.ensures.1.0 in
    (rw one (less_left (rw whole at c.loop.invariant.0) c.put_line-ends.ensures.0), omega (arith, c.put_line-ends.ensures.1.1))

pub returns : goal.returns
returns c =
    let none : c.args.layout.rows - c.loop.counter ≤ 0 = omega arith in
    none_left (rw (rows_over _ _ _ _ none) at c.loop.invariant.0)
