-- `table::Walk::check_rows` meets its contract: what is left of the rows has the answer of all. Assumes nothing.
use Rattle.std.proofs.Common.{◌≡◌, ◌-◌}
use Rattle.table.specs.Walks.{rows_from}
use Rattle.table.proofs.Walk.check_rows.Given as goal

abbrev pub invariant-loop : goal.invariant-loop
invariant-loop l =
    rows_from l.self.body.now l.self.layout (l.self.layout.rows - l.counter) l.at ≡ rows_from l.self.body.now l.self.layout l.self.layout.rows l.self.layout.start
