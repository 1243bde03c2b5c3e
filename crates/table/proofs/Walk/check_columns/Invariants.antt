-- `table::Walk::check_columns` meets its contract: what is left of the columns has the answer of all. Assumes nothing.
use Rattle.std.proofs.Common.{◌≡◌, ◌-◌}
use Rattle.table.specs.Walks.{columns_from}
use Rattle.table.proofs.Walk.check_columns.Given as goal

abbrev pub invariant-loop : goal.invariant-loop
invariant-loop l =
    columns_from l.self.body.now l.self.layout (l.self.layout.columns - l.counter) l.at ≡ columns_from l.self.body.now l.self.layout l.self.layout.columns 0
