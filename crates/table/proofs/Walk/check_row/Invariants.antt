-- `table::Walk::check_row` meets its contract: what is left of the row has the answer of the whole row. Assumes nothing.
use Rattle.std.proofs.Common.{◌≡◌, ◌-◌, ◌*◌, ◌≤◌}
use Rattle.table.specs.Walks.{row_from}
use Rattle.table.proofs.Walk.check_row.Given as goal

-- and the records of the columns so far end within 261 bytes each, so their sum does not overflow
abbrev pub invariant-loop : goal.invariant-loop
invariant-loop l =
    (row_from l.self.body.now l.self.layout (l.self.layout.columns - l.counter) l.entry l.at ≡ row_from l.self.body.now l.self.layout l.self.layout.columns 0 l.from)
    × (l.entry ≤ 261 * l.counter)
