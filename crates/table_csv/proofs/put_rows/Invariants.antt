-- `csv::put_rows` meets its contract: with the rows that are left put after it, what stands there is all of them. Assumes nothing.
use Rattle.std.proofs.Common.{◌+◌, ◌-◌, ◌*◌, ◌≤◌}
use Rattle.laws.proofs.PutLaws.{Left}
use Rattle.csv_text.specs.Written.{csv_of}
use Rattle.table_csv.specs.Texts.{row_texts}
use Rattle.table_csv.proofs.put_rows.Given as goal

abbrev pub invariant-loop : goal.invariant-loop
invariant-loop l = Left (csv_of (row_texts l.body l.layout (l.layout.rows - l.counter) l.at)) l.out l.reached (csv_of (row_texts l.body l.layout l.layout.rows l.layout.start)) l.initial.out l.place × (l.at ≤ l.layout.start + 16384 * l.counter)
