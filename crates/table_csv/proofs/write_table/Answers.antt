-- `csv::write_table` meets its contract: the body of the table is the part that is handed on. Assumes nothing.
use Rattle.table_csv.proofs.WriteLaws.{body_at}
use Rattle.table_csv.proofs.write_table.Goals as goal

pub returns : goal.returns
returns c = rw (body_at _ _ _) at c.write_body.ensures
