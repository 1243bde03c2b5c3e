-- `csv::put_answer` meets its contract: what is not read is put as an empty field. Assumes nothing.
use Rattle.laws.proofs.PutLaws.{put_none, put_as}
use Rattle.table_csv.proofs.CellPutLaws.{refused_field}
use Rattle.table_csv.proofs.put_answer.Goals as goal

pub put_cell-requires : goal.put_cell-requires
put_cell-requires c = rw c.in-Ok.is at c.requires

pub returns-in-Ok : goal.returns-in-Ok
returns-in-Ok c = rw c.in-Ok.is c.put_cell.ensures

pub returns-in-Err : goal.returns-in-Err
returns-in-Err c = rw c.in-Err.is (put_as (put_none _ _) refused_field)
