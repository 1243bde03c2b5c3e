-- `csv::cell_on` meets its contract, by cases of the line. Assumes nothing.
use Rattle.table_csv.proofs.cell_on.Goals as goal

pub returns-in-Names : goal.returns-in-Names
returns-in-Names c = rw c.in-Names.is c.read_cell.ensures

pub returns-in-Cells : goal.returns-in-Cells
returns-in-Cells c = rw c.in-Cells.is c.row_cell.ensures
