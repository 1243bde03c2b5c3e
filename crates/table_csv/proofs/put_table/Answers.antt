-- `csv::put_table` meets its contract: the names are put, then the rows; no sum wraps. Assumes nothing.
use native.Mathlib.Omega.{arith}
use Rattle.laws.proofs.PutLaws.{put_as, put_then}
use Rattle.table_csv.proofs.LineLaws.{table_lines, names_fit, rows_fit}
use Rattle.table_csv.proofs.put_table.Goals as goal

pub put_line-names-requires : goal.put_line-names-requires
put_line-names-requires c =
    (c.requires.0, omega arith, omega (arith, names_fit c.args.body.now c.args.layout c.requires.2 c.requires.0))

pub put_rows-requires : goal.put_rows-requires
put_rows-requires c =
    let a = c.args in (
      c.requires.0,
      c.requires.1,
      omega (arith, c.put_line-names.ensures.0.ends, names_fit a.body.now a.layout c.requires.2 c.requires.0, rows_fit a.body.now a.layout c.requires.2 c.requires.0 c.requires.1),
    )

pub returns : goal.returns
returns c = put_as (put_then c.put_line-names.ensures.0 c.put_rows.ensures) (table_lines _ _)
