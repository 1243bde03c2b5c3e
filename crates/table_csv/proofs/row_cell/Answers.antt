-- `csv::row_cell` meets its contract, by cases of the storage. Assumes nothing.
use mathlib.Core.Path.{sym, ◌∙◌}
use Rattle.table_csv.proofs.CellOnLaws.{constant_cell, stored_cell, zero_cell_lem, unknown_cell}
use Rattle.table_csv.proofs.row_cell.Goals as goal

pub returns-in-Constant : goal.returns-in-Constant
returns-in-Constant c =
    c.read_cell.ensures ∙ constant_cell _ _ _ _ _ _ c.read8-tag.ensures.0 c.kind_of-kind.ensures (sym c.storage_of.ensures ∙ c.in-Constant.is)

pub returns-in-Stored : goal.returns-in-Stored
returns-in-Stored c =
    c.read_cell-in-Stored.ensures ∙ stored_cell _ _ _ _ _ _ c.read8-tag.ensures.0 c.kind_of-kind.ensures (sym c.storage_of.ensures ∙ c.in-Stored.is)

pub returns-in-Zero : goal.returns-in-Zero
returns-in-Zero c =
    c.zero_cell.ensures ∙ zero_cell_lem _ _ _ _ _ _ c.read8-tag.ensures.0 c.kind_of-kind.ensures (sym c.storage_of.ensures ∙ c.in-Zero.is)

pub returns-in-Unknown : goal.returns-in-Unknown
returns-in-Unknown c =
    unknown_cell _ _ _ _ _ _ c.read8-tag.ensures.0 c.kind_of-kind.ensures (sym c.storage_of.ensures ∙ c.in-Unknown.is)
