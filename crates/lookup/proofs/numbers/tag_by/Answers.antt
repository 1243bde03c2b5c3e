-- `lookup::numbers::tag_by` meets its contract, by cases of the layout. Assumes nothing.
use mathlib.Core.Path.{sym, ◌∙◌}
use native.Mathlib.Omega.{arith}
use Rattle.lookup.proofs.NumberLaws.{tag_past_the_end, tag-unlaid, tag-laid, fits}
use Rattle.lookup.proofs.numbers.tag_by.Goals as goal

pub returns-then-bytes-place : goal.returns-then-bytes-place
returns-then-bytes-place c =
    let a = c.args in
    tag_past_the_end a.bytes.now a.place a.mode a.number (omega arith)

pub tag_in_table-requires : goal.tag_in_table-requires
tag_in_table-requires c =
    let a = c.args in
    let held = fits a.bytes.now a.place a.mode (omega arith) _ (sym c.read_layout.ensures ∙ c.in-Ok.is) in
    (held.0.0, held.1)

pub returns-in-Ok : goal.returns-in-Ok
returns-in-Ok c =
    let a = c.args in
    c.tag_in_table.ensures ∙ tag-laid a.bytes.now a.place a.mode (omega arith) _ (sym c.read_layout.ensures ∙ c.in-Ok.is) a.number

pub returns-in-Err : goal.returns-in-Err
returns-in-Err c =
    let a = c.args in
    tag-unlaid a.bytes.now a.place a.mode (omega arith) _ (sym c.read_layout.ensures ∙ c.in-Err.is) a.number
