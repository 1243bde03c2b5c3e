-- `lookup::numbers::tag_in_table` meets its contract: the type byte stands where the column's record does. Assumes nothing.
use native.Mathlib.Omega.{arith}
use Rattle.lookup.proofs.NumberLaws.{no_tag, its_tag}
use Rattle.lookup.proofs.numbers.tag_in_table.Goals as goal

pub returns-then-layout-number : goal.returns-then-layout-number
returns-then-layout-number c =
    let a = c.args in
    no_tag a.bytes.now a.place a.layout a.number (omega arith)

pub returns : goal.returns
returns c =
    let a = c.args in
    its_tag a.bytes.now a.place a.layout a.number (omega (arith, c.if-layout-number.false)) _ c.slot_of.ensures.0 _ c.read8.ensures.0
