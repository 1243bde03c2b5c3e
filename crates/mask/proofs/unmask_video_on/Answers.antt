-- `mask::unmask_video_on` meets its contract: the first row is made clear by the one before it, and then the rows after it. Assumes nothing.
use native.Mathlib.Omega.{arith}
use borrow.Author.Rules.{rules}
use lib.ListN.{length-take, length-drop}
use Rattle.laws.proofs.UptoLaws.{upto_none}
use Rattle.mask.proofs.RowLaws.{upto_xored}
use Rattle.mask.proofs.OnLaws.{on_short, on_first_row, on_rows}
use Rattle.mask.proofs.unmask_video_on.Goals as goal

pub returns-then-rows-lt-ROW : goal.returns-then-rows-lt-ROW
returns-then-rows-lt-ROW c =
    let args = c.args in
    on_short _ args.last args.rows.now (search rules) _ _ c.xor_of-first.ensures (omega arith) c.xor_in.ensures

pub xor_in-requires-2 : goal.xor_in-requires-2
xor_in-requires-2 c = simp (length-take, length-drop) (omega arith)

pub returns : goal.returns
returns c =
    let args = c.args in
    let rows = args.rows.now in
    on_rows _ args.last rows (search rules) _
    (upto_xored _ rows rows _ _ 0 0x20 (upto_none _ rows) (omega arith) (omega arith) c.xor_in-2.ensures
    (λ lane h. on_first_row _ args.last rows (search rules) _ lane c.xor_of-first.ensures (omega arith)))
    _ c.clear_rows.ensures
