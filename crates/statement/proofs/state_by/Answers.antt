-- `statement::state_by` meets its contract: each answer from the tests, and the lines as they are put. Assumes nothing.
use mathlib.Core.Path.{sym, ◌∙◌}
use native.Mathlib.Omega.{arith}
use Rattle.statement.proofs.StateLaws.{bad_by, short_by, all_by}
use Rattle.statement.proofs.state_by.Goals as goal

pub returns-then-are_bad : goal.returns-then-are_bad
returns-then-are_bad c =
    let args = c.args in
    bad_by args.bits args.size args.tenants.now args.lines.now _ (sym c.are_bad.ensures ∙ c.if-are_bad.true) c.refused.ensures

pub returns-then-lines-count : goal.returns-then-lines-count
returns-then-lines-count c =
    let args = c.args in
    short_by args.bits args.size args.tenants.now args.lines.now _ (sym c.are_bad.ensures ∙ c.if-are_bad.false) (omega arith) c.refused-then-lines-count.ensures

pub returns : goal.returns
returns c =
    all_by _ _ _ _ _ (sym c.are_bad.ensures ∙ c.if-are_bad.false) (omega arith) _ c.put_lines.ensures c.list_reply.ensures
