-- `table::Walk::has_end` meets its contract, by the law of the last zero byte. Assumes nothing.
use Rattle.std.proofs.Common.{sym, ◌∙◌}
use borrow.Author.Tests.{lt-leb}
use Rattle.table.proofs.ZeroLaws.{before_body, in_body}
use Rattle.table.proofs.Walk.has_end.Goals as goal

pub returns-then-place-ge-BODY : goal.returns-then-place-ge-BODY
returns-then-place-ge-BODY c =
    let walk = c.args.self.now in
    in_body walk.body.now c.args.place walk.ends walk.last_zero c.if-place-ge-BODY.true

pub returns-else-place-ge-BODY : goal.returns-else-place-ge-BODY
returns-else-place-ge-BODY c =
    let walk = c.args.self.now in
    lt-leb _ _ c.if-place-ge-BODY.false ∙ sym (before_body walk.body.now c.args.place walk.ends walk.last_zero c.if-place-ge-BODY.false)
