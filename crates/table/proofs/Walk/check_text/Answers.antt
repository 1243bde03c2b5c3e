-- `table::Walk::check_text` meets its contract: a text is fine where it ends. Assumes nothing.
use Rattle.std.proofs.Common.{sym, ◌∙◌}
use Rattle.table.proofs.CheckLaws.{text_fine, text_bad}
use Rattle.table.proofs.Walk.check_text.Goals as goal

pub returns : goal.returns
returns c =
    let a = c.args in
    sym (text_fine a.self.now.body.now a.place _ (sym c.has_end.ensures ∙ c.if-not-has_end.false))

pub returns-then-not-has_end : goal.returns-then-not-has_end
returns-then-not-has_end c =
    let a = c.args in
    sym (text_bad a.self.now.body.now a.place _ (sym c.has_end.ensures ∙ c.if-not-has_end.true))
