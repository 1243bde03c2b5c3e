-- `key_apart::parts` meets its contract: where the payload may differ, its lane decides. Assumes nothing.
use mathlib.Core.Path.{sym, ◌∙◌}
use Rattle.key_apart.proofs.parts.Goals as goal

pub returns-then-differs : goal.returns-then-differs
returns-then-differs c = rw (sym c.differs.ensures ∙ c.if-differs.true)

pub returns : goal.returns
returns c = rw (sym c.differs.ensures ∙ c.if-differs.false)
