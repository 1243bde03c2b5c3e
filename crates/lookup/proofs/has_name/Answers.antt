-- `lookup::has_name` meets its contract: a place before the body stands for its first byte. Assumes nothing.
use Rattle.std.proofs.Common.{ℕ, ◌+◌, ◌-◌, ap, ◌∙◌}
use Rattle.lookup.specs.Names.{spells}
use Rattle.lookup.proofs.has_name.Goals as goal

pub returns : goal.returns
returns c =
    let a = c.args in
    let h = c.saturating_sub.ensures in
    c.spelled.ensures ∙ ap (λ (p : ℕ). spells a.body.now p a.name.now) h ∙ ap (λ (n : ℕ). spells a.body.now (a.layout.strings + n - 24) a.name.now) c.read32.ensures.0
