-- `block::ahead_at` meets its contract: each answer follows from the tests before it. Assumes nothing.
use mathlib.Core.Path.{sym, ◌∙◌}
use native.Mathlib.Omega.{arith}
use Rattle.block.proofs.BlockLaws.{ahead_cut, ahead_sound, ahead_other}
use Rattle.block.proofs.ahead_at.Goals as goal

pub returns-then-left_from-lt-LETTERS : goal.returns-then-left_from-lt-LETTERS
returns-then-left_from-lt-LETTERS c =
    let a = c.args in
    ahead_cut a.bytes.now a.place (omega arith)

pub returns-then-read32-eq-SFA : goal.returns-then-read32-eq-SFA
returns-then-read32-eq-SFA c =
    let a = c.args in
    ahead_sound a.bytes.now a.place (omega arith) (sym c.read32.ensures.0 ∙ c.if-read32-eq-SFA.true)

pub returns : goal.returns
returns c =
    let a = c.args in
    ahead_other a.bytes.now a.place (omega arith) (λ e. c.if-read32-eq-SFA.false (c.read32.ensures.0 ∙ e))
