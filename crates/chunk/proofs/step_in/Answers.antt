-- `chunk::step_in` meets its contract: the bytes that are left, and those of the window, pick the case of `stepIn`. Assumes nothing.
use Rattle.std.specs.Prelude.{Some}
use mathlib.Core.Path.{ap, ◌∙◌}
use native.Mathlib.Omega.{arith}
use Rattle.chunk.proofs.WindowLaws.{few, short, enough}
use Rattle.chunk.proofs.step_in.Goals as goal

pub returns-then-left-lt-OPENING : goal.returns-then-left-lt-OPENING
returns-then-left-lt-OPENING c = ap Some c.ended_at.ensures ∙ (rw c.left_of-left.ensures (few _ _ _ _ (omega arith)))

pub returns-then-window-lt-OPENING : goal.returns-then-window-lt-OPENING
returns-then-window-lt-OPENING c = short _ _ _ _ (omega arith) (omega arith)

pub returns : goal.returns
returns c = ap Some c.opened_at.ensures ∙ (rw c.opening_at.ensures (enough _ _ _ _ (omega arith) (omega arith)))
