-- `chunk::chunk_at` meets its contract: the bytes that are left pick the case of `chunkAt`. Assumes nothing.
use mathlib.Core.Path.{◌∙◌}
use native.Mathlib.Omega.{arith}
use Rattle.chunk.proofs.CaseLaws.{ended, opened}
use Rattle.chunk.proofs.chunk_at.Goals as goal

pub returns-then-left-lt-OPENING : goal.returns-then-left-lt-OPENING
returns-then-left-lt-OPENING c = c.ended_at.ensures ∙ (rw c.left_from-left.ensures (ended _ _ _ (omega arith)))

pub returns : goal.returns
returns c = c.opened_at.ensures ∙ (rw c.opening_at.ensures (opened _ _ _ (omega arith)))
