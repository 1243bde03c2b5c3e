-- `old_film::name_stands` meets its contract: what stands before the name, and the zeros behind it. Assumes nothing.
use Prim.Native.Nat.{◌+◌}
use mathlib.Core.Path.{sym, ◌∙◌}
use native.Mathlib.Omega.{arith}
use Rattle.turns.proofs.ChunkLaws.{some_of}
use Rattle.old_film.proofs.name_stands.Goals as goal

pub returns-then-stands_at : goal.returns-then-stands_at
returns-then-stands_at c =
    rw (sym (rw c.name_head-head.ensures at c.stands_at.ensures) ∙ c.if-stands_at.true) (rw (some_of (1 + c.padding-count.result) 33 (omega (arith, c.padding-count.ensures)), c.padding-count.ensures) at c.stands_at-then-stands_at.ensures)
