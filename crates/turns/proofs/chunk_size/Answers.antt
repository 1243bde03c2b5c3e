-- `turns::chunk_size` meets its contract: a chunk of 0 bytes is none. Assumes nothing.
use native.Mathlib.Omega.{arith}
use borrow.Author.Tests.{eq-eqb, ne_eqb}
use Rattle.turns.specs.Chunks.{chunk_size}
use Rattle.turns.proofs.ChunkLaws.{shape_fits}
use Rattle.turns.proofs.chunk_size.Goals as goal

pub returns-then-len-eq0 : goal.returns-then-len-eq0
unfolding chunk_size
returns-then-len-eq0 c = rw (eq-eqb _ _ c.if-len-eq0.true)

pub overflow_add-result : goal.overflow_add-result
overflow_add-result c = omega (arith, shape_fits _ _ _ _ _ c.shape_of-shape.ensures)

pub overflow_add-result-2 : goal.overflow_add-result-2
overflow_add-result-2 c = omega (arith, shape_fits _ _ _ _ _ c.shape_of-shape.ensures)

pub overflow_add-result-3 : goal.overflow_add-result-3
overflow_add-result-3 c = omega (arith, shape_fits _ _ _ _ _ c.shape_of-shape.ensures)

pub returns : goal.returns
unfolding chunk_size
returns c = rw (ne_eqb _ _ c.if-len-eq0.false, c.shape_of-shape.ensures)
