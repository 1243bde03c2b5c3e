-- `turns::stream_size` meets its contract. Assumes nothing.
use Prim.Native.Nat.{◌%◌}
use native.Mathlib.Omega.{arith}
use Rattle.turns.specs.Turns.{stream_size}
use Rattle.turns.proofs.SizeLaws.{size_few}
use Rattle.turns.proofs.stream_size.Goals as goal

pub overflow_add-result : goal.overflow_add-result
overflow_add-result c = omega (arith, c.chunk_size.ensures, size_few c.args.form (c.args.len % 0x10000) (omega arith))

pub returns : goal.returns
unfolding stream_size
returns c = rw c.chunk_size.ensures
