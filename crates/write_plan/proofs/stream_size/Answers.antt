-- `write_plan::stream_size` meets its contract: the whole payloads, and the last. Assumes nothing.
use Prim.Native.Nat.{◌%◌}
use native.Mathlib.Omega.{arith}
use Rattle.write_plan.specs.Sizes.{stream_size}
use Rattle.write_plan.proofs.SizeLaws.{last_fits}
use Rattle.write_plan.proofs.stream_size.Goals as goal

pub overflow_mul-result : goal.overflow_mul-result
overflow_mul-result c = omega arith

pub overflow_add-result : goal.overflow_add-result
overflow_add-result c = omega (arith, c.last_size.ensures, last_fits (c.args.len % 0x10000))

pub returns : goal.returns
unfolding stream_size
returns c = rw c.last_size.ensures
