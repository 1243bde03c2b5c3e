-- `write_plan::film_size` meets its contract: it is the sum of what it is made of. Assumes nothing.
use native.Mathlib.Omega.{arith}
use Rattle.write_plan.specs.Sizes.{film_size}
use Rattle.write_plan.proofs.SizeLaws.{frame_fits, stream_fits}
use Rattle.write_plan.proofs.film_size.Goals as goal

pub overflow_add-result : goal.overflow_add-result
overflow_add-result c = omega (arith, c.frame_size.ensures, c.block_size.ensures, frame_fits c.args.packing)

pub overflow_add-result-2 : goal.overflow_add-result-2
overflow_add-result-2 c = omega (arith, c.stream_size-2.ensures, c.stream_size.ensures, stream_fits c.args.video, stream_fits c.args.audio)

pub overflow_add-result-3 : goal.overflow_add-result-3
overflow_add-result-3 c = omega (arith, c.stream_size-2.ensures, c.stream_size.ensures, stream_fits c.args.video, stream_fits c.args.audio, c.frame_size.ensures, c.block_size.ensures, frame_fits c.args.packing)

pub returns : goal.returns
unfolding film_size
returns c = rw (c.stream_size-2.ensures, c.stream_size.ensures, c.frame_size.ensures, c.block_size.ensures)
