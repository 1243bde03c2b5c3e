-- `write_plan::header_size` meets its contract: all blocks that hold no payload but the ends. Assumes nothing.
use mathlib.Core.Path.{◌∙◌}
use native.Mathlib.Omega.{arith}
use Rattle.write_plan.proofs.LengthLaws.{ends_length}
use Rattle.write_plan.proofs.SizeLaws.{frame_fits, ends_fit, header_is}
use Rattle.write_plan.proofs.header_size.Goals as goal

pub overflow_sub-result : goal.overflow_sub-result
overflow_sub-result c = omega (arith, c.ends_size.ensures ∙ ends_length c.args.packing.audio, c.frame_size.ensures, ends_fit c.args.packing)

pub overflow_add-result : goal.overflow_add-result
overflow_add-result c = omega (arith, c.frame_size.ensures, c.block_size.ensures, frame_fits c.args.packing)

pub returns : goal.returns
returns c =
    let args = c.args in
    rw (c.ends_size.ensures ∙ ends_length args.packing.audio, c.frame_size.ensures, c.block_size.ensures) (header_is args.name args.packing)
