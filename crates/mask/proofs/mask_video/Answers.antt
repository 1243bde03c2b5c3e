-- `mask::mask_video` meets its contract, by those of the head and then of the tail. Assumes nothing.
use mathlib.Core.Path.{◌∙◌, ap}
use Prim.Native.Nat.{◌≤◌, ◌<◌}
use native.Mathlib.Omega.{arith}
use lib.ListN.{length}
use borrow.Author.Tests.{lt-ltb, le-ltb}
use Rattle.mask.specs.Video.{stored_tail, masked_video}
use Rattle.mask.proofs.mask_video.Goals as goal

pub returns-then-payload-lt-SHORTEST_VIDEO : goal.returns-then-payload-lt-SHORTEST_VIDEO
unfolding masked_video
returns-then-payload-lt-SHORTEST_VIDEO c =
    let short : length c.args.payload.now < 0x240 = omega arith in
    rw (lt-ltb _ _ short)

pub returns : goal.returns
unfolding masked_video
returns c =
    let long : 0x240 ≤ length c.args.payload.now = omega arith in
    rw (le-ltb _ _ long)
    (c.mask_tail.ensures ∙ ap (stored_tail _) c.xor_head.ensures)
