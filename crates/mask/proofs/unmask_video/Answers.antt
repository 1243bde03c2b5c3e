-- `mask::unmask_video` meets its contract, by those of the tail and then of the head. Assumes nothing.
use mathlib.Core.Path.{◌∙◌, ap}
use Prim.Native.Nat.{◌≤◌, ◌<◌}
use native.Mathlib.Omega.{arith}
use lib.ListN.{length}
use borrow.Author.Tests.{lt-ltb, le-ltb}
use Rattle.mask.specs.Video.{xored_head, unmasked_video}
use Rattle.mask.proofs.unmask_video.Goals as goal

pub returns-then-payload-lt-SHORTEST_VIDEO : goal.returns-then-payload-lt-SHORTEST_VIDEO
unfolding unmasked_video
returns-then-payload-lt-SHORTEST_VIDEO c =
    let short : length c.args.payload.now < 0x240 = omega arith in
    rw (lt-ltb _ _ short)

pub returns : goal.returns
unfolding unmasked_video
returns c =
    let long : 0x240 ≤ length c.args.payload.now = omega arith in
    rw (le-ltb _ _ long)
    (c.xor_head.ensures ∙ ap (xored_head _) c.clear_tail.ensures)
