-- `seek::begun_by` meets its contract: what is found in the span at hand is what the whole index has, and each half is shorter. Assumes nothing.
use Rattle.std.proofs.Common.{arith}
use Rattle.seek.proofs.HalvingLaws.{halving_starts, halving_goes_on, halving_over, half_falls}
use Rattle.seek.proofs.begun_by.Goals as goal

pub loop-span-init : goal.loop-span-init
loop-span-init c = halving_starts _ _

pub half_of-span-requires : goal.half_of-span-requires
half_of-span-requires c = (omega arith, c.loop-span.invariant.inside)

pub loop-span-smaller : goal.loop-span-smaller
loop-span-smaller c = rw c.half_of-span.ensures (half_falls _ _ _ c.loop-span-test.true).1

pub loop-span-preserved : goal.loop-span-preserved
loop-span-preserved c = rw c.half_of-span.ensures (halving_goes_on _ _ _ c.loop-span.invariant c.loop-span-test.true)

pub returns : goal.returns
returns c =
    let w = c.loop-span.invariant in
    (halving_over _ _ _ w (omega arith), omega arith, w.last)
