-- `profile::judge` meets its contract: what the chunks from here on break is what all of them break. Each chunk leaves fewer bytes. Assumes nothing.
use mathlib.Core.Path.{◌≡◌}
use Prim.Native.Nat.{◌-◌}
use lib.ListN.{length}
use Rattle.profile.proofs.JudgeLaws.{from}
use Rattle.profile.proofs.judge.Given as goal

abbrev pub invariant-loop-chunk : goal.invariant-loop-chunk
invariant-loop-chunk l = from l.container l.reading l.at l.streams ≡ from l.container l.reading l.start l.initial.streams

abbrev pub decreases-loop-chunk : goal.decreases-loop-chunk
decreases-loop-chunk l = length l.container - l.at
