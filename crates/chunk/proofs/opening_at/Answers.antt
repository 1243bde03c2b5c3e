-- `chunk::opening_at` meets its contract: what the part says is what the container says. Assumes nothing.
use Prim.Native.Nat.{◌+◌, ◌-◌}
use mathlib.Core.Path.{◌≡◌, ◌∙◌}
use native.Mathlib.Omega.{arith}
use Rattle.chunk.proofs.OpeningLaws.{same_opening}
use Rattle.chunk.proofs.opening_at.Goals as goal

pub returns : goal.returns
returns c =
    let all : c.args.place + 45 - c.args.place ≡ 45 = omega arith in
    (rw all at c.opening_of.ensures) ∙ same_opening _ _ 45 (omega arith) c.requires
