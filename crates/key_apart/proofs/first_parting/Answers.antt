-- `key_apart::first_parting` meets its contract: no position before p parts. Assumes nothing.
use native.Mathlib.Omega.{arith}
use mathlib.Core.Path.{◌≡◌, sym, ◌∙◌}
use Rattle.key_apart.proofs.FirstLaws.{looking_starts, looking_next, looking_found, looking_over}
use Rattle.key_apart.proofs.first_parting.Goals as goal

pub loop-p-init : goal.loop-p-init
loop-p-init c = looking_starts _ _

pub returns-then-parts : goal.returns-then-parts
returns-then-parts c = looking_found _ _ _ c.loop-p.invariant (omega arith) (sym c.parts.ensures ∙ c.if-parts.true)

pub loop-p-preserved : goal.loop-p-preserved
loop-p-preserved c = looking_next _ _ _ c.loop-p.invariant (omega arith) (sym c.parts.ensures ∙ c.if-parts.false)

pub returns : goal.returns
returns c =
    let last : c.loop-p.p ≡ c.args.len = omega arith in
    sym last ∙ looking_over _ _ _ c.loop-p.invariant (omega arith)
