-- `lookup::spelled` meets its contract: what is left to compare decides. Assumes nothing.
use Rattle.std.proofs.Common.{◌≡◌, ◌+◌, ℕ, length, sym, ap, ◌∙◌, arith, add-zero}
use Rattle.laws.specs.Lists.{at}
use lib.Dec.{eqb}
use Rattle.lookup.proofs.NameLaws.{ended, differs, same, over}
use Rattle.lookup.proofs.spelled.Goals as goal

pub loop-i-init : goal.loop-i-init
loop-i-init c = simp add-zero

pub returns-then-byte-eq0 : goal.returns-then-byte-eq0
returns-then-byte-eq0 c =
    let a = c.args in
    sym (ended a.body.now a.name.now a.at c.loop-i.i (omega arith) (sym c.read8-byte.ensures.0 ∙ c.if-byte-eq0.true)) ∙ c.loop-i.invariant

pub returns-then-byte-from : goal.returns-then-byte-from
returns-then-byte-from c =
    let a = c.args in
    let x = c.read8-byte.ensures.0 in
    sym
    (differs a.body.now a.name.now a.at c.loop-i.i (omega arith) (λ f. c.if-byte-eq0.false (x ∙ f))
    (λ f. c.if-byte-from.true (x ∙ f ∙ sym c.from.ensures)))
    ∙ c.loop-i.invariant

pub loop-i-preserved : goal.loop-i-preserved
loop-i-preserved c =
    let a = c.args in
    let x = c.read8-byte.ensures.0 in
    sym
    (same a.body.now a.name.now a.at c.loop-i.i (omega arith) (λ f. c.if-byte-eq0.false (x ∙ f))
    (sym x ∙ c.if-byte-from.false ∙ c.from.ensures))
    ∙ c.loop-i.invariant

pub returns : goal.returns
returns c =
    let a = c.args in
    let e : length a.name.now ≡ c.loop-i.i = omega arith in
    ap (λ (n : ℕ). eqb n 0) (c.read8.ensures.0 ∙ ap (λ (i : ℕ). at a.body.now (a.at + i)) e)
    ∙ sym (over a.body.now a.name.now a.at c.loop-i.i (omega arith)) ∙ c.loop-i.invariant
