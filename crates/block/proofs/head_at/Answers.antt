-- `block::head_at` meets its contract: each answer follows from the tests before it, and no sum is larger than a slice can be plus 2 ^ 32. Assumes nothing.
use Rattle.std.specs.Prelude.{Ok}
use mathlib.Core.Path.{sym, ap, ◌∙◌}
use Prim.Native.Nat.{ℕ, ◌+◌}
use native.Mathlib.Omega.{arith}
use Rattle.block.proofs.BlockLaws.{head_cut, head_other, head-short, head_read}
use Rattle.block.proofs.head_at.Goals as goal

pub returns-then-left-lt-LETTERS : goal.returns-then-left-lt-LETTERS
returns-then-left-lt-LETTERS c =
    let a = c.args in
    c.refused.ensures ∙ head_cut a.bytes.now a.letters a.missing a.place (omega arith)

pub returns-then-read32-letters : goal.returns-then-read32-letters
returns-then-read32-letters c =
    let a = c.args in
    let r = c.read32 in
    c.refused-then-read32-letters.ensures ∙ head_other a.bytes.now a.letters a.missing a.place (omega arith) (λ e. c.if-read32-letters.true (r.ensures.0 ∙ e))

pub returns-then-left-lt-HEAD : goal.returns-then-left-lt-HEAD
returns-then-left-lt-HEAD c =
    let a = c.args in
    let r = c.read32 in
    c.refused-then-left-lt-HEAD.ensures ∙ head-short a.bytes.now a.letters a.missing a.place (omega arith) (sym r.ensures.0 ∙ c.if-read32-letters.false) (omega arith)

pub returns : goal.returns
returns c =
    let a = c.args in
    let r = c.read32 in
    ap (λ (size : ℕ). Ok (a.place + 8 + size)) c.read32-2.ensures.0
    ∙ head_read a.bytes.now a.letters a.missing a.place (omega arith) (sym r.ensures.0 ∙ c.if-read32-letters.false) (omega arith)
