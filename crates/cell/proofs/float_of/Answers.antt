-- `cell::float_of` meets its contract: the test tells a NaN's bits. Assumes nothing.
use mathlib.Core.Path.{sym, ◌∙◌, subst}
use mathlib.Core.Bool.{Bool, not}
use borrow.Author.Tests.{le-leb, lt-leb, le-ltb}
use lib.Dec.{T}
use lib.Ieee.{binary32}
use lib.Ieee.Bits.{nan_bits_above}
use Rattle.cell.proofs.float_of.Goals as goal

pub float_from_bits-result : goal.float_from_bits-result
float_from_bits-result c =
    subst (λ (b : Bool). T (not b)) (sym (nan_bits_above binary32 c.args.pattern ∙ le-ltb _ _ c.if-bits-le2139095040.true)) tt

pub returns-then-bits-le2139095040 : goal.returns-then-bits-le2139095040
returns-then-bits-le2139095040 c = simp (le-leb _ _ c.if-bits-le2139095040.true)

pub returns : goal.returns
returns c = simp (lt-leb _ _ c.if-bits-le2139095040.false)
