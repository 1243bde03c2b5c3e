-- `cell::float_bits` meets its contract: only a NaN differs from itself, and it has one pattern. Assumes nothing.
use mathlib.Core.Path.{◌≡◌, refl, sym, ap, ◌∙◌, subst}
use mathlib.Core.Bool.{Bool, true, false, not}
use lib.Dec.{T}
use lib.Ieee.{Float, nan, inf, fin, eq, ne, is_nan, to_bits, binary32}
use lib.Ieee.Compare.{differs_from_itself}
use Rattle.cell.proofs.float_bits.Goals as goal

number : (x : Float) → eq x x ≡ true → T (not (is_nan x))
unfolding eq is_nan
number nan h = absurd (subst (λ (b : Bool). T (not b)) h tt)
number (inf s) h = tt
number (fin s m e) h = tt

only_nan : (x : Float) → eq x x ≡ false → x ≡ nan
unfolding ne
only_nan x h = differs_from_itself x (subst (λ (b : Bool). T (not b)) (sym h) tt)

nan_bits : to_bits binary32 nan ≡ 0x7FC00000
unfolding to_bits
nan_bits = refl

pub float_to_bits-result : goal.float_to_bits-result
float_to_bits-result c = number c.args.number c.if-number.true

pub returns : goal.returns
returns c = sym (ap (to_bits binary32) (only_nan c.args.number c.if-number.false) ∙ nan_bits)
