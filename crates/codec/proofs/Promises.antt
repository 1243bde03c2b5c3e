-- The promises of specs/Promises.antt: in the lower half the number is its bits, in the upper one it is taken off the largest pattern twice. Assumes nothing.
use Rattle.std.specs.Prelude.{Some}
use Prim.Native.Nat.{◌-◌, ◌/◌, ◌≤◌, ◌<◌}
use mathlib.Core.Path.{◌≡◌, refl, sym, ap}
use mathlib.Core.Bool.{Bool, true, false, cond}
use native.Mathlib.Omega.{arith}
use lib.Dec.{leb}
use lib.IntN.{pos, negsuc}
use borrow.Author.Tests.{leb-true, leb-false, le-leb, lt-leb}
use Rattle.cell.specs.Cells.{signed_of}
use Rattle.cell.specs.declared.Cell.TheVariants.{Signed}
use Rattle.codec.specs.Codecs.{codec_of}
use Rattle.codec.specs.Promises as promised

pub SignedBitsKept : promised.SignedBitsKept
SignedBitsKept bits h = go (leb bits 0x7FFFFFFF)
  where
    go : (b : Bool) → codec_of (Signed (cond b (pos bits) (negsuc (0xFFFFFFFF - bits)))) ≡ Some bits
    go true = refl
    go false = let e : 0xFFFFFFFF - (0xFFFFFFFF - bits) ≡ bits = omega arith in ap Some e

pub SignExtended : promised.SignExtended
SignExtended bits top codec h t e = by_half (leb bits (top / 2)) refl e
  where
    by_half : (b : Bool) → leb bits (top / 2) ≡ b → codec_of (Signed (cond b (pos bits) (negsuc (top - bits)))) ≡ Some codec
        → signed_of codec 0xFFFFFFFF ≡ cond b (pos bits) (negsuc (top - bits))
    by_half true q e =
        let is : bits ≡ codec = cc in
        let low : codec ≤ 0x7FFFFFFF = omega (arith, is, leb-true bits (top / 2) q) in
        rw (le-leb codec 0x7FFFFFFF low) (ap pos (sym is))
    by_half false q e =
        let is : 0xFFFFFFFF - (top - bits) ≡ codec = cc in
        let high : 0x7FFFFFFF < codec = omega (arith, is, leb-false bits (top / 2) q) in
        let back : 0xFFFFFFFF - codec ≡ top - bits = omega (arith, is) in
        rw (lt-leb codec 0x7FFFFFFF high) (ap negsuc back)

pub SignedAtItsEnds : promised.SignedAtItsEnds
SignedAtItsEnds = ((refl, refl, refl), (refl, refl, refl))
