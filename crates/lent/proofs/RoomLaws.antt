-- What is known where bytes were written: they were planned, and the output has room for them. Assumes nothing.
use Rattle.std.specs.Prelude.{Result, Ok, Err}
use Prim.Native.Nat.{ℕ, ◌≤◌}
use mathlib.Core.Path.{◌≡◌, refl, ap}
use mathlib.Core.Bool.{Bool, true, false, cond}
use native.Mathlib.Omega.{arith}
use lib.Dec.{ltb}
use borrow.Author.Tests.{ltb-false}
use Rattle.refusal.specs.declared.Refusal.{Refusal}
use Rattle.lent.specs.Written.{written_in}

tested : (t : Bool) (refusal : Refusal) (n size : ℕ) → cond t (Err refusal) (Ok n) ≡ Ok size → (t ≡ false) × (n ≡ size)
tested true refusal n size e = let z : ◌≡◌ {A = ℕ} 0 1 = cc in absurd (omega arith)
tested false refusal n size e = (refl, cc)

pub planned_so : (room : ℕ) (planned : Result ℕ Refusal) (size : ℕ) → written_in room planned ≡ Ok size → (planned ≡ Ok size) × (size ≤ room)
planned_so room (Ok n) size e =
    let t = tested (ltb room n) _ n size e in
    (ap Ok t.1, omega (arith, ltb-false room n t.0, t.1))
planned_so room (Err refusal) size e = let z : ◌≡◌ {A = ℕ} 0 1 = cc in absurd (omega arith)
