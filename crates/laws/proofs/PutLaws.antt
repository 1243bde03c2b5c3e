-- Bytes that are put into an output piece by piece are put whole: each piece begins where the one before ends. Assumes nothing.
use mathlib.Core.Path.{◌≡◌, refl, sym, ap, ap₂, ◌∙◌, subst}
use mathlib.Core.List.{List, [], ◌++◌}
use Prim.Native.Nat.{ℕ, ◌+◌, ◌≤◌}
use native.Mathlib.Omega.{arith}
use lib.ListN.{length, length-append}
use lib.Seq.{sets, length-sets}
use Rattle.laws.specs.Outputs.{Put}
use Rattle.laws.proofs.SetsLaws.{sets_append}

pub put_none : (out : List ℕ) (place : ℕ) → Put [] out place out place
put_none out place = record { ends = omega arith; holds = refl }

pub put_then : {p q out next after : List ℕ} {place middle end : ℕ} → Put p out place next middle → Put q next middle after end → Put (p ++ q) out place after end
put_then {p} {q} {out} {next} {after} {place} {middle} {end} h k =
    record {
      ends = omega (arith, length-append p q);
      holds = k.holds ∙ ap₂ (λ (l : List ℕ) (n : ℕ). sets l n q) h.holds h.ends ∙ sym (sets_append out p q place);
    }

pub put_as : {p q out after : List ℕ} {place end : ℕ} → Put p out place after end → p ≡ q → Put q out place after end
put_as {p} {q} {out} {after} {place} {end} h e = subst (λ (l : List ℕ). Put l out place after end) e h

-- what is put at the start of an output
pub put_first : {bytes other out after : List ℕ} {end : ℕ} → Put bytes out 0 after end → bytes ≡ other → (end ≡ length other) × (after ≡ sets out 0 other)
put_first {bytes} {other} {out} {after} {end} h e =
    let l : end ≡ length bytes = omega (arith, h.ends) in
    (l ∙ ap length e, h.holds ∙ ap (sets out 0) e)

-- ---- with what is left put after it, what stands there is the whole

pub record Left (rest out : List ℕ) (end : ℕ) (whole start : List ℕ) (place : ℕ) : Type 0 where
  pub ends : end + length rest ≡ place + length whole
  pub holds : sets out end rest ≡ sets start place whole

pub all_left : (whole start : List ℕ) (place : ℕ) → Left whole start place whole start place
all_left whole start place = record { ends = refl; holds = refl }

pub less_left : {p rest out next whole start : List ℕ} {end after place : ℕ} → Left (p ++ rest) out end whole start place → Put p out end next after → Left rest next after whole start place
less_left {p} {rest} {out} {next} {whole} {start} {end} {after} {place} l h =
    record {
      ends = omega (arith, l.ends, h.ends, length-append p rest);
      holds = ap₂ (λ (l : List ℕ) (n : ℕ). sets l n rest) h.holds h.ends ∙ sym (sets_append out p rest end) ∙ l.holds;
    }

pub none_left : {out whole start : List ℕ} {end place : ℕ} → Left [] out end whole start place → Put whole start place out end
none_left l = record { ends = omega (arith, l.ends); holds = l.holds }

pub left_length : {rest out whole start : List ℕ} {end place : ℕ} → Left rest out end whole start place → length out ≡ length start
left_length {rest} {out} {whole} {start} {end} {place} l = sym (length-sets out end rest) ∙ ap length l.holds ∙ length-sets start place whole

-- where the whole has room, so has what is left, and so has the next piece
module _ {rest out whole start : List ℕ} {end place : ℕ} (l : Left rest out end whole start place) (h : place + length whole ≤ length start) where
  pub left_fits : end + length rest ≤ length out
  left_fits = omega (arith, l.ends, left_length l)

pub next_fits : (p rest : List ℕ) {out whole start : List ℕ} {end place : ℕ} → Left (p ++ rest) out end whole start place → place + length whole ≤ length start
    → end + length p ≤ length out
next_fits p rest l h = omega (arith, left_fits l h, length-append p rest)
