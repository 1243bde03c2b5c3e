-- The ends of the streams, one after the other. Assumes nothing.
use Prim.Native.Nat.{ℕ, suc, ◌+◌, ◌-◌, ◌≤◌, ◌<◌}
use mathlib.Core.Path.{◌≡◌, sym, ap, ap₂, ◌∙◌}
use mathlib.Core.List.{List, []}
use mathlib.Core.Bool.{Bool, true, false, ◌&&◌}
use native.Mathlib.Omega.{arith}
use lib.ListN.{length, drop, length-append, length-drop, replicate}
use lib.Dec.{eqb}
use Rattle.signature.specs.Signatures.{stands_at}
use Rattle.turns.proofs.FrontLaws.{stands_front, stands_then, front_fits}
use Rattle.old_film.specs.Blocks.{old_head, end_block}
use Rattle.old_film.specs.Films.{old_ends}
use Rattle.old_film.specs.Finding.{closes_with}
use Rattle.old_film.proofs.FindLaws.{ends_some, closing}

module _ (c : List ℕ) where
  ends_then : (place n : ℕ) → closes_with c place (suc n) ≡ (stands_at end_block c place && stands_at (old_ends (replicate n [])) c (place + 28) && eqb (length c - place) (28 + length (old_ends (replicate n []))))
  unfolding old_ends old_head
  ends_then place n = ap₂ (λ (t : Bool) (m : ℕ). t && eqb (length c - place) m) (stands_then end_block (old_ends (replicate n [])) c place) (length-append end_block (old_ends (replicate n [])))

  pub end_fits : (place : ℕ) → stands_at end_block c place ≡ true → place + 28 ≤ length c
  unfolding old_head
  end_fits place e = omega (arith, front_fits end_block (drop place c) (sym (stands_front end_block c place) ∙ e), length-drop place c)

  pub ends_more : (place left : ℕ) → 0 < left → stands_at end_block c place ≡ true → closes_with c (place + 28) (left - 1) ≡ closes_with c place left
  ends_more place left some e =
      let n = left - 1 in
      let s : left ≡ suc n = omega arith in
      let E = old_ends (replicate n []) in
      let d : length c - place - 28 ≡ length c - (place + 28) = omega arith in
      sym (ap (closes_with c place) s ∙ ends_then place n
      ∙ ap₂ (λ (t u : Bool). t && stands_at E c (place + 28) && u) e (closing (length c - place) 28 (length E) (ends_some (replicate n [])) ∙ ap (λ (m : ℕ). eqb m (length E)) d))

  pub ends_not : (place left : ℕ) → 0 < left → stands_at end_block c place ≡ false → false ≡ closes_with c place left
  ends_not place left some e =
      let n = left - 1 in
      let s : left ≡ suc n = omega arith in
      let E = old_ends (replicate n []) in
      sym (ap (closes_with c place) s ∙ ends_then place n ∙ ap (λ (t : Bool). t && stands_at E c (place + 28) && eqb (length c - place) (28 + length E)) e)

  pub ends_last : (place left : ℕ) → left ≡ 0 → (t : Bool) → stands_at end_block c place ≡ t → (t && eqb (length c - place) 28) ≡ closes_with c place left
  unfolding old_ends old_head
  ends_last place left e t f = ap (λ (u : Bool). u && eqb (length c - place) 28) (sym f) ∙ ap (closes_with c place) (sym e)
