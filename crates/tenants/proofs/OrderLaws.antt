-- The order in which tenants are listed moves nothing: not whether they have a statement, not the tenant of a rank, not a line. Assumes nothing.
use Prim.Native.Nat.{ℕ, zero, suc}
use mathlib.Core.Path.{◌≡◌, refl, sym, ap, ap₂, ◌∙◌}
use mathlib.Core.Bool.{Bool, ◌||◌}
use mathlib.Core.List.{List, ◌∷◌, Permᴰ}
use lib.ListN.{length}
use lib.Dec.{ltb, eqb}
use Rattle.tenants.specs.Tenants.{number_in, key_in, sharing, is_repeated, repeated, are_bad, has_rank, ranked, has_number, is_below, sharing_below}
use Rattle.tenants.specs.Shares.{portion, share_of, group_of, line_of, line_at, lines_from}
use Rattle.tenants.proofs.CountLaws.{same_count, same_first, perm_length, perm_count, perm_first, perm_lowest}
use Rattle.tenants.proofs.RisingLaws.{Distinct, few_ranked}

-- lines that agree at every rank
same_lines : (line line' : ℕ → List ℕ) → ((rank : ℕ) → line rank ≡ line' rank) → (rank n : ℕ) → lines_from line rank n ≡ lines_from line' rank n
unfolding lines_from
same_lines line line' e rank zero = refl
same_lines line line' e rank (suc n) = ap₂ ◌∷◌ (e rank) (same_lines line line' e (suc rank) n)

module _ {ts ts' : List (List ℕ)} (p : Permᴰ ts ts') where
  pub perm_bad : are_bad ts ≡ are_bad ts'
  perm_bad =
      let same : (t : List ℕ) → is_repeated ts t ≡ is_repeated ts' t = λ t. ap (ltb 1) (perm_count (has_number (number_in t)) p) in
      let twice : repeated ts ≡ repeated ts' = ap (ltb 0) (same_count (is_repeated ts) (is_repeated ts') same ts ∙ perm_count (is_repeated ts') p) in
      ap₂ (λ (n : ℕ) (b : Bool). eqb n 0 || (ltb 16 n || b)) (perm_length p) twice

  perm_ranked : Distinct ts → (rank : ℕ) → ranked rank ts ≡ ranked rank ts'
  perm_ranked d rank =
      same_first (has_rank ts rank) (has_rank ts' rank) (λ t. ap (λ (n : ℕ). eqb n rank) (perm_count (is_below (number_in t)) p)) ts
      ∙ perm_first (has_rank ts' rank) p
      (rw (sym (same_count (has_rank ts rank) (has_rank ts' rank) (λ t. ap (λ (n : ℕ). eqb n rank) (perm_count (is_below (number_in t)) p)) ts)) (few_ranked ts d rank))

  module _ (bits size : ℕ) where
    perm_line : (t : List ℕ) → line_of bits size ts t ≡ line_of bits size ts' t
    unfolding line_of
    perm_line t =
        let group : group_of bits ts t ≡ group_of bits ts' t = perm_lowest (sharing bits (key_in t)) (number_in t) p in
        let share : share_of bits size ts t ≡ share_of bits size ts' t =
        ap₂ (portion size) (perm_count (sharing bits (key_in t)) p) (perm_count (sharing_below bits (key_in t) (number_in t)) p) in
        rw (group, share)

    pub perm_lines : Distinct ts → lines_from (line_at bits size ts) 0 (length ts) ≡ lines_from (line_at bits size ts') 0 (length ts')
    perm_lines d =
        same_lines (line_at bits size ts) (line_at bits size ts') (λ rank. perm_line (ranked rank ts) ∙ ap (line_of bits size ts') (perm_ranked d rank)) 0 (length ts)
        ∙ ap (lines_from (line_at bits size ts') 0) (perm_length p)
