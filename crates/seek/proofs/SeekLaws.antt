-- The answer of a jump, by the tests that lead to it; and back: what an answer says. Assumes nothing.
use Rattle.std.proofs.Common.{ℕ, ◌-◌, ◌≤◌, ◌<◌, ◌≡◌, refl, sym, ap, List, Bool, true, false, cond, arith, eqb, ltb, eq-eqb, ne_eqb, lt-ltb, le-ltb, ltb-true, Option, Some, None}
use borrow.Author.Tests.{eqb-false}
use Rattle.seek.specs.declared.Sought.{Sought}
use Rattle.seek.specs.Entries.{place_at, chunk_in, length_at}
use Rattle.seek.specs.Seeking.{begun_by, in_entry, sought_in}
use Rattle.seek.specs.Promises.{Answers}
use Rattle.seek.proofs.HalvingLaws.{last_begun}

module _ (index : List (List ℕ)) (n k : ℕ) (e : k ≡ begun_by index n) where
  -- no entry begins at or before the byte
  pub none_begun : k ≡ 0 → None ≡ sought_in index n
  unfolding sought_in
  none_begun z = rw (← e, eq-eqb k 0 z)

  -- the last that does holds the byte
  pub held : (k ≡ 0 → ⊥) → n - place_at index (k - 1) < length_at index (k - 1) → Some (record { chunk = chunk_in index (k - 1); offset = n - place_at index (k - 1) }) ≡ sought_in index n
  unfolding sought_in
  held z h = rw (← e, ne_eqb k 0 z, lt-ltb (n - place_at index (k - 1)) (length_at index (k - 1)) h)

  -- or ends before it
  pub not_held : (k ≡ 0 → ⊥) → length_at index (k - 1) ≤ n - place_at index (k - 1) → None ≡ sought_in index n
  unfolding sought_in
  not_held z h = rw (← e, ne_eqb k 0 z, le-ltb (n - place_at index (k - 1)) (length_at index (k - 1)) h)

module _ (index : List (List ℕ)) (n chunk offset : ℕ) where
  by_length : (i : ℕ) → place_at index i ≤ n → (b : Bool) → ltb (n - place_at index i) (length_at index i) ≡ b
      → cond {A = Option Sought} b (Some (record { chunk = chunk_in index i; offset = n - place_at index i })) None ≡ Some (record { chunk = chunk; offset = offset }) → Answers index n chunk offset i
  by_length i h true t e =
      let same : ◌≡◌ {A = Sought} (record { chunk = chunk_in index i; offset = n - place_at index i }) (record { chunk = chunk; offset = offset }) = cc in
      let o : n - place_at index i ≡ offset = ap (λ (s : Sought). s.offset) same in
      let s : chunk_in index i ≡ chunk = ap (λ (s : Sought). s.chunk) same in
      record { begins = h; starts = sym s; counted = sym o; within = omega (arith, o, ltb-true (n - place_at index i) (length_at index i) t) }
  by_length i h false t e = let z : ◌≡◌ {A = ℕ} 0 1 = cc in absurd (omega arith)

  by_begun : (k : ℕ) → (0 < k → place_at index (k - 1) ≤ n) → (b : Bool) → eqb k 0 ≡ b → cond b None (in_entry index n (k - 1)) ≡ Some (record { chunk = chunk; offset = offset })
      → (0 < k) × Answers index n chunk offset (k - 1)
  by_begun k h true t e = let z : ◌≡◌ {A = ℕ} 0 1 = cc in absurd (omega arith)
  by_begun k h false t e =
      let some : 0 < k = omega (arith, eqb-false k 0 t) in
      (some, by_length (k - 1) (h some) (ltb (n - place_at index (k - 1)) (length_at index (k - 1))) refl e)

  pub answered : sought_in index n ≡ Some (record { chunk = chunk; offset = offset }) → (0 < begun_by index n) × Answers index n chunk offset (begun_by index n - 1)
  unfolding sought_in
  answered e = by_begun (begun_by index n) (last_begun index n) (eqb (begun_by index n) 0) refl e
