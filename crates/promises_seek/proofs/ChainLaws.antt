-- Entries that follow one another without a gap, from a place of the stream to another: a jump by them finds the entry that holds the byte. Assumes nothing.
use Rattle.std.specs.Prelude.{Some, None}
use Prim.Native.Nat.{ℕ, zero, suc, ◌+◌, ◌-◌, ◌≤◌, ◌<◌}
use mathlib.Core.Path.{◌≡◌, refl, sym}
use mathlib.Core.List.{List, [], ◌∷◌}
use mathlib.Core.Logic.{⊎_elim}
use native.Mathlib.Omega.{arith}
use lib.ListN.{length, get_or}
use Rattle.laws.proofs.Side.{side}
use Rattle.seek.specs.Entries.{place_at, chunk_in, length_at}
use Rattle.seek.specs.Seeking.{begun_by, sought_in}
use Rattle.seek.proofs.SeekLaws.{none_begun, held, not_held}
use Rattle.seek.proofs.Promises.{BegunAreTheFirst}

-- each entry begins where the one before it ends; the first at p, and the last ends at q
unfoldable pub Chain : ℕ → List (List ℕ) → ℕ → Type 0
Chain p [] q = p ≡ q
Chain p (entry ∷ index) q = (get_or entry 0 0 ≡ p) × Chain (p + get_or entry 2 0) index q

reaches : (p : ℕ) (index : List (List ℕ)) (q : ℕ) → Chain p index q → p ≤ q
unfolding Chain
reaches p [] q c = omega (arith, c)
reaches p (entry ∷ index) q c = omega (arith, reaches (p + get_or entry 2 0) index q c.1)

-- an entry lies between both ends
between : (p : ℕ) (index : List (List ℕ)) (q i : ℕ) → Chain p index q → i < length index → (p ≤ place_at index i) × (place_at index i + length_at index i ≤ q)
unfolding Chain
between p [] q i c h = absurd (omega arith)
between p (entry ∷ index) q zero c h = (omega (arith, c.0), omega (arith, c.0, reaches (p + get_or entry 2 0) index q c.1))
between p (entry ∷ index) q (suc i) c h =
    let b = between (p + get_or entry 2 0) index q i c.1 (omega arith) in
    (omega (arith, b.0), b.1)

rising : (p : ℕ) (index : List (List ℕ)) (q : ℕ) → Chain p index q → (i j : ℕ) → i ≤ j → j < length index → place_at index i ≤ place_at index j
unfolding Chain
rising p [] q c i j h k = absurd (omega arith)
rising p (entry ∷ index) q c zero j h k = omega (arith, c.0, (between p (entry ∷ index) q j c k).0)
rising p (entry ∷ index) q c (suc i) zero h k = absurd (omega arith)
rising p (entry ∷ index) q c (suc i) (suc j) h k = rising (p + get_or entry 2 0) index q c.1 i j (omega arith) (omega arith)

-- byte n lies in the last entry that begins at or before it: the next one begins after it, or that entry ends where all do
module _ (q n : ℕ) (l : n < q) where
  holds_byte : (p : ℕ) (index : List (List ℕ)) (i : ℕ) → Chain p index q → i < length index
      → ((j : ℕ) → j ≤ i → place_at index j ≤ n) → ((j : ℕ) → i < j → j < length index → n < place_at index j) → n - place_at index i < length_at index i
  unfolding Chain
  holds_byte p [] i c h before after = absurd (omega arith)
  holds_byte p (entry ∷ []) zero c h before after = omega (arith, c.0, c.1, before 0 (omega arith))
  holds_byte p (entry ∷ next ∷ index) zero c h before after = omega (arith, c.0, c.1.0, before 0 (omega arith), after 1 (omega arith) (omega arith))
  holds_byte p (entry ∷ index) (suc i) c h before after =
      holds_byte (p + get_or entry 2 0) index i c.1 (omega arith) (λ j k. before (suc j) (omega arith)) (λ j k m. after (suc j) (omega arith) (omega arith))

  -- and there is one
  some_begun : (p : ℕ) (index : List (List ℕ)) → Chain p index q → p ≤ n → ((j : ℕ) → 0 ≤ j → j < length index → n < place_at index j) → ⊥
  unfolding Chain
  some_begun p [] c m after = omega (arith, c)
  some_begun p (entry ∷ index) c m after = omega (arith, c.0, after 0 (omega arith) (omega arith))

module _ (index : List (List ℕ)) (q n : ℕ) (c : Chain 0 index q) where
  abbrev last : ℕ
  last = begun_by index n - 1

  -- below the end, the last entry that begins at or before the byte answers, and holds it
  pub answers : n < q → (last < length index) × (place_at index last ≤ n) × (n - place_at index last < length_at index last) × (sought_in index n ≡ Some (record { chunk = chunk_in index last; offset = n - place_at index last }))
  answers l =
      let parted = BegunAreTheFirst index n (rising 0 index q c) in
      let some : begun_by index n ≡ 0 → ⊥ = λ e. some_begun q n l 0 index c (omega arith) (λ j _ k. parted.2 j (omega arith) k) in
      let more : 0 < begun_by index n = ⊎_elim (λ (h : begun_by index n < 1). absurd (some (omega arith))) (λ (h : 1 ≤ begun_by index n). h) (side (begun_by index n) 1) in
      let h : last < length index = omega (arith, parted.0) in
      let held-there : n - place_at index last < length_at index last =
      holds_byte q n l 0 index last c h (λ j k. parted.1 j (omega arith)) (λ j k m. parted.2 j (omega arith) m) in
      (h, parted.1 last (omega arith), held-there, sym (held index n (begun_by index n) refl some held-there))

  -- from there on none does
  pub past : q ≤ n → sought_in index n ≡ None
  past l =
      let parted = BegunAreTheFirst index n (rising 0 index q c) in
      ⊎_elim (λ (h : begun_by index n < 1). sym (none_begun index n (begun_by index n) refl (omega arith)))
      (λ (h : 1 ≤ begun_by index n).
      sym (not_held index n (begun_by index n) refl (λ e. omega arith) (omega (arith, (between 0 index q last c (omega (arith, parted.0))).1))))
      (side (begun_by index n) 1)
