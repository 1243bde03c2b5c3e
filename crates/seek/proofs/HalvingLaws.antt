-- Halving a span: it falls with each step, and what it finds is what the whole index has. Assumes nothing.
use Rattle.std.proofs.Common.{ℕ, zero, suc, ◌+◌, ◌-◌, ◌/◌, ◌^◌, ◌≤◌, ◌<◌, ◌≡◌, refl, sym, ◌∙◌, List, Bool, true, false, cond, ⊎_elim, arith, length, leb, leb-true, leb-false, eq-eqb, ne_eqb}
use Rattle.laws.proofs.Side.{side}
use Rattle.seek.specs.declared.Span.{Span}
use Rattle.seek.specs.Entries.{place_at}
use Rattle.seek.specs.Seeking.{half_of, halved, begun_by}

module _ (index : List (List ℕ)) (n : ℕ) where
  abbrev middle : Span → ℕ
  middle span = span.low + span.count / 2

  abbrev later : Span → Span
  later span = record { low = middle span + 1; count = span.count - span.count / 2 - 1 }

  abbrev earlier : Span → Span
  earlier span = record { low = span.low; count = span.count / 2 }

  -- what holds of both halves, each where it is taken, holds of the half that is taken
  either : (P : Span → Type 0) (span : Span) (b : Bool) → leb (place_at index (middle span)) n ≡ b
      → (place_at index (middle span) ≤ n → P (later span)) → (n < place_at index (middle span) → P (earlier span)) → P (cond b (later span) (earlier span))
  either P span true e after before = after (leb-true (place_at index (middle span)) n e)
  either P span false e after before = before (leb-false (place_at index (middle span)) n e)

  by_half : (P : Span → Type 0) (span : Span) → (place_at index (middle span) ≤ n → P (later span)) → (n < place_at index (middle span) → P (earlier span)) → P (half_of index n span)
  unfolding half_of
  by_half P span = either P span (leb (place_at index (middle span)) n) refl

  -- a half has at most half of the entries
  pub half_falls : (span : Span) → 0 < span.count → ((half_of index n span).count ≤ span.count / 2) × ((half_of index n span).count < span.count)
  half_falls span h =
      by_half (λ (s : Span). (s.count ≤ span.count / 2) × (s.count < span.count)) span
      (λ _. omega arith) (λ _. omega arith)

  -- an empty span is not halved
  none_left : (steps : ℕ) (span : Span) → span.count ≡ 0 → halved index n steps span ≡ span.low
  unfolding halved
  none_left zero span e = refl
  none_left (suc steps) span e = rw (eq-eqb span.count 0 e)

  one_halved : (steps : ℕ) (span : Span) → 0 < span.count → halved index n (suc steps) span ≡ halved index n steps (half_of index n span)
  unfolding halved
  one_halved steps span h = rw (ne_eqb span.count 0 (λ e. omega arith))

  -- ---- the loop

  -- the loop stands at a span: what is found in it is what the whole index has; the entry before it begins at or before byte n
  pub record Halving (span : Span) : Type 0 where
    pub steps : ℕ
    pub enough : span.count ≤ steps
    pub whole : halved index n steps span ≡ begun_by index n
    pub inside : span.low + span.count ≤ length index
    pub last : 0 < span.low → place_at index (span.low - 1) ≤ n

  pub halving_starts : Halving (record { low = 0; count = length index })
  unfolding begun_by
  halving_starts = record { steps = length index; enough = omega arith; whole = refl; inside = omega arith; last = λ h. absurd (omega arith) }

  last_after : (span : Span) → place_at index (middle span) ≤ n → place_at index (middle span + 1 - 1) ≤ n
  last_after span h = let e : middle span + 1 - 1 ≡ middle span = omega arith in rw e h

  pub halving_goes_on : (span : Span) → Halving span → 0 < span.count → Halving (half_of index n span)
  halving_goes_on span w h =
      let s : w.steps ≡ suc (w.steps - 1) = omega arith in
      let fell = half_falls span h in
      let kept = by_half (λ (s : Span). (s.low + s.count ≤ length index) × (0 < s.low → place_at index (s.low - 1) ≤ n)) span
      (λ after. (omega arith, λ _. last_after span after)) (λ before. (omega arith, w.last)) in
      record {
        steps = w.steps - 1;
        enough = omega arith;
        whole = sym (one_halved (w.steps - 1) span h) ∙ (rw s at w.whole);
        inside = kept.0;
        last = kept.1;
      }

  pub halving_over : (span : Span) → Halving span → span.count ≡ 0 → span.low ≡ begun_by index n
  halving_over span w e = sym (none_left w.steps span e) ∙ w.whole

  -- the last entry that is found begins at or before byte n, in any list
  last_found : (steps : ℕ) (span : Span) → Halving span → span.count ≤ steps → 0 < halved index n steps span → place_at index (halved index n steps span - 1) ≤ n
  last_found zero span w h = let e : span.count ≡ 0 = omega arith in rw (none_left 0 span e) w.last
  last_found (suc steps) span w h =
      ⊎_elim (λ (l : span.count < 1). let e : span.count ≡ 0 = omega arith in rw (none_left (suc steps) span e) w.last)
      (λ (l : 1 ≤ span.count). rw (one_halved steps span l) (last_found steps (half_of index n span) (halving_goes_on span w l) (omega (arith, (half_falls span l).1))))
      (side span.count 1)

  pub last_begun : 0 < begun_by index n → place_at index (begun_by index n - 1) ≤ n
  unfolding begun_by
  last_begun = last_found (length index) (record { low = 0; count = length index }) halving_starts (omega arith)

  -- ---- what is found where the places never fall

  -- the entries before k begin at or before byte n, and those from k on after it
  abbrev pub Parted : ℕ → Type 0
  Parted k = (k ≤ length index) × ((i : ℕ) → i < k → place_at index i ≤ n) × ((i : ℕ) → k ≤ i → i < length index → n < place_at index i)

  module _ (rising : (i j : ℕ) → i ≤ j → j < length index → place_at index i ≤ place_at index j) where
    -- the entries before a span begin at or before byte n, and those past it after it
    abbrev Around : Span → Type 0
    Around span =
        (span.low + span.count ≤ length index) × ((i : ℕ) → i < span.low → place_at index i ≤ n)
        × ((i : ℕ) → span.low + span.count ≤ i → i < length index → n < place_at index i)

    half_around : (span : Span) → 0 < span.count → Around span → Around (half_of index n span)
    half_around span h a =
        by_half Around span
        (λ after. (omega arith, λ i l. omega (arith, rising i (middle span) (omega arith) (omega arith)), λ i l k. a.2 i (omega arith) k))
        (λ before. (omega arith, a.1, λ i l k. omega (arith, rising (middle span) i (omega arith) k)))

    over_around : (span : Span) → span.count ≡ 0 → Around span → Parted span.low
    over_around span e a = (omega arith, a.1, λ i l k. a.2 i (omega arith) k)

    all_around : (steps : ℕ) (span : Span) → span.count ≤ steps → Around span → Parted (halved index n steps span)
    all_around zero span h a = let e : span.count ≡ 0 = omega arith in rw (none_left 0 span e) (over_around span e a)
    all_around (suc steps) span h a =
        ⊎_elim (λ (l : span.count < 1). let e : span.count ≡ 0 = omega arith in rw (none_left (suc steps) span e) (over_around span e a))
        (λ (l : 1 ≤ span.count). rw (one_halved steps span l) (all_around steps (half_of index n span) (omega (arith, (half_falls span l).1)) (half_around span l a)))
        (side span.count 1)

    pub begun_parted : Parted (begun_by index n)
    unfolding begun_by
    begun_parted =
        all_around (length index) (record { low = 0; count = length index }) (omega arith)
        (omega arith, λ i l. absurd (omega arith), λ i l k. absurd (omega arith))

  -- ---- how few halvings there are

  -- two numbers of halvings that both suffice find the same
  same_steps : (k m : ℕ) (span : Span) → span.count < 2 ^ k → span.count ≤ m → halved index n k span ≡ halved index n m span
  same_steps zero m span h l = let e : span.count ≡ 0 = omega arith in none_left 0 span e ∙ sym (none_left m span e)
  same_steps (suc k) zero span h l = let e : span.count ≡ 0 = omega arith in none_left (suc k) span e ∙ sym (none_left 0 span e)
  same_steps (suc k) (suc m) span h l =
      ⊎_elim (λ (z : span.count < 1). let e : span.count ≡ 0 = omega arith in none_left (suc k) span e ∙ sym (none_left (suc m) span e))
      (λ (z : 1 ≤ span.count).
      let fell = half_falls span z in
      one_halved k span z ∙ same_steps k m (half_of index n span) (omega arith) (omega arith) ∙ sym (one_halved m span z))
      (side span.count 1)

  pub few_halvings : (k : ℕ) → length index < 2 ^ k → halved index n k (record { low = 0; count = length index }) ≡ begun_by index n
  unfolding begun_by
  few_halvings k h = same_steps k (length index) (record { low = 0; count = length index }) h (omega arith)
