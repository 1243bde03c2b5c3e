-- The search for the last of some rising places that passes a test. Assumes nothing.
use Rattle.std.specs.Prelude.{Option, Some, None}
use Prim.Native.Nat.{ℕ, ◌≤◌}
use mathlib.Core.Path.{◌≡◌, refl, sym, ap, ◌∙◌}
use mathlib.Core.List.{List, [], ◌∷◌, ◌++◌}
use mathlib.Core.Bool.{Bool, true, false, cond, ◌&&◌}
use native.Mathlib.Omega.{arith}
use Rattle.salvage.specs.Salvage.{or_else, last_of}

-- no place is below the one before it, nor past the top
pub data Rising (top : ℕ) : ℕ → List ℕ → Type 0 where
  none : {p : ℕ} → Rising top p []
  more : {p q : ℕ} {qs : List ℕ} → p ≤ q → q ≤ top → Rising top q qs → Rising top p (q ∷ qs)

pub each_within : {top p : ℕ} (before : List ℕ) (q : ℕ) (after : List ℕ) → Rising top p (before ++ q ∷ after) → q ≤ top
each_within [] q after (more h k rest) = k
each_within (s ∷ before) q after (more h k rest) = each_within before q after rest

-- ---- what is found

-- what a search finds passes, and lies where the places lie
pub record Good (passes : ℕ → Bool) (p top q : ℕ) : Type 0 where
  pub passed : passes q ≡ true
  pub past : p ≤ q
  pub within : q ≤ top

by_test : (passes : ℕ → Bool) (p top q : ℕ) (t : Bool) → passes p ≡ t → p ≤ top → cond t (Some p) None ≡ Some q → Good passes p top q
by_test passes p top q true e h f = let is : p ≡ q = cc in record { passed = ap passes (sym is) ∙ e; past = omega arith; within = omega arith }
by_test passes p top q false e h f = let z : ◌≡◌ {A = ℕ} 0 1 = cc in absurd (omega arith)

module _ (passes : ℕ → Bool) {top : ℕ} where
  by_rest : {p q : ℕ} (r : ℕ) → p ≤ q → q ≤ top → (x : Option ℕ) → ((r : ℕ) → x ≡ Some r → Good passes q top r) → or_else x (cond (passes q) (Some q) None) ≡ Some r → Good passes p top r
  by_rest {p} {q} r h k (Some s) rest e =
      let g = rest r e in
      record { passed = g.passed; past = omega (arith, g.past); within = g.within }
  by_rest {p} {q} r h k None rest e =
      let g = by_test passes q top r (passes q) refl k e in
      record { passed = g.passed; past = omega (arith, g.past); within = g.within }

  pub found_good : {p : ℕ} {ps : List ℕ} → Rising top p ps → (r : ℕ) → last_of passes ps ≡ Some r → Good passes p top r
  unfolding last_of
  found_good none r e = let z : ◌≡◌ {A = ℕ} 0 1 = cc in absurd (omega arith)
  found_good (more {p} {q} {qs} h k rest) r e = by_rest r h k (last_of passes qs) (found_good rest) e

-- what a search finds is one of the places
abbrev pub Among : ℕ → List ℕ → Type 0
Among q ps = (before : List ℕ) × ((after : List ℕ) × (ps ≡ before ++ q ∷ after))

among_more : (p q : ℕ) (ps : List ℕ) → Among q ps → Among q (p ∷ ps)
among_more p q ps (before, (after, e)) = (p ∷ before, (after, ap (λ (l : List ℕ). p ∷ l) e))

module _ (passes : ℕ → Bool) where
  among_first : (p q : ℕ) (ps : List ℕ) (t : Bool) → cond t (Some p) None ≡ Some q → Among q (p ∷ ps)
  among_first p q ps true e = let is : p ≡ q = cc in ([], (ps, ap (λ (r : ℕ). r ∷ ps) is))
  among_first p q ps false e = let z : ◌≡◌ {A = ℕ} 0 1 = cc in absurd (omega arith)

  among_rest : (p q : ℕ) (ps : List ℕ) (x : Option ℕ) → (x ≡ Some q → Among q ps) → or_else x (cond (passes p) (Some p) None) ≡ Some q → Among q (p ∷ ps)
  among_rest p q ps (Some s) rest e = among_more p q ps (rest e)
  among_rest p q ps None rest e = among_first p q ps (passes p) e

  pub found_among : (ps : List ℕ) (q : ℕ) → last_of passes ps ≡ Some q → Among q ps
  unfolding last_of
  found_among [] q e = let z : ◌≡◌ {A = ℕ} 0 1 = cc in absurd (omega arith)
  found_among (p ∷ ps) q e = among_rest p q ps (last_of passes ps) (found_among ps q) e

-- the place found, or another one where none is
abbrev pub best_of : Option ℕ → ℕ → ℕ
best_of (Some p) best = p
best_of None best = best

-- where the first place passes, one is found
pub first_found : (passes : ℕ → Bool) (p : ℕ) (ps : List ℕ) (best : ℕ) → passes p ≡ true → last_of passes (p ∷ ps) ≡ Some (best_of (last_of passes (p ∷ ps)) best)
unfolding last_of
first_found passes p ps best e = rw e (either (last_of passes ps))
  where
    either : (x : Option ℕ) → or_else x (Some p) ≡ Some (best_of (or_else x (Some p)) best)
    either (Some q) = refl
    either None = refl

-- ---- what is not found

-- something is found, no less than q
abbrev pub AtLeast : ℕ → Option ℕ → Type 0
AtLeast q (Some r) = q ≤ r
AtLeast q None = ⊥

-- a place that passes is found, or one past it
module _ (passes : ℕ → Bool) (q : ℕ) (after : List ℕ) (passed : passes q ≡ true) where
  or_more : (x : Option ℕ) → ((r : ℕ) → x ≡ Some r → q ≤ r) → AtLeast q (or_else x (Some q))
  or_more (Some r) past = past r refl
  or_more None past = omega arith

  still : (x y : Option ℕ) → AtLeast q x → AtLeast q (or_else x y)
  still (Some r) y h = h
  still None y h = absurd h

  pub passing_found : {top p : ℕ} (before : List ℕ) → Rising top p (before ++ q ∷ after) → AtLeast q (last_of passes (before ++ q ∷ after))
  unfolding last_of
  passing_found [] (more h k rest) = rw passed (or_more (last_of passes after) (λ r e. (found_good passes rest r e).past))
  passing_found (s ∷ before) (more h k rest) = still (last_of passes (before ++ q ∷ after)) _ (passing_found before rest)

-- ---- two searches

pub same_search : (f g : ℕ → Bool) → ((p : ℕ) → f p ≡ g p) → (ps : List ℕ) → last_of f ps ≡ last_of g ps
unfolding last_of
same_search f g same [] = refl
same_search f g same (p ∷ ps) = rw (same_search f g same ps, same p)

-- what is found, if it passes a second test
abbrev pub if_passes : (ℕ → Bool) → Option ℕ → Option ℕ
if_passes g (Some p) = cond (g p) (Some p) None
if_passes g None = None

-- g is passed by every place past one that passes it: so if the last that passes f does not pass g, none passes both
module _ (f g : ℕ → Bool) (grows : (p q : ℕ) → p ≤ q → g p ≡ true → g q ≡ true) where
  abbrev both : ℕ → Bool
  both p = g p && f p

  not_below : (p q : ℕ) → p ≤ q → g q ≡ false → (t : Bool) → g p ≡ t → cond (t && f p) (Some p) None ≡ None
  not_below p q h e true k = let l = grows p q h k in let z : ◌≡◌ {A = ℕ} 0 1 = cc in absurd (omega arith)
  not_below p q h e false k = refl

  by_last : (p q : ℕ) → p ≤ q → (t : Bool) → g q ≡ t → or_else (cond t (Some q) None) (cond (both p) (Some p) None) ≡ cond t (Some q) None
  by_last p q h true e = refl
  by_last p q h false e = not_below p q h e (g p) refl

  by_one : (p : ℕ) (t u : Bool) → g p ≡ t → cond (t && u) (Some p) None ≡ if_passes g (cond u (Some p) None)
  by_one p true true e = rw e
  by_one p true false e = refl
  by_one p false true e = rw e
  by_one p false false e = refl

  by_found : (p : ℕ) (x : Option ℕ) → ((q : ℕ) → x ≡ Some q → p ≤ q)
      → or_else (if_passes g x) (cond (both p) (Some p) None) ≡ if_passes g (or_else x (cond (f p) (Some p) None))
  by_found p (Some q) past = by_last p q (past q refl) (g q) refl
  by_found p None past = by_one p (g p) (f p) refl

  pub both_searched : {top p : ℕ} {ps : List ℕ} → Rising top p ps → last_of both ps ≡ if_passes g (last_of f ps)
  unfolding last_of
  both_searched none = refl
  both_searched (more {p} {q} {qs} h k rest) =
      rw (both_searched rest) (by_found q (last_of f qs) (λ r e. (found_good f rest r e).past))
