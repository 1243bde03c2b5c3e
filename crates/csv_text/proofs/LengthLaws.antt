-- A field of plain text is written as it is; and a field takes at most two bytes for each of its own, and two quotes. Assumes nothing.
use Rattle.std.proofs.Common.{◌≡◌, refl, List, [], ◌∷◌, ◌++◌, Bool, true, false, cond, ℕ, ◌+◌, ◌*◌, ◌≤◌, arith, length, length-append, eqb}
use Rattle.csv_text.specs.Written.{quote, is_mark, is_quoted, escaped, doubled, field_of}

pub plain_field : (w : List ℕ) → is_quoted w ≡ false → field_of w ≡ w
unfolding field_of
plain_field w e = rw e

pub quoted_field : (w : List ℕ) → is_quoted w ≡ true → field_of w ≡ (quote ∷ []) ++ (doubled w ++ (quote ∷ []))
unfolding field_of
quoted_field w e = rw e

pub plain_append : (v w : List ℕ) → is_quoted v ≡ false → is_quoted w ≡ false → is_quoted (v ++ w) ≡ false
unfolding is_quoted
plain_append [] w e f = f
plain_append (x ∷ v) w e f = go (is_mark x) e (plain_append v w)
  where
    go : (t : Bool) → cond t true (is_quoted v) ≡ false → (is_quoted v ≡ false → is_quoted w ≡ false → is_quoted (v ++ w) ≡ false) → cond t true (is_quoted (v ++ w)) ≡ false
    go true e more = e
    go false e more = more e f

escaped_length : (x : ℕ) → length (escaped x) ≤ 2
escaped_length x = go (eqb x quote) refl
  where
    go : (t : Bool) → eqb x quote ≡ t → length (escaped x) ≤ 2
    go true e = rw e (omega arith)
    go false e = rw e (omega arith)

pub doubled_length : (w : List ℕ) → length (doubled w) ≤ 2 * length w
unfolding doubled
doubled_length [] = omega arith
doubled_length (x ∷ w) =
    let more = doubled_length w in
    let one = escaped_length x in
    simp length-append (omega arith)

pub field_length : (w : List ℕ) → length (field_of w) ≤ 2 * length w + 2
unfolding field_of
field_length w = go (is_quoted w)
  where
    go : (t : Bool) → length (cond t ((quote ∷ []) ++ (doubled w ++ (quote ∷ []))) w) ≤ 2 * length w + 2
    go true = simp length-append (omega (arith, doubled_length w))
    go false = omega arith
