-- What was written is read byte by byte: text in quotes, text without, a field and what stands after it, a record, and all records. Assumes nothing.
use Rattle.std.proofs.Common.{◌≡◌, refl, ap, ◌∙◌, List, [], ◌∷◌, ◌++◌, append_assoc, append-nil, Bool, true, false, cond, ◌||◌, ℕ, arith, length, eqb, eqb-true}
use Rattle.csv_text.specs.Written.{quote, comma, cr, lf, is_mark, is_quoted, escaped, doubled, field_of, mark_after, record_of, csv_of}
use Rattle.csv_text.specs.Reading.{Stand, at_record, at_field, in_field, in_quotes, step_of, read_from, records_in}
use Rattle.csv_text.specs.Promises.{SomeInEach}

-- ---- text within quotes

module _ (rest : List ℕ) (fields : List (List ℕ)) where
  -- a byte that is no quote is text; a quote that stands twice is one
  byte_in_quotes : (x : ℕ) (xs field : List ℕ) (t : Bool) → eqb x quote ≡ t
      → read_from (escaped x ++ xs) in_quotes field fields ≡ read_from xs in_quotes (field ++ (x ∷ [])) fields
  unfolding read_from step_of
  byte_in_quotes x xs field true e = rw (eqb-true x quote e)
  byte_in_quotes x xs field false e = rw (e, e)

  in_quotes_lem : (w field : List ℕ) → read_from (doubled w ++ rest) in_quotes field fields ≡ read_from rest in_quotes (field ++ w) fields
  unfolding doubled
  in_quotes_lem [] field = rw (append-nil field)
  in_quotes_lem (x ∷ w) field =
      let e : (field ++ (x ∷ [])) ++ w ≡ field ++ (x ∷ w) = append_assoc field (x ∷ []) w in
      rw (append_assoc (escaped x) (doubled w) rest)
      (byte_in_quotes x (doubled w ++ rest) field (eqb x quote) refl ∙ in_quotes_lem w (field ++ (x ∷ [])) ∙ rw e)

-- ---- text without quotes

none_of : (a b c d : Bool) → (a || (b || (c || d))) ≡ false → (a ≡ false) × (b ≡ false) × (c ≡ false)
none_of true b c d e = let z : ◌≡◌ {A = ℕ} 0 1 = cc in absurd (omega arith)
none_of false true c d e = let z : ◌≡◌ {A = ℕ} 0 1 = cc in absurd (omega arith)
none_of false false true d e = let z : ◌≡◌ {A = ℕ} 0 1 = cc in absurd (omega arith)
none_of false false false d e = (refl, refl, refl)

neither : (t u : Bool) → cond t true u ≡ false → (t ≡ false) × (u ≡ false)
neither true u e = let z : ◌≡◌ {A = ℕ} 0 1 = cc in absurd (omega arith)
neither false u e = (refl, e)

-- where a record or a field begins
abbrev begins : Bool → Stand
begins true = at_record
begins false = at_field

module _ (x : ℕ) (xs field : List ℕ) (fields : List (List ℕ)) (plain : is_mark x ≡ false) where
  no : (eqb x quote ≡ false) × (eqb x comma ≡ false) × (eqb x cr ≡ false)
  no = none_of (eqb x quote) (eqb x comma) (eqb x cr) (eqb x lf) plain

  byte_in_field : read_from (x ∷ xs) in_field field fields ≡ read_from xs in_field (field ++ (x ∷ [])) fields
  unfolding read_from step_of
  byte_in_field = rw (no.1, no.2)

  first_byte : (first : Bool) → read_from (x ∷ xs) (begins first) field fields ≡ read_from xs in_field (field ++ (x ∷ [])) fields
  unfolding read_from step_of
  first_byte true = rw (no.0, no.1, no.2)
  first_byte false = rw (no.0, no.1, no.2)

module _ (rest : List ℕ) (fields : List (List ℕ)) where
  in_field_lem : (w field : List ℕ) → is_quoted w ≡ false → read_from (w ++ rest) in_field field fields ≡ read_from rest in_field (field ++ w) fields
  unfolding is_quoted
  in_field_lem [] field e = rw (append-nil field)
  in_field_lem (x ∷ w) field e =
      let n = neither (is_mark x) (is_quoted w) e in
      let f : (field ++ (x ∷ [])) ++ w ≡ field ++ (x ∷ w) = append_assoc field (x ∷ []) w in
      byte_in_field x (w ++ rest) field fields n.0 ∙ in_field_lem w (field ++ (x ∷ [])) n.1 ∙ rw f

-- ---- a field, and what stands before the rest of its record

-- how it is read on after a field
abbrev go_on : List (List ℕ) → List ℕ → List ℕ → List (List ℕ) → List (List (List ℕ))
go_on [] rest field fields = (fields ++ (field ∷ [])) ∷ read_from rest at_record [] []
go_on (next ∷ others) rest field fields = read_from rest at_field [] (fields ++ (field ∷ []))

module _ (rest : List ℕ) (field : List ℕ) (fields : List (List ℕ)) where
  mark_at : (first : Bool) (ws : List (List ℕ)) → read_from (mark_after (length ws) ++ rest) (begins first) field fields ≡ go_on ws rest field fields
  unfolding read_from step_of
  mark_at true [] = refl
  mark_at true (next ∷ others) = refl
  mark_at false [] = refl
  mark_at false (next ∷ others) = refl

  mark_in : (ws : List (List ℕ)) → read_from (mark_after (length ws) ++ rest) in_field field fields ≡ go_on ws rest field fields
  unfolding read_from step_of
  mark_in [] = refl
  mark_in (next ∷ others) = refl

  -- the quote that ends a field in quotes, and what stands after it
  mark_after_lem : (ws : List (List ℕ)) → read_from (quote ∷ (mark_after (length ws) ++ rest)) in_quotes field fields ≡ go_on ws rest field fields
  unfolding read_from step_of
  mark_after_lem [] = refl
  mark_after_lem (next ∷ others) = refl

opens : (first : Bool) (xs : List ℕ) (fields : List (List ℕ)) → read_from (quote ∷ xs) (begins first) [] fields ≡ read_from xs in_quotes [] fields
unfolding read_from step_of
opens true xs fields = refl
opens false xs fields = refl

module _ (first : Bool) (ws : List (List ℕ)) (rest : List ℕ) (fields : List (List ℕ)) where
  plain_read : (w : List ℕ) → is_quoted w ≡ false → read_from (w ++ (mark_after (length ws) ++ rest)) (begins first) [] fields ≡ go_on ws rest w fields
  unfolding is_quoted
  plain_read [] e = mark_at rest [] fields first ws
  plain_read (x ∷ w) e =
      let n = neither (is_mark x) (is_quoted w) e in
      first_byte x (w ++ (mark_after (length ws) ++ rest)) [] fields n.0 first ∙ in_field_lem (mark_after (length ws) ++ rest) fields w (x ∷ []) n.1 ∙ mark_in rest (x ∷ w) fields ws

  quoted_read : (w : List ℕ) → read_from (((quote ∷ []) ++ (doubled w ++ (quote ∷ []))) ++ (mark_after (length ws) ++ rest)) (begins first) [] fields ≡ go_on ws rest w fields
  quoted_read w =
      opens first ((doubled w ++ (quote ∷ [])) ++ (mark_after (length ws) ++ rest)) fields
      ∙ rw (append_assoc (doubled w) (quote ∷ []) (mark_after (length ws) ++ rest)) (in_quotes_lem (quote ∷ (mark_after (length ws) ++ rest)) fields w [])
      ∙ mark_after_lem rest w fields ws

  field_read : (w : List ℕ) → read_from (field_of w ++ (mark_after (length ws) ++ rest)) (begins first) [] fields ≡ go_on ws rest w fields
  unfolding field_of
  field_read w = go (is_quoted w) refl
    where
      go : (t : Bool) → is_quoted w ≡ t
          → read_from (cond t ((quote ∷ []) ++ (doubled w ++ (quote ∷ []))) w ++ (mark_after (length ws) ++ rest)) (begins first) [] fields ≡ go_on ws rest w fields
      go true e = quoted_read w
      go false e = plain_read w e

-- ---- records

record_read : (first : Bool) (w : List ℕ) (ws : List (List ℕ)) (rest : List ℕ) (fields : List (List ℕ))
    → read_from (record_of (w ∷ ws) ++ rest) (begins first) [] fields ≡ (fields ++ (w ∷ ws)) ∷ read_from rest at_record [] []
unfolding record_of
record_read first w [] rest fields =
    rw (append_assoc (field_of w) (cr ∷ lf ∷ []) rest) (field_read first [] rest fields w)
record_read first w (next ∷ others) rest fields =
    let e : (fields ++ (w ∷ [])) ++ (next ∷ others) ≡ fields ++ (w ∷ next ∷ others) = append_assoc fields (w ∷ []) (next ∷ others) in
    rw (append_assoc (field_of w) ((comma ∷ []) ++ record_of (next ∷ others)) rest)
    (field_read first (next ∷ others) (record_of (next ∷ others) ++ rest) fields w ∙ record_read false next others rest (fields ++ (w ∷ [])) ∙ rw e)

nothing_read : records_in [] ≡ []
unfolding read_from
nothing_read = refl

pub csv_read : (records : List (List (List ℕ))) → SomeInEach records → records_in (csv_of records) ≡ records
unfolding csv_of SomeInEach
csv_read [] some = nothing_read
csv_read ([] ∷ records) some = absurd some
csv_read ((field ∷ fields) ∷ records) some = record_read true field fields (csv_of records) [] ∙ ap (λ (rs : List (List (List ℕ))). (field ∷ fields) ∷ rs) (csv_read records some)
