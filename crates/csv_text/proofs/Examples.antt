-- The definitions compute: worked examples of what is written, and of what is read, also where the RFC has no rule. Assumes nothing.
use Rattle.std.proofs.Common.{◌≡◌, refl, [], ◌∷◌, ℕ}
use Rattle.csv_text.specs.Written.{quote, comma, cr, lf, is_quoted, doubled, field_of, record_of, csv_of}
use Rattle.csv_text.specs.Reading.{step_of, read_from, records_in}

-- the letters
abbrev a : ℕ
a = 0x61

abbrev b : ℕ
b = 0x62

-- a record of the fields `a` and `"` is written as a,"""" and CR LF
written_in_quotes : csv_of (((a ∷ []) ∷ (quote ∷ []) ∷ []) ∷ []) ≡ a ∷ comma ∷ quote ∷ quote ∷ quote ∷ quote ∷ cr ∷ lf ∷ []
unfolding csv_of record_of field_of is_quoted doubled
written_in_quotes = refl

-- a record of one empty field is an empty line, and is read as one
an_empty_line : (csv_of (([] ∷ []) ∷ []) ≡ cr ∷ lf ∷ []) × (records_in (cr ∷ lf ∷ []) ≡ ([] ∷ []) ∷ [])
unfolding csv_of record_of field_of is_quoted read_from step_of
an_empty_line = (refl, refl)

-- a line break within quotes is text
a_break_in_quotes : records_in (quote ∷ a ∷ cr ∷ lf ∷ quote ∷ comma ∷ b ∷ cr ∷ lf ∷ []) ≡ ((a ∷ cr ∷ lf ∷ []) ∷ (b ∷ []) ∷ []) ∷ []
unfolding read_from step_of
a_break_in_quotes = refl

-- the last record needs no line break; no bytes are no record
without_a_break : (records_in (a ∷ comma ∷ []) ≡ ((a ∷ []) ∷ [] ∷ []) ∷ []) × (records_in [] ≡ [])
unfolding read_from step_of
without_a_break = (refl, refl)

-- where the RFC has no rule: LF alone, CR alone, a quote within a field, and what follows a closing quote are text
as_text : (records_in (a ∷ lf ∷ b ∷ cr ∷ []) ≡ ((a ∷ lf ∷ b ∷ cr ∷ []) ∷ []) ∷ [])
    × (records_in (a ∷ quote ∷ b ∷ []) ≡ ((a ∷ quote ∷ b ∷ []) ∷ []) ∷ [])
    × (records_in (quote ∷ a ∷ quote ∷ b ∷ comma ∷ []) ≡ ((a ∷ b ∷ []) ∷ [] ∷ []) ∷ [])
unfolding read_from step_of
as_text = (refl, refl, refl)
