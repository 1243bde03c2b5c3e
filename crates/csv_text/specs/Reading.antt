-- RFC 4180: CSV as it is read, whoever wrote it, byte by byte. Every list of bytes has an answer: request 6, "a byte for which the RFC has no rule
-- counts as plain text", so a CR or LF alone, a quote within a field that does not begin with one, and what follows a closing quote.
use Rattle.std.specs.Prelude.{ℕ, List, [], ◌∷◌, ◌++◌, cond, ◌&&◌, eqb}
use Rattle.laws.specs.Lists.{at}
use Rattle.csv_text.specs.Written.{quote, comma, cr, lf}

-- where a reader stands: where a record or a field begins, within a field, within quotes, after a quote that was met there, before the LF of a CRLF
pub data Stand : Type 0 where
  at_record at_field in_field in_quotes after_quote before_lf : Stand

-- what a byte is: text of its field, the end of its field or of its record, or only a sign for the reader
pub data Role : Type 0 where
  text ends_field ends_record sign : Role

pub record Step : Type 0 where
  pub role : Role
  pub stand : Stand

abbrev step : Role → Stand → Step
step role stand = record { role = role; stand = stand }

-- outside quotes, y being the byte after x: "record = field *(COMMA field)"; a file is records, each ended by CRLF, the last perhaps not; "non-escaped = *TEXTDATA". The RFC tells a header apart, which is a record here, and gives the empty file one record of one empty field, which has none here
abbrev outside : ℕ → ℕ → Step
outside x y = cond (eqb x comma) (step ends_field at_field) (cond (eqb x cr && eqb y lf) (step sign before_lf) (step text in_field))

-- "field = (escaped / non-escaped)"; "escaped = DQUOTE *(TEXTDATA / COMMA / CR / LF / 2DQUOTE) DQUOTE"
unfoldable pub step_of : Stand → ℕ → ℕ → Step
step_of at_record x y = cond (eqb x quote) (step sign in_quotes) (outside x y)
step_of at_field x y = cond (eqb x quote) (step sign in_quotes) (outside x y)
step_of in_field x y = outside x y
step_of in_quotes x y = cond (eqb x quote) (step sign after_quote) (step text in_quotes)
step_of after_quote x y = cond (eqb x quote) (step text in_quotes) (outside x y)
step_of before_lf x y = step ends_record at_record

-- the record that the end of the bytes ends, "the last record in the file may or may not have an ending line break"; where a record would begin there is none
abbrev pub last_record : Stand → List (List ℕ) → List (List (List ℕ))
last_record at_record fields = []
last_record at_field fields = fields ∷ []
last_record in_field fields = fields ∷ []
last_record in_quotes fields = fields ∷ []
last_record after_quote fields = fields ∷ []
last_record before_lf fields = fields ∷ []

-- how a byte is taken: `field` and `fields` are what was read of its field, and the fields before it in its record; `rest` reads on
abbrev pub taken : Role → (List ℕ → List (List ℕ) → List (List (List ℕ))) → ℕ → List ℕ → List (List ℕ) → List (List (List ℕ))
taken text rest x field fields = rest (field ++ (x ∷ [])) fields
taken ends_field rest x field fields = rest [] (fields ++ (field ∷ []))
taken ends_record rest x field fields = (fields ++ (field ∷ [])) ∷ rest [] []
taken sign rest x field fields = rest field fields

-- the records that are read from where a reader stands on
unfoldable pub read_from : List ℕ → Stand → List ℕ → List (List ℕ) → List (List (List ℕ))
read_from [] stand field fields = last_record stand (fields ++ (field ∷ []))
read_from (x ∷ xs) stand field fields = taken (step_of stand x (at xs 0)).role (read_from xs (step_of stand x (at xs 0)).stand) x field fields

-- the records of a file, each a list of fields
abbrev pub records_in : List ℕ → List (List (List ℕ))
records_in bytes = read_from bytes at_record [] []
