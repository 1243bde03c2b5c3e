-- RFC 4180: CSV as it is written. A field is a list of bytes, a record a list of fields.
use Rattle.std.specs.Prelude.{ℕ, zero, suc, List, [], ◌∷◌, ◌++◌, Bool, true, false, cond, ◌||◌, length, eqb}

-- DQUOTE and COMMA; CR and LF
abbrev pub quote : ℕ
quote = 0x22

abbrev pub comma : ℕ
comma = 0x2C

abbrev pub cr : ℕ
cr = 0x0D

abbrev pub lf : ℕ
lf = 0x0A

abbrev pub is_mark : ℕ → Bool
is_mark byte = eqb byte quote || (eqb byte comma || (eqb byte cr || eqb byte lf))

-- "Fields containing line breaks (CRLF), double quotes, and commas should be enclosed in double-quotes."
unfoldable pub is_quoted : List ℕ → Bool
is_quoted [] = false
is_quoted (byte ∷ field) = cond (is_mark byte) true (is_quoted field)

-- "a double-quote appearing inside a field must be escaped by preceding it with another double quote"
abbrev pub escaped : ℕ → List ℕ
escaped byte = cond (eqb byte quote) (quote ∷ quote ∷ []) (byte ∷ [])

unfoldable pub doubled : List ℕ → List ℕ
doubled [] = []
doubled (byte ∷ field) = escaped byte ++ doubled field

unfoldable pub field_of : List ℕ → List ℕ
field_of field = cond (is_quoted field) ((quote ∷ []) ++ (doubled field ++ (quote ∷ []))) field

-- what stands after a field, with so many more in its record: "there may be one or more fields, separated by commas"; request 6: "CRLF ending every record"
abbrev pub mark_after : ℕ → List ℕ
mark_after zero = cr ∷ lf ∷ []
mark_after (suc more) = comma ∷ []

-- a record that has no field is nothing
unfoldable pub record_of : List (List ℕ) → List ℕ
record_of [] = []
record_of (field ∷ fields) = field_of field ++ (mark_after (length fields) ++ record_of fields)

-- "Each record is located on a separate line, delimited by a line break (CRLF)."
unfoldable pub csv_of : List (List (List ℕ)) → List ℕ
csv_of [] = []
csv_of (fields ∷ records) = record_of fields ++ csv_of records
