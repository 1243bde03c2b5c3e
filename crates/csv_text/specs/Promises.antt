-- What CSV promises. It is proved under the same name in proofs/Promises.antt.
use Rattle.std.specs.Prelude.{◌≡◌, List, [], ◌∷◌, ℕ}
use Rattle.csv_text.specs.Written.{csv_of}
use Rattle.csv_text.specs.Reading.{records_in}

-- every record has a field
unfoldable pub SomeInEach : List (List (List ℕ)) → Type 0
SomeInEach [] = Unit
SomeInEach ([] ∷ records) = ⊥
SomeInEach ((field ∷ fields) ∷ records) = SomeInEach records

-- Reading what was written gives the same records, field by field and byte by byte, whatever the fields hold.
abbrev pub FieldsReadBack : Type 0
FieldsReadBack = (records : List (List (List ℕ))) → SomeInEach records → records_in (csv_of records) ≡ records
