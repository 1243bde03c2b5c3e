-- Rules T: strings and data in a table's body. "Place p is body byte p - 24."
use Rattle.std.specs.Prelude.{ℕ, suc, ◌+◌, ◌-◌, List, [], ◌∷◌, cond, length, drop, leb, ltb, eqb, Option, Some, None, Result, Ok, Err}
use Rattle.cell.specs.declared.Cell.{Cell}
use Rattle.refusal.specs.declared.Cause.{Cause}
use Rattle.refusal.specs.declared.Cause.TheVariants.{RanOut}
use Rattle.cell.specs.declared.Cell.TheVariants.{Text, Data}

-- the first zero byte of a list whose first byte is body byte p
unfoldable pub zero_in : List ℕ → ℕ → Option ℕ
zero_in [] p = None
zero_in (x ∷ xs) p = cond (eqb x 0) (Some p) (zero_in xs (suc p))

-- the first zero byte at or after body byte p
abbrev pub zero_from : List ℕ → ℕ → Option ℕ
zero_from body p = zero_in (drop p body) p

-- "up to a zero byte", from a place; before the body there is none
abbrev pub end_of : List ℕ → ℕ → Option ℕ
end_of body place = cond (ltb place 24) None (zero_from body (place - 24))

abbrev pub text_to : ℕ → Option ℕ → Result Cell Cause
text_to start (Some end) = Ok (Text start (end - start))
text_to start None = Err RanOut

-- a string; one that does not end in the body gives 1
abbrev pub text_at : List ℕ → ℕ → Result Cell Cause
text_at body place = text_to (place - 24) (end_of body place)

-- "A data cell of size 0 is empty wherever it points, even before the body, and its start is given as 0; any longer read outside gives 1."
abbrev pub data_at : List ℕ → ℕ → ℕ → Result Cell Cause
data_at body place size =
    cond (eqb size 0) (Ok (Data 0 0))
    (cond (ltb place 24) (Err RanOut)
    (cond (leb (place - 24 + size) (length body)) (Ok (Data (place - 24) size)) (Err RanOut)))
