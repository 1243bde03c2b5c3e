-- Rules T and R: the name.
use Rattle.std.specs.Prelude.{ℕ, List, Option, Some, None}
use Rattle.std.specs.Borrow.{Bor}
use Rattle.part.specs.Parts.{IsPart, PartAt}
use Rattle.cell.specs.declared.Cell.{Cell}
use Rattle.cell.specs.declared.Cell.TheVariants.{Nothing, Unsigned, Signed, Float, NotANumber, Text, Data}
use Rattle.film_name.specs.declared.Name.{Name}

-- "The name is the `filename` cell of the last row if string or data, else the fallback."
abbrev pub name_in : Cell → Option Name
name_in Nothing = None
name_in (Unsigned n) = None
name_in (Signed z) = None
name_in (Float x) = None
name_in (NotANumber n) = None
name_in (Text start len) = Some (record { start = start; len = len })
name_in (Data start len) = Some (record { start = start; len = len })

-- "the name as a part of the container or of the fallback name": r is that part
abbrev pub NameOf : Bor (List ℕ) → Bor (List ℕ) → Option Name → Bor (List ℕ) → Type 0
NameOf container fallback (Some part) r = PartAt container part.start part.len r
NameOf container fallback None r = IsPart fallback 0 fallback.now r
