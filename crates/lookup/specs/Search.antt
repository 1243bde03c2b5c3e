-- Rules T: "Of columns with one name the last counts."
-- b is the table's body, l its layout.
use Rattle.std.specs.Prelude.{ℕ, zero, suc, ◌+◌, ◌-◌, List, Bool, cond, Option, Some}
use Rattle.laws.specs.Lists.{at}
use Rattle.word.specs.Numbers.{be32}
use Rattle.layout.specs.declared.Layout.{Layout}
use Rattle.column.specs.Storages.{in_record, in_row}
use Rattle.lookup.specs.declared.Mark.{Mark}
use Rattle.lookup.specs.declared.Search.{Search}
use Rattle.lookup.specs.Names.{spells}

-- "the last counts": a column of the name takes the place of the one marked before
abbrev pub mark_if : Bool → ℕ → ℕ → Option Mark → Option Mark
mark_if named p q before = cond named (Some (record { entry = p; offset = q })) before

-- n columns whose records stand from body byte p on and whose cells from byte q of a row on: the last of the name, and the bytes of a row
unfoldable pub search_from : List ℕ → Layout → List ℕ → ℕ → ℕ → ℕ → Option Mark → Search
search_from b l name zero p q best = record { mark = best; width = q }
search_from b l name (suc n) p q best =
    search_from b l name n (p + in_record l.mode (at b p)) (q + in_row l.mode (at b p)) (mark_if (spells b (l.strings + be32 b (p + 1) - 24) name) p q best)
