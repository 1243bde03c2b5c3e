-- `csv::put_line` meets its contract: with the fields that are left put after it, what stands there is the whole line. Records take at most 261 bytes each,
-- cells at most 256, so neither place overflows. Assumes nothing.
use Rattle.std.proofs.Common.{◌≡◌, ◌+◌, ◌-◌, ◌*◌, ◌≤◌}
use Rattle.laws.proofs.PutLaws.{Left}
use Rattle.csv_text.specs.Written.{record_of}
use Rattle.table_csv.specs.Texts.{line_from, row_end}
use Rattle.table_csv.proofs.put_line.Given as goal

abbrev pub invariant-loop-i : goal.invariant-loop-i
invariant-loop-i l =
    Left (record_of (line_from l.body l.layout l.line (l.layout.columns - l.i) l.entry l.at)) l.out l.end (record_of (line_from l.body l.layout l.line l.layout.columns 0 l.from)) l.initial.out l.place
    × (row_end l.body l.layout (l.layout.columns - l.i) l.entry l.at ≡ row_end l.body l.layout l.layout.columns 0 l.from)
    × (l.entry ≤ 261 * l.i) × (l.at ≤ l.from + 256 * l.i)
