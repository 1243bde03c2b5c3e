-- `csv::put_doubled` meets its contract: with the bytes that are left put after it, what stands there is the whole. Assumes nothing.
use Rattle.std.proofs.Common.{◌+◌, ◌<◌, ◌^◌, length, drop}
use Rattle.laws.proofs.PutLaws.{Left}
use Rattle.csv_text.specs.Written.{doubled}
use Rattle.table_csv.proofs.put_doubled.Given as goal

abbrev pub invariant-loop-byte : goal.invariant-loop-byte
invariant-loop-byte l = Left (doubled (drop l.byte-index l.field)) l.out l.end (doubled l.field) l.initial.out l.place × (l.place + length (doubled l.field) < 2 ^ 64)
