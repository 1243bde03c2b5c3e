-- `key::key_table` meets its contract: below `i` the bytes of V and of A are done, and from there A has its letters. Assumes nothing.
use Rattle.std.proofs.Common.{◌≡◌, length}
use Rattle.laws.proofs.UptoLaws.{Upto}
use Rattle.key.specs.KeyTable.{table_t}
use Rattle.key.proofs.VeilLaws.{v_at, a_at, lettered}
use Rattle.key.proofs.key_table.Given as goal

abbrev pub invariant-loop-i : goal.invariant-loop-i
invariant-loop-i l =
    (l.byte-items ≡ table_t l.key) × (length l.initial.v ≡ 32) × (l.initial.a ≡ lettered)
    × Upto (v_at l.byte-items) l.initial.v l.v l.i × Upto (a_at l.byte-items) l.initial.a l.a l.i
