-- `lookup::numbers::slot_of` meets its contract: one column after another is passed over. Assumes nothing.
use Rattle.std.proofs.Common.{◌≡◌, ◌*◌, ◌≤◌}
use Rattle.lookup.specs.Numbers.{record_at, offset_at}
use Rattle.lookup.proofs.numbers.slot_of.Given as goal

abbrev pub invariant-loop : goal.invariant-loop
invariant-loop l =
    (l.entry ≡ record_at l.body l.layout l.counter) × (l.offset ≡ offset_at l.body l.layout l.counter) × (l.entry ≤ 261 * l.counter) × (l.offset ≤ 256 * l.counter)
