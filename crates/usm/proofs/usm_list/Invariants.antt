-- What the loop keeps: what is stored so far, with the records from here on, is what the whole stores.
use Rattle.std.proofs.Common.{◌≡◌, ◌-◌, ◌≤◌, length}
use Rattle.list.proofs.FillLaws.{fill_for, fill_by}
use Rattle.usm.proofs.usm_list.Given as goal

abbrev pub invariant-loop-filled : goal.invariant-loop-filled
invariant-loop-filled l =
    (l.filled ≤ l.plan.records)
    × (l.plan.records ≤ length l.initial.list)
    × (length l.list ≡ length l.initial.list)
    × (fill_for l.container l.plan.reading (l.plan.records - l.filled) l.place l.filled l.list ≡ fill_by l.container l.plan l.initial.list)
