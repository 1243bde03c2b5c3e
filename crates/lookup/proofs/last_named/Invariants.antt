-- `lookup::last_named` meets its contract: what is left of the search has the answer of the whole search. Assumes nothing.
use Rattle.std.proofs.Common.{◌≡◌, ◌-◌, ◌*◌, ◌≤◌, None}
use Rattle.lookup.specs.Search.{search_from}
use Rattle.lookup.proofs.last_named.Given as goal

-- and records take at most 261 bytes each, cells at most 256, so neither sum overflows
abbrev pub invariant-loop : goal.invariant-loop
invariant-loop l =
    (search_from l.body l.layout l.name (l.layout.columns - l.counter) l.entry l.offset l.best ≡ search_from l.body l.layout l.name l.layout.columns 0 0 None)
    × (l.entry ≤ 261 * l.counter) × (l.offset ≤ 256 * l.counter)
