-- `lookup::last_named` meets its contract: what is left of the search has the answer of the whole search. Assumes nothing.
use Rattle.std.proofs.Common.{◌≡◌, ◌+◌, ◌-◌, sym, ◌∙◌, arith}
use Rattle.lookup.proofs.SearchLaws.{search_next, search_end}
use Rattle.lookup.proofs.last_named.Goals as goal

pub loop-init : goal.loop-init
loop-init c =
    let all : c.args.layout.columns - 0 ≡ c.args.layout.columns = omega arith in
    (rw all, omega arith, omega arith)

pub loop-preserved : goal.loop-preserved
loop-preserved c =
    let a = c.args in
    let one : a.layout.columns - (c.loop.counter + 1) ≡ a.layout.columns - c.loop.counter - 1 = omega arith in (
      rw one
          (sym
          (search_next a.body.now a.layout a.name.now (a.layout.columns - c.loop.counter) c.loop.entry c.loop.offset c.read8-tag.result c.in_record-entry.result c.in_row-offset.result
          c.has_name-named.result c.loop.best c.mark_if-best.result (omega arith) c.read8-tag.ensures.0 c.in_record-entry.ensures.0 c.in_row-offset.ensures.0 c.has_name-named.ensures c.mark_if-best.ensures)
          ∙ c.loop.invariant.0),
      omega arith,
      omega arith,
    )

pub returns : goal.returns
returns c =
    let a = c.args in
    (sym (search_end a.body.now a.layout a.name.now (a.layout.columns - c.loop.counter) c.loop.entry c.loop.offset c.loop.best (omega arith)) ∙ c.loop.invariant.0, omega arith)
