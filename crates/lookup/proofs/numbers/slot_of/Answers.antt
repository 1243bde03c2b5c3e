-- `lookup::numbers::slot_of` meets its contract: one column after another is passed over. Assumes nothing.
use Rattle.std.proofs.Common.{◌≡◌, refl, arith}
use Rattle.lookup.specs.Numbers.{record_at, offset_at}
use Rattle.lookup.proofs.NumberLaws.{record_next, offset_next}
use Rattle.lookup.proofs.numbers.slot_of.Goals as goal

pub loop-init : goal.loop-init
unfolding record_at offset_at
loop-init c = (refl, refl, omega arith, omega arith)

pub loop-preserved : goal.loop-preserved
loop-preserved c =
    let inv = c.loop.invariant in (
      record_next _ _ _ _ _ inv.0 c.read8-tag.ensures.0 _ c.in_record-entry.ensures.0,
      offset_next _ _ _ _ _ inv.0 c.read8-tag.ensures.0 _ _ inv.1 c.in_row-offset.ensures.0,
      omega (arith, c.in_record-entry.ensures.1),
      omega (arith, c.in_row-offset.ensures.1),
    )

pub returns : goal.returns
returns c =
    let inv = c.loop.invariant in
    let over : c.loop.counter ≡ c.args.number = omega arith in
    (rw over at inv.0, rw over at inv.1, omega arith, omega arith)
