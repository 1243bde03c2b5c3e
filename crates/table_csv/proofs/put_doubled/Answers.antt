-- `csv::put_doubled` meets its contract: with the bytes that are left put after it, what stands there is the whole. Assumes nothing.
use Prim.Native.Nat.{◌+◌}
use native.Mathlib.Omega.{arith}
use lib.ListN.{drop, length-append}
use Rattle.laws.proofs.PutLaws.{all_left, less_left, none_left}
use Rattle.csv_text.specs.Written.{escaped, doubled}
use Rattle.laws.specs.Lists.{at}
use Rattle.table_csv.proofs.FieldLaws.{doubled_next, doubled_over}
use Rattle.table_csv.proofs.put_doubled.Goals as goal

pub loop-byte-init : goal.loop-byte-init
loop-byte-init c = (all_left _ _ _, c.requires)

pub put_escaped-end-requires : goal.put_escaped-end-requires
put_escaped-end-requires c =
    let h = rw (doubled_next _ _ c.loop-byte-test.true) at c.loop-byte.invariant.0 in
    omega (arith, h.ends, length-append (escaped (at c.args.field.now c.loop-byte.byte-index)) (doubled (drop (c.loop-byte.byte-index + 1) c.args.field.now)))

pub loop-byte-preserved : goal.loop-byte-preserved
loop-byte-preserved c =
    (less_left (rw (doubled_next _ _ c.loop-byte-test.true) at c.loop-byte.invariant.0) c.put_escaped-end.ensures, c.loop-byte.invariant.1)

pub returns : goal.returns
returns c = none_left (rw (doubled_over _ _ c.loop-byte-test.false) at c.loop-byte.invariant.0)
