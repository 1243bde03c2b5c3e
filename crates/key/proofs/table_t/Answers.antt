-- `key::table_t` meets its contract: what each sum and difference ensures, put into the list. Assumes nothing.
use Rattle.std.proofs.Common.{◌∙◌, List, ℕ, ap}
use lib.Bits.{bit_xor}
use Rattle.laws.specs.Lists.{at}
use Rattle.key.specs.KeyTable.{table_t}
use Rattle.key.proofs.TableLaws.{key_low, table_is}
use Rattle.key.proofs.table_t.Goals as goal

pub returns : goal.returns
unfolding table_t
returns c =
    let byte = λ (i : ℕ). ap (λ (z : List ℕ). at z i) c.to_le_bytes.ensures in
    table_is bit_xor c.args.key
    (byte 0 ∙ key_low _)
    (byte 1)
    (byte 2)
    (byte 3)
    (byte 4)
    (byte 5)
    (byte 6)
    c.sub-t3.ensures
    c.add-t4.ensures
    c.add-t6.ensures
    c.add-t8.ensures
    c.sub-t9.ensures
    c.add-tc.ensures
    c.sub-td.ensures
    c.sub-tf.ensures
    c.sub-t10.ensures
    c.sub-t14.ensures
    c.add-t15.ensures
    c.sub-t17.ensures
    c.add-t18.ensures
    c.sub-t19.ensures
    c.add-t1b.ensures
    c.add-t1c.ensures
    c.add-t1d.ensures
    c.sub-t1e.ensures
