-- `key_apart::payload_apart` meets its contract: keys that agree in the bits that count have one T, and so part nowhere. Assumes nothing.
use mathlib.Core.Path.{sym, ◌∙◌}
use Rattle.key_apart.proofs.FirstLaws.{apart_found, apart_same, apart_clear}
use Rattle.key_apart.proofs.payload_apart.Goals as goal

pub returns-then-counting_bits : goal.returns-then-counting_bits
returns-then-counting_bits c =
    apart_found _ _ _ _ _ _ c.key_table.ensures c.key_table-then-counting_bits.ensures (sym c.is_masked_in.ensures ∙ c.if-is_masked_in.true) _ c.first_parting.ensures

pub returns-else-counting_bits : goal.returns-else-counting_bits
returns-else-counting_bits c =
    apart_same _ _ _ _ (sym c.is_masked_in.ensures ∙ c.if-is_masked_in.true) (sym c.counting_bits.ensures ∙ c.if-counting_bits.false ∙ c.counting_bits-then-is_masked_in.ensures)

pub returns-else-is_masked_in : goal.returns-else-is_masked_in
returns-else-is_masked_in c = apart_clear _ _ _ _ (sym c.is_masked_in.ensures ∙ c.if-is_masked_in.false)
