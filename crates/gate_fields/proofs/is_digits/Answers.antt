-- `gate_fields::is_digits` meets its contract: what is left has the answer of the whole text. Assumes nothing.
use Rattle.std.proofs.Common.{sym, ◌∙◌, arith, rules}
use Rattle.gate_fields.proofs.StepLaws.{no_digit, digit, all_digits}
use Rattle.gate_fields.proofs.is_digits.Goals as goal

pub returns-then-is_none : goal.returns-then-is_none
returns-then-is_none c = sym (no_digit c.args.text.now c.loop-byte.byte-index (omega arith) (search rules)) ∙ c.loop-byte.invariant

pub loop-byte-preserved : goal.loop-byte-preserved
loop-byte-preserved c = sym (digit c.args.text.now c.loop-byte.byte-index (omega arith) (search rules)) ∙ c.loop-byte.invariant

pub returns : goal.returns
returns c = sym (all_digits c.args.text.now c.loop-byte.byte-index (omega arith)) ∙ c.loop-byte.invariant
