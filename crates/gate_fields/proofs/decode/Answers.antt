-- `gate_fields::decode` meets its contract: both digits of each byte lie in the text. Assumes nothing.
use Rattle.std.proofs.Common.{◌≡◌, sym, ap, ◌∙◌, ◌++◌, ℕ, ◌/◌, length, take, drop, arith}
use Rattle.laws.proofs.TabLaws.{tab_length, tab_at}
use Rattle.laws.proofs.UptoLaws.{upto_set, upto_to, upto_written}
use Rattle.gate_fields.specs.Fields.{decoded}
use Rattle.gate_fields.proofs.decode.Goals as goal

pub loop-i-preserved : goal.loop-i-preserved
loop-i-preserved c =
    upto_set _ _ _ _ _ c.loop-i.invariant (omega arith) (c.byte_of.ensures ∙ sym (tab_at _ _ _ (omega arith)))

pub returns-clause-value : goal.returns-clause-value
returns-clause-value c =
    let n = c.min-count.result in
    let z = c.args in
    let text = z.text.now in
    let all : c.loop-i.i ≡ n = omega arith in
    let pairs : length (decoded text) ≡ length text / 2 = tab_length _ _ in
    let written = upto_written (decoded text) z.bytes.now c.loop-i.bytes n (upto_to c.loop-i.invariant all) (omega (arith, pairs)) (omega arith) in
    let counted = c.min-count.ensures in
    (counted, written ∙ ap (λ (k : ℕ). take k (decoded text) ++ drop k z.bytes.now) counted)
