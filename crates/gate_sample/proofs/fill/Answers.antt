-- `gate_sample::fill` meets its contract: x is the generator's number after as many steps as bytes are filled. Assumes nothing.
use Rattle.std.proofs.Common.{◌≡◌, ℕ, ◌+◌, ◌/◌, ◌%◌, refl, sym, ap, ◌∙◌, add-one, arith, rules}
use Rattle.laws.proofs.UptoLaws.{upto_none, upto_set, upto_end}
use Rattle.gate_sample.specs.Recorded.{number_after, number, sample_byte}
use Rattle.gate_sample.proofs.fill.Goals as goal

number_next : (x y i : ℕ) → x ≡ number i → y ≡ number_after x → y ≡ number (i + 1)
unfolding number
number_next x y i h e = e ∙ ap number_after h ∙ sym (ap number (add-one i))

pub loop-byte-init : goal.loop-byte-init
unfolding number
loop-byte-init c = record { small = omega arith; steps = refl; filled = upto_none sample_byte _ }

pub loop-byte-preserved : goal.loop-byte-preserved
loop-byte-preserved c =
    let l = c.loop-byte in
    let e = number_next _ _ l.byte-index l.invariant.steps c.number_after-x.ensures in
    record {
      small = search rules;
      steps = e;
      filled = upto_set sample_byte _ l.bytes l.byte-index _ l.invariant.filled (omega arith) (ap (λ (z : ℕ). z / 65536 % 256) (e ∙ ap number (add-one l.byte-index)));
    }

pub returns : goal.returns
returns c =
    let l = c.loop-byte in
    upto_end sample_byte _ l.bytes l.byte-index _ l.invariant.filled refl (omega (arith, l.invariant.filled.len))
