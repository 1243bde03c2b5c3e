-- What two keys have in common. Assumes nothing.
use Rattle.std.specs.Prelude.{◌≡◌, Bool, true, false, cond, ℕ, eqb}
use Rattle.key.specs.CountingBits.{counting_bits}
use Rattle.typed.specs.declared.Verdict.{Verdict}
use Rattle.typed.specs.declared.Verdict.TheVariants.{SameKey, SameStreams, StreamsCanDiffer}

-- the verdict on two keys
unfoldable pub verdict_on : ℕ → ℕ → Verdict
verdict_on first second =
    cond (eqb first second) SameKey
    (cond (eqb (counting_bits first) (counting_bits second)) SameStreams StreamsCanDiffer)

-- what a verdict says of two keys
abbrev pub Says : Verdict → ℕ → ℕ → Type 0
Says SameKey first second = first ≡ second
Says SameStreams first second = (first ≡ second → ⊥) × (counting_bits first ≡ counting_bits second)
Says StreamsCanDiffer first second = counting_bits first ≡ counting_bits second → ⊥

-- whether a verdict says that the two keys give the same streams for every film
abbrev pub says_same : Verdict → Bool
says_same SameKey = true
says_same SameStreams = true
says_same StreamsCanDiffer = false
