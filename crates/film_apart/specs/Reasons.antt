-- Why two keys give the same streams of a film. Ours: a bill says by it why two tenants have one copy.
use Rattle.std.specs.Prelude.{ℕ, cond, eqb}
use Rattle.std.specs.Int.Bits.{bit_and}
use Rattle.key.specs.CountingBits.{counting_bits}
use Rattle.film_apart.specs.declared.WhySame.{WhySame}
use Rattle.film_apart.specs.declared.WhySame.TheVariants.{Differ, OneKey, NeverCount, NotShown}

-- bits are those of a key that the film shows
abbrev pub why_same : ℕ → ℕ → ℕ → WhySame
why_same bits key key' =
    cond (eqb key key') OneKey
    (cond (eqb (bit_and key bits) (bit_and key' bits)) (cond (eqb (counting_bits key) (counting_bits key')) NeverCount NotShown) Differ)

-- the answer as C reads it
abbrev pub why_number : WhySame → ℕ
why_number Differ = 0
why_number OneKey = 1
why_number NeverCount = 2
why_number NotShown = 3
