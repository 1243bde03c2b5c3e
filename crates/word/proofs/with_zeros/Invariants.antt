-- `word::with_zeros` meets its contract: the bytes before k stand where they stood. Assumes nothing.
use Rattle.std.proofs.Common.{◌≡◌, ℕ, ◌<◌, length, slice_index}
use Rattle.laws.specs.Lists.{at}
use Rattle.word.proofs.with_zeros.Given as goal

abbrev pub invariant-loop-k : goal.invariant-loop-k
invariant-loop-k g l = (length l.padded ≡ g.row.N) × ((j : ℕ) → j < l.k → slice_index l.padded j ≡ at l.bytes j)
