-- `word::with_zeros` meets its contract: the bytes before k stand where they stood. Assumes nothing.
use Rattle.std.proofs.Common.{◌≡◌, ◌∙◌, length, arith}
use lib.ListN.{length-set}
use Rattle.word.proofs.PastEnd.{one_more}
use Rattle.word.proofs.with_zeros.Goals as goal

pub loop-k-preserved : goal.loop-k-preserved
loop-k-preserved g c =
    let long : length c.loop-k.padded ≡ g.row.N = c.loop-k.invariant.0 in
    (length-set c.loop-k.padded c.loop-k.k _ ∙ long, one_more _ _ _ _ (omega (arith, long)) c.read8.ensures.0 c.loop-k.invariant.1)
