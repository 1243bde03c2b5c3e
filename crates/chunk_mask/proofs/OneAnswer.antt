-- No second answer meets a contract of this crate. Assumes nothing.
use mathlib.Core.Path.{◌≡◌}
use Rattle.laws.proofs.OneAnswer.{no_second_answer}
use Rattle.chunk_mask.proofs.mask_of.Reads as mask-of

pub mask_of_once : (κs : _) (args : _) (r r' : _) (exit exit' : _) → mask-of.Learnt κs args r exit → mask-of.Learnt κs args r' exit' → r ≡ r'
mask_of_once κs args r r' exit exit' = no_second_answer
