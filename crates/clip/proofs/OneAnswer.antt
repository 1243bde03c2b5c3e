-- No second answer meets a contract of this crate: what a caller learns makes two results one. Assumes nothing.
use mathlib.Core.Path.{◌≡◌}
use Rattle.laws.proofs.OneAnswer.{no_second_answer}
use Rattle.clip.proofs.clip_tells.Reads as clip-tells
use Rattle.clip.proofs.bits_shown.Reads as bits-shown

pub clip_tells_once : (κs : _) (args : _) (r r' : _) (exit exit' : _) → clip-tells.Learnt κs args r exit → clip-tells.Learnt κs args r' exit' → r ≡ r'
clip_tells_once κs args r r' exit exit' = no_second_answer

pub bits_shown_once : (κs : _) (args : _) (r r' : _) (exit exit' : _) → bits-shown.Learnt κs args r exit → bits-shown.Learnt κs args r' exit' → r ≡ r'
bits_shown_once κs args r r' exit exit' = no_second_answer
