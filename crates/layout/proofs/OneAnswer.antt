-- No second answer meets a contract of this crate: what a caller learns makes two results one. Assumes nothing.
use mathlib.Core.Path.{◌≡◌}
use Rattle.laws.proofs.OneAnswer.{no_second_answer}
use Rattle.layout.proofs.read_layout.Reads as read-layout

pub read_layout_once : (κs : _) (args : _) (r r' : _) (exit exit' : _) → read-layout.Learnt κs args r exit → read-layout.Learnt κs args r' exit' → r ≡ r'
read_layout_once κs args r r' exit exit' = no_second_answer
