-- No second answer meets a contract of this crate: what a caller learns makes two lengths and two outputs at exit equal. Assumes nothing.
use mathlib.Core.Path.{◌≡◌}
use Rattle.laws.proofs.OneAnswer.{no_second_answer}
use Rattle.chunk_lines.proofs.lines.Reads as lines

pub lines_once : (κs : _) (args : _) (r r' : _) (exit exit' : _) → lines.Learnt κs args r exit → lines.Learnt κs args r' exit'
    → (r ≡ r') × (exit.1.0.now ≡ exit'.1.0.now)
lines_once κs args r r' exit exit' l l' = (no_second_answer l.0 l'.0, no_second_answer l.1 l'.1)
