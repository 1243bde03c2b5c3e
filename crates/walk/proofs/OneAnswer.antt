-- No second answer meets a contract of this crate: what a caller learns makes two results equal. Assumes nothing.
use Rattle.std.proofs.Common.{◌≡◌}
use Rattle.laws.proofs.OneAnswer.{no_second_answer}
use Rattle.walk.proofs.measure.Reads as measure
use Rattle.walk.proofs.video_in.Reads as video-in
use Rattle.walk.proofs.audio_in.Reads as audio-in

pub measure_once : (κs : _) (args : _) (r r' : _) (exit exit' : _) → measure.Learnt κs args r exit → measure.Learnt κs args r' exit' → r ≡ r'
measure_once κs args r r' exit exit' = no_second_answer

pub video_in_once : (κs : _) (args : _) (r r' : _) (exit exit' : _) → video-in.Learnt κs args r exit → video-in.Learnt κs args r' exit' → r ≡ r'
video_in_once κs args r r' exit exit' = no_second_answer

pub audio_in_once : (κs : _) (args : _) (r r' : _) (exit exit' : _) → audio-in.Learnt κs args r exit → audio-in.Learnt κs args r' exit' → r ≡ r'
audio_in_once κs args r r' exit exit' = no_second_answer
