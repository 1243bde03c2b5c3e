-- No second answer meets a contract of this crate: what a caller learns makes two payloads at exit one. Assumes nothing.
use mathlib.Core.Path.{◌≡◌}
use Rattle.laws.proofs.OneAnswer.{no_second_answer}
use Rattle.mask.proofs.unmask_video.Reads as unmask-video
use Rattle.mask.proofs.mask_video.Reads as mask-video
use Rattle.mask.proofs.mask_audio.Reads as mask-audio
use Rattle.mask.proofs.unmask_video_on.Reads as unmask-video-on
use Rattle.mask.proofs.mask_audio_on.Reads as mask-audio-on

pub unmask_video_once : (κs : _) (args : _) (r r' : _) (exit exit' : _) → unmask-video.Learnt κs args r exit → unmask-video.Learnt κs args r' exit' → exit.0.now ≡ exit'.0.now
unmask_video_once κs args r r' exit exit' = no_second_answer

pub mask_video_once : (κs : _) (args : _) (r r' : _) (exit exit' : _) → mask-video.Learnt κs args r exit → mask-video.Learnt κs args r' exit' → exit.0.now ≡ exit'.0.now
mask_video_once κs args r r' exit exit' = no_second_answer

pub mask_audio_once : (κs : _) (args : _) (r r' : _) (exit exit' : _) → mask-audio.Learnt κs args r exit → mask-audio.Learnt κs args r' exit' → exit.0.now ≡ exit'.0.now
mask_audio_once κs args r r' exit exit' = no_second_answer

pub unmask_video_on_once : (κs : _) (args : _) (r r' : _) (exit exit' : _) → unmask-video-on.Learnt κs args r exit → unmask-video-on.Learnt κs args r' exit' → exit.0.now ≡ exit'.0.now
unmask_video_on_once κs args r r' exit exit' = no_second_answer

pub mask_audio_on_once : (κs : _) (args : _) (r r' : _) (exit exit' : _) → mask-audio-on.Learnt κs args r exit → mask-audio-on.Learnt κs args r' exit' → exit.0.now ≡ exit'.0.now
mask_audio_on_once κs args r r' exit exit' = no_second_answer
