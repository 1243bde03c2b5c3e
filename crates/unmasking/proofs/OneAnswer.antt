-- No second answer meets a contract of this crate: what a caller learns makes two results, and two payloads at exit, equal. Assumes nothing.
use mathlib.Core.Path.{◌≡◌}
use Rattle.laws.proofs.OneAnswer.{no_second_answer}
use Rattle.unmasking.proofs.key_by.Reads as key-by
use Rattle.unmasking.proofs.is_adx.Reads as is-adx
use Rattle.unmasking.proofs.unmasking_of.Reads as unmasking-of
use Rattle.unmasking.proofs.unmask_video.Reads as unmask-video
use Rattle.unmasking.proofs.unmask_audio.Reads as unmask-audio
use Rattle.unmasking.proofs.video_mask.Reads as video_mask_lem
use Rattle.unmasking.proofs.audio_mask.Reads as audio_mask_lem
use Rattle.unmasking.proofs.mask_number.Reads as mask-number
use Rattle.unmasking.proofs.mask_by.Reads as mask-by
use Rattle.unmasking.proofs.clear_by.Reads as clear-by

pub key_by_once : (κs : _) (args : _) (r r' : _) (exit exit' : _) → key-by.Learnt κs args r exit → key-by.Learnt κs args r' exit' → r ≡ r'
key_by_once κs args r r' exit exit' = no_second_answer

pub is_adx_once : (κs : _) (args : _) (r r' : _) (exit exit' : _) → is-adx.Learnt κs args r exit → is-adx.Learnt κs args r' exit' → r ≡ r'
is_adx_once κs args r r' exit exit' = no_second_answer

pub unmasking_of_once : (κs : _) (args : _) (r r' : _) (exit exit' : _) → unmasking-of.Learnt κs args r exit → unmasking-of.Learnt κs args r' exit' → r ≡ r'
unmasking_of_once κs args r r' exit exit' = no_second_answer

pub unmask_video_once : (κs : _) (args : _) (r r' : _) (exit exit' : _) → unmask-video.Learnt κs args r exit → unmask-video.Learnt κs args r' exit' → exit.0.now ≡ exit'.0.now
unmask_video_once κs args r r' exit exit' = no_second_answer

pub unmask_audio_once : (κs : _) (args : _) (r r' : _) (exit exit' : _) → unmask-audio.Learnt κs args r exit → unmask-audio.Learnt κs args r' exit' → exit.0.now ≡ exit'.0.now
unmask_audio_once κs args r r' exit exit' = no_second_answer

pub video_mask_once : (κs : _) (args : _) (r r' : _) (exit exit' : _) → video_mask_lem.Learnt κs args r exit → video_mask_lem.Learnt κs args r' exit' → r ≡ r'
video_mask_once κs args r r' exit exit' = no_second_answer

pub audio_mask_once : (κs : _) (args : _) (r r' : _) (exit exit' : _) → audio_mask_lem.Learnt κs args r exit → audio_mask_lem.Learnt κs args r' exit' → r ≡ r'
audio_mask_once κs args r r' exit exit' = no_second_answer

pub mask_number_once : (κs : _) (args : _) (r r' : _) (exit exit' : _) → mask-number.Learnt κs args r exit → mask-number.Learnt κs args r' exit' → r ≡ r'
mask_number_once κs args r r' exit exit' = no_second_answer

pub mask_by_once : (κs : _) (args : _) (r r' : _) (exit exit' : _) → mask-by.Learnt κs args r exit → mask-by.Learnt κs args r' exit' → r ≡ r'
mask_by_once κs args r r' exit exit' = no_second_answer

pub clear_by_once : (κs : _) (args : _) (r r' : _) (exit exit' : _) → clear-by.Learnt κs args r exit → clear-by.Learnt κs args r' exit' → exit.0.now ≡ exit'.0.now
clear_by_once κs args r r' exit exit' = no_second_answer
