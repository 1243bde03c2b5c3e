-- No second answer meets a contract of this crate: what a caller learns makes two results and two buffers at exit one. Assumes nothing.
use mathlib.Core.Path.{◌≡◌}
use Rattle.laws.proofs.OneAnswer.{no_second_answer}
use Rattle.player_c.proofs.usm_key_table.Reads as usm-key-table
use Rattle.player_c.proofs.usm_unmask_video.Reads as usm-unmask-video
use Rattle.player_c.proofs.usm_mask_video.Reads as usm-mask-video
use Rattle.player_c.proofs.usm_unmask_audio.Reads as usm-unmask-audio
use Rattle.player_c.proofs.usm_mask_audio.Reads as usm-mask-audio

pub usm_key_table_once : (κs : _) (args : _) (r r' : _) (exit exit' : _) → usm-key-table.Learnt κs args r exit → usm-key-table.Learnt κs args r' exit'
    → (r ≡ r') × (exit.1.0.now ≡ exit'.1.0.now)
usm_key_table_once κs args r r' exit exit' l l' = (no_second_answer l.0 l'.0, no_second_answer l.1 l'.1)

pub usm_unmask_video_once : (κs : _) (args : _) (r r' : _) (exit exit' : _) → usm-unmask-video.Learnt κs args r exit → usm-unmask-video.Learnt κs args r' exit'
    → exit.1.0.now ≡ exit'.1.0.now
usm_unmask_video_once κs args r r' exit exit' = no_second_answer

pub usm_mask_video_once : (κs : _) (args : _) (r r' : _) (exit exit' : _) → usm-mask-video.Learnt κs args r exit → usm-mask-video.Learnt κs args r' exit'
    → exit.1.0.now ≡ exit'.1.0.now
usm_mask_video_once κs args r r' exit exit' = no_second_answer

pub usm_unmask_audio_once : (κs : _) (args : _) (r r' : _) (exit exit' : _) → usm-unmask-audio.Learnt κs args r exit → usm-unmask-audio.Learnt κs args r' exit'
    → exit.1.0.now ≡ exit'.1.0.now
usm_unmask_audio_once κs args r r' exit exit' = no_second_answer

pub usm_mask_audio_once : (κs : _) (args : _) (r r' : _) (exit exit' : _) → usm-mask-audio.Learnt κs args r exit → usm-mask-audio.Learnt κs args r' exit'
    → exit.1.0.now ≡ exit'.1.0.now
usm_mask_audio_once κs args r r' exit exit' = no_second_answer
