-- No second answer meets a contract of this crate: what a caller learns makes two results one. Assumes nothing.
use mathlib.Core.Path.{◌≡◌}
use Rattle.laws.proofs.OneAnswer.{no_second_answer}
use Rattle.codec.proofs.codec_of.Reads as codec-of
use Rattle.codec.proofs.video_kind.Reads as video-kind
use Rattle.codec.proofs.audio_kind.Reads as audio-kind
use Rattle.codec.proofs.codec_by.Reads as codec-by
use Rattle.codec.proofs.presence_of.Reads as presence-of
use Rattle.codec.proofs.value_of.Reads as value_of_lem
use Rattle.codec.proofs.video_number.Reads as video-number
use Rattle.codec.proofs.audio_number.Reads as audio-number

pub codec_of_once : (κs : _) (args : _) (r r' : _) (exit exit' : _) → codec-of.Learnt κs args r exit → codec-of.Learnt κs args r' exit' → r ≡ r'
codec_of_once κs args r r' exit exit' = no_second_answer

pub video_kind_once : (κs : _) (args : _) (r r' : _) (exit exit' : _) → video-kind.Learnt κs args r exit → video-kind.Learnt κs args r' exit' → r ≡ r'
video_kind_once κs args r r' exit exit' = no_second_answer

pub audio_kind_once : (κs : _) (args : _) (r r' : _) (exit exit' : _) → audio-kind.Learnt κs args r exit → audio-kind.Learnt κs args r' exit' → r ≡ r'
audio_kind_once κs args r r' exit exit' = no_second_answer

pub codec_by_once : (κs : _) (args : _) (r r' : _) (exit exit' : _) → codec-by.Learnt κs args r exit → codec-by.Learnt κs args r' exit' → r ≡ r'
codec_by_once κs args r r' exit exit' = no_second_answer

pub presence_of_once : (κs : _) (args : _) (r r' : _) (exit exit' : _) → presence-of.Learnt κs args r exit → presence-of.Learnt κs args r' exit' → r ≡ r'
presence_of_once κs args r r' exit exit' = no_second_answer

pub value_of_once : (κs : _) (args : _) (r r' : _) (exit exit' : _) → value_of_lem.Learnt κs args r exit → value_of_lem.Learnt κs args r' exit' → r ≡ r'
value_of_once κs args r r' exit exit' = no_second_answer

pub video_number_once : (κs : _) (args : _) (r r' : _) (exit exit' : _) → video-number.Learnt κs args r exit → video-number.Learnt κs args r' exit' → r ≡ r'
video_number_once κs args r r' exit exit' = no_second_answer

pub audio_number_once : (κs : _) (args : _) (r r' : _) (exit exit' : _) → audio-number.Learnt κs args r exit → audio-number.Learnt κs args r' exit' → r ≡ r'
audio_number_once κs args r r' exit exit' = no_second_answer
