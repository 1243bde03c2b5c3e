-- No second answer meets a contract of this crate: what a caller learns makes two results one. Assumes nothing.
use mathlib.Core.Path.{◌≡◌}
use Rattle.laws.proofs.OneAnswer.{no_second_answer}
use Rattle.old_film.proofs.name_head.Reads as name-head
use Rattle.old_film.proofs.video_block.Reads as video-block
use Rattle.old_film.proofs.audio_block.Reads as audio-block
use Rattle.old_film.proofs.name_in.Reads as name_in
use Rattle.old_film.proofs.name_size.Reads as name-size
use Rattle.old_film.proofs.is_rebuilt.Reads as is_rebuilt_lem
use Rattle.old_film.proofs.find.Reads as find
use Rattle.part.proofs.OneAnswer.{SamePart, one_part}

pub name_head_once : (κs : _) (args : _) (r r' : _) (exit exit' : _) → name-head.Learnt κs args r exit → name-head.Learnt κs args r' exit' → r ≡ r'
name_head_once κs args r r' exit exit' = no_second_answer

pub video_block_once : (κs : _) (args : _) (r r' : _) (exit exit' : _) → video-block.Learnt κs args r exit → video-block.Learnt κs args r' exit' → r ≡ r'
video_block_once κs args r r' exit exit' = no_second_answer

pub audio_block_once : (κs : _) (args : _) (r r' : _) (exit exit' : _) → audio-block.Learnt κs args r exit → audio-block.Learnt κs args r' exit' → r ≡ r'
audio_block_once κs args r r' exit exit' = no_second_answer

pub name_in_once : (κs : _) (args : _) (r r' : _) (exit exit' : _) → name_in.Learnt κs args r exit → name_in.Learnt κs args r' exit' → SamePart r r'
name_in_once κs args r r' exit exit' l l' = one_part args.0 _ _ r r' l.0 l'.0

pub name_size_once : (κs : _) (args : _) (r r' : _) (exit exit' : _) → name-size.Learnt κs args r exit → name-size.Learnt κs args r' exit' → r ≡ r'
name_size_once κs args r r' exit exit' = no_second_answer

pub is_rebuilt_once : (κs : _) (args : _) (r r' : _) (exit exit' : _) → is_rebuilt_lem.Learnt κs args r exit → is_rebuilt_lem.Learnt κs args r' exit' → r ≡ r'
is_rebuilt_once κs args r r' exit exit' = no_second_answer

pub find_once : (κs : _) (args : _) (r r' : _) (exit exit' : _) → find.Learnt κs args r exit → find.Learnt κs args r' exit' → r ≡ r'
find_once κs args r r' exit exit' = no_second_answer
