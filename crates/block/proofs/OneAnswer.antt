-- No second answer meets a contract of this crate: what a caller learns makes two results one. Assumes nothing.
use mathlib.Core.Path.{◌≡◌}
use Rattle.laws.proofs.OneAnswer.{no_second_answer}
use Rattle.block.proofs.marker_block.Reads as marker-block
use Rattle.block.proofs.table_block.Reads as table-block
use Rattle.block.proofs.codec_block.Reads as codec_block_lem
use Rattle.block.proofs.name_block.Reads as name_block_lem
use Rattle.block.proofs.ahead_at.Reads as ahead-at
use Rattle.block.proofs.last_block.Reads as last_block

pub marker_block_once : (κs : _) (args : _) (r r' : _) (exit exit' : _) → marker-block.Learnt κs args r exit → marker-block.Learnt κs args r' exit' → r ≡ r'
marker_block_once κs args r r' exit exit' = no_second_answer

pub table_block_once : (κs : _) (args : _) (r r' : _) (exit exit' : _) → table-block.Learnt κs args r exit → table-block.Learnt κs args r' exit' → r ≡ r'
table_block_once κs args r r' exit exit' = no_second_answer

pub codec_block_once : (κs : _) (args : _) (r r' : _) (exit exit' : _) → codec_block_lem.Learnt κs args r exit → codec_block_lem.Learnt κs args r' exit' → r ≡ r'
codec_block_once κs args r r' exit exit' = no_second_answer

pub name_block_once : (κs : _) (args : _) (r r' : _) (exit exit' : _) → name_block_lem.Learnt κs args r exit → name_block_lem.Learnt κs args r' exit' → r ≡ r'
name_block_once κs args r r' exit exit' = no_second_answer

pub ahead_at_once : (κs : _) (args : _) (r r' : _) (exit exit' : _) → ahead-at.Learnt κs args r exit → ahead-at.Learnt κs args r' exit' → r ≡ r'
ahead_at_once κs args r r' exit exit' = no_second_answer

pub last_block_once : (κs : _) (args : _) (r r' : _) (exit exit' : _) → last_block.Learnt κs args r exit → last_block.Learnt κs args r' exit' → r ≡ r'
last_block_once κs args r r' exit exit' = no_second_answer
