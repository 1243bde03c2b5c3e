-- No second answer meets a contract of this crate: what a caller learns makes two results equal, and of two parts their place and their bytes. Assumes nothing.
use Rattle.std.specs.Prelude.{Option, Some, None, Result, Ok, Err}
use Rattle.chunk.specs.declared.Chunk.{Chunk}
use Rattle.refusal.specs.declared.Refusal.{Refusal}
use Prim.Native.Nat.{ℕ}
use mathlib.Core.Path.{◌≡◌}
use mathlib.Core.List.{List}
use denote.Ref.{Bor}
use Rattle.laws.proofs.OneAnswer.{no_second_answer}
use Rattle.part.proofs.OneAnswer.{SamePart, one_part}
use Rattle.chunk.specs.Chunks.{chunk_at, PayloadIn}
use Rattle.chunk.proofs.kind_number.Reads as kind-number
use Rattle.chunk.proofs.is_end.Reads as is_end
use Rattle.chunk.proofs.chunk_at.Reads as chunk-at
use Rattle.chunk.proofs.step_in.Reads as step_in
use Rattle.chunk.proofs.payload_of.Reads as payload-of
use Rattle.chunk.proofs.read_payload.Reads as read-payload

pub kind_number_once : (κs : _) (args : _) (r r' : _) (exit exit' : _) → kind-number.Learnt κs args r exit → kind-number.Learnt κs args r' exit' → r ≡ r'
kind_number_once κs args r r' exit exit' = no_second_answer

pub is_end_once : (κs : _) (args : _) (r r' : _) (exit exit' : _) → is_end.Learnt κs args r exit → is_end.Learnt κs args r' exit' → r ≡ r'
is_end_once κs args r r' exit exit' = no_second_answer

pub chunk_at_once : (κs : _) (args : _) (r r' : _) (exit exit' : _) → chunk-at.Learnt κs args r exit → chunk-at.Learnt κs args r' exit' → r ≡ r'
chunk_at_once κs args r r' exit exit' = no_second_answer

pub step_in_once : (κs : _) (args : _) (r r' : _) (exit exit' : _) → step_in.Learnt κs args r exit → step_in.Learnt κs args r' exit' → r ≡ r'
step_in_once κs args r r' exit exit' = no_second_answer

-- a step has one payload
one_payload : (container : Bor (List ℕ)) (step : Result (Option Chunk) Refusal) (r r' : Bor (List ℕ)) → PayloadIn container step r → PayloadIn container step r' → SamePart r r'
one_payload container (Ok None) r r' = one_part container _ _ r r'
one_payload container (Ok (Some chunk)) r r' = one_part container _ _ r r'
one_payload container (Err refusal) r r' = one_part container _ _ r r'

pub payload_of_once : (κs : _) (args : _) (r r' : _) (exit exit' : _) → payload-of.Learnt κs args r exit → payload-of.Learnt κs args r' exit' → SamePart r r'
payload_of_once κs args r r' exit exit' = one_part args.0 _ _ r r'

pub read_payload_once : (κs : _) (args : _) (r r' : _) (exit exit' : _) → read-payload.Learnt κs args r exit → read-payload.Learnt κs args r' exit' → SamePart r r'
read_payload_once κs args r r' exit exit' = one_payload args.0 (chunk_at args.0.now args.1.1.0 args.1.0) r r'
