-- No second answer meets a contract of this crate: what a caller learns makes two results, and with them the output at exit, one. Assumes nothing.
use mathlib.Core.Path.{◌≡◌, sym}
use Rattle.laws.proofs.OneAnswer.{no_second_answer}
use Rattle.write.proofs.write.Reads as write
use Rattle.write.proofs.write_header.Reads as write-header
use Rattle.write.proofs.write_head.Reads as write-head
use Rattle.write.proofs.write_ends.Reads as write-ends

pub write_once : (κs : _) (args : _) (r r' : _) (exit exit' : _) → write.Learnt κs args r exit → write.Learnt κs args r' exit'
    → (r ≡ r') × (exit.1.1.1.1.0.now ≡ exit'.1.1.1.1.0.now)
write_once κs args r r' exit exit' l l' = let e : r' ≡ r = no_second_answer l'.0 l.0 in (sym e, no_second_answer l.1 (rw e at l'.1))

pub write_header_once : (κs : _) (args : _) (r r' : _) (exit exit' : _) → write-header.Learnt κs args r exit → write-header.Learnt κs args r' exit'
    → (r ≡ r') × (exit.1.1.1.1.0.now ≡ exit'.1.1.1.1.0.now)
write_header_once κs args r r' exit exit' l l' = let e : r' ≡ r = no_second_answer l'.0 l.0 in (sym e, no_second_answer l.1 (rw e at l'.1))

pub write_head_once : (κs : _) (args : _) (r r' : _) (exit exit' : _) → write-head.Learnt κs args r exit → write-head.Learnt κs args r' exit'
    → (r ≡ r') × (exit.1.1.0.now ≡ exit'.1.1.0.now)
write_head_once κs args r r' exit exit' l l' = let e : r' ≡ r = no_second_answer l'.0 l.0 in (sym e, no_second_answer l.1 (rw e at l'.1))

pub write_ends_once : (κs : _) (args : _) (r r' : _) (exit exit' : _) → write-ends.Learnt κs args r exit → write-ends.Learnt κs args r' exit'
    → (r ≡ r') × (exit.1.0.now ≡ exit'.1.0.now)
write_ends_once κs args r r' exit exit' l l' = let e : r' ≡ r = no_second_answer l'.0 l.0 in (sym e, no_second_answer l.1 (rw e at l'.1))
