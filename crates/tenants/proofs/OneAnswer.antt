-- No second answer meets a contract of this crate: what a caller learns makes two results one. Assumes nothing.
use mathlib.Core.Path.{◌≡◌}
use Rattle.laws.proofs.OneAnswer.{no_second_answer}
use Rattle.tenants.proofs.are_bad.Reads as are_bad_lem
use Rattle.tenants.proofs.members.Reads as members
use Rattle.tenants.proofs.differing.Reads as differing
use Rattle.tenants.proofs.key_of.Reads as key_of
use Rattle.tenants.proofs.line_at.Reads as line_at_lem

pub are_bad_once : (κs : _) (args : _) (r r' : _) (exit exit' : _) → are_bad_lem.Learnt κs args r exit → are_bad_lem.Learnt κs args r' exit' → r ≡ r'
are_bad_once κs args r r' exit exit' = no_second_answer

pub members_once : (κs : _) (args : _) (r r' : _) (exit exit' : _) → members.Learnt κs args r exit → members.Learnt κs args r' exit' → r ≡ r'
members_once κs args r r' exit exit' = no_second_answer

pub differing_once : (κs : _) (args : _) (r r' : _) (exit exit' : _) → differing.Learnt κs args r exit → differing.Learnt κs args r' exit' → r ≡ r'
differing_once κs args r r' exit exit' = no_second_answer

pub key_of_once : (κs : _) (args : _) (r r' : _) (exit exit' : _) → key_of.Learnt κs args r exit → key_of.Learnt κs args r' exit' → r ≡ r'
key_of_once κs args r r' exit exit' = no_second_answer

pub line_at_once : (κs : _) (args : _) (r r' : _) (exit exit' : _) → line_at_lem.Learnt κs args r exit → line_at_lem.Learnt κs args r' exit' → r ≡ r'
line_at_once κs args r r' exit exit' = no_second_answer
