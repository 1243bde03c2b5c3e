-- No second answer meets a contract of this crate: what a caller learns makes two results one. Assumes nothing.
use Rattle.std.proofs.Common.{◌≡◌}
use Rattle.laws.proofs.OneAnswer.{no_second_answer}
use Rattle.typed.proofs.read_key.Reads as read-key
use Rattle.typed.proofs.read_length.Reads as read_length
use Rattle.typed.proofs.read_tenant.Reads as read-tenant
use Rattle.typed.proofs.digit_of.Reads as digit-of
use Rattle.typed.proofs.digit_counts.Reads as digit-counts
use Rattle.typed.proofs.digits_differ.Reads as digits-differ
use Rattle.typed.proofs.verdict_on.Reads as verdict-on

pub read_key_once : (κs : _) (args : _) (r r' : _) (exit exit' : _) → read-key.Learnt κs args r exit → read-key.Learnt κs args r' exit' → r ≡ r'
read_key_once κs args r r' exit exit' = no_second_answer

pub read_length_once : (κs : _) (args : _) (r r' : _) (exit exit' : _) → read_length.Learnt κs args r exit → read_length.Learnt κs args r' exit' → r ≡ r'
read_length_once κs args r r' exit exit' = no_second_answer

pub read_tenant_once : (κs : _) (args : _) (r r' : _) (exit exit' : _) → read-tenant.Learnt κs args r exit → read-tenant.Learnt κs args r' exit' → r ≡ r'
read_tenant_once κs args r r' exit exit' = no_second_answer

pub digit_of_once : (κs : _) (args : _) (r r' : _) (exit exit' : _) → digit-of.Learnt κs args r exit → digit-of.Learnt κs args r' exit' → r ≡ r'
digit_of_once κs args r r' exit exit' l l' = no_second_answer l.0 l'.0

pub digit_counts_once : (κs : _) (args : _) (r r' : _) (exit exit' : _) → digit-counts.Learnt κs args r exit → digit-counts.Learnt κs args r' exit' → r ≡ r'
digit_counts_once κs args r r' exit exit' = no_second_answer

pub digits_differ_once : (κs : _) (args : _) (r r' : _) (exit exit' : _) → digits-differ.Learnt κs args r exit → digits-differ.Learnt κs args r' exit' → r ≡ r'
digits_differ_once κs args r r' exit exit' = no_second_answer

pub verdict_on_once : (κs : _) (args : _) (r r' : _) (exit exit' : _) → verdict-on.Learnt κs args r exit → verdict-on.Learnt κs args r' exit' → r ≡ r'
verdict_on_once κs args r r' exit exit' = no_second_answer
