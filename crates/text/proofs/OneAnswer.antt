-- No second answer meets a contract of this crate: what a caller learns makes two counts, and two outputs at exit, equal. Assumes nothing.
use Rattle.std.proofs.Common.{ℕ, ◌+◌, ◌≡◌, List, arith}
use Rattle.laws.proofs.OneAnswer.{no_second_answer}
use Rattle.laws.specs.Outputs.{Put}
use Rattle.text.proofs.put_bytes.Reads as put-bytes
use Rattle.text.proofs.put_hex_bytes.Reads as put-hex-bytes
use Rattle.text.proofs.put_decimal.Reads as put-decimal
use Rattle.text.proofs.put_hex.Reads as put-hex

-- a text is put in one way
one_put : {bytes before after after' : List ℕ} {place n n' : ℕ} → Put bytes before place after (place + n) → Put bytes before place after' (place + n') → (n ≡ n') × (after ≡ after')
one_put p p' = (omega (arith, p.ends, p'.ends), no_second_answer p.holds p'.holds)

pub put_bytes_once : (κs : _) (args : _) (r r' : _) (exit exit' : _) → put-bytes.Learnt κs args r exit → put-bytes.Learnt κs args r' exit'
    → (r ≡ r') × (exit.0.now ≡ exit'.0.now)
put_bytes_once κs args r r' exit exit' = one_put

pub put_hex_bytes_once : (κs : _) (args : _) (r r' : _) (exit exit' : _) → put-hex-bytes.Learnt κs args r exit → put-hex-bytes.Learnt κs args r' exit'
    → (r ≡ r') × (exit.0.now ≡ exit'.0.now)
put_hex_bytes_once κs args r r' exit exit' = one_put

pub put_decimal_once : (κs : _) (args : _) (r r' : _) (exit exit' : _) → put-decimal.Learnt κs args r exit → put-decimal.Learnt κs args r' exit'
    → (r ≡ r') × (exit.0.now ≡ exit'.0.now)
put_decimal_once κs args r r' exit exit' = one_put

pub put_hex_once : (κs : _) (args : _) (r r' : _) (exit exit' : _) → put-hex.Learnt κs args r exit → put-hex.Learnt κs args r' exit'
    → (r ≡ r') × (exit.0.now ≡ exit'.0.now)
put_hex_once κs args r r' exit exit' = one_put
