-- No second answer meets a contract of this crate: what a caller learns makes two results one. Assumes nothing.
use mathlib.Core.Path.{◌≡◌}
use Rattle.laws.proofs.OneAnswer.{no_second_answer}
use Rattle.replies.proofs.table_reply.Reads as table-reply
use Rattle.replies.proofs.cell_reply.Reads as cell-reply
use Rattle.replies.proofs.column_reply.Reads as column-reply
use Rattle.replies.proofs.film_reply.Reads as film-reply

pub table_reply_once : (κs : _) (args : _) (r r' : _) (exit exit' : _) → table-reply.Learnt κs args r exit → table-reply.Learnt κs args r' exit' → r ≡ r'
table_reply_once κs args r r' exit exit' = no_second_answer

pub cell_reply_once : (κs : _) (args : _) (r r' : _) (exit exit' : _) → cell-reply.Learnt κs args r exit → cell-reply.Learnt κs args r' exit' → r ≡ r'
cell_reply_once κs args r r' exit exit' = no_second_answer

pub film_reply_once : (κs : _) (args : _) (r r' : _) (exit exit' : _) → film-reply.Learnt κs args r exit → film-reply.Learnt κs args r' exit' → r ≡ r'
film_reply_once κs args r r' exit exit' = no_second_answer

pub column_reply_once : (κs : _) (args : _) (r r' : _) (exit exit' : _) → column-reply.Learnt κs args r exit → column-reply.Learnt κs args r' exit' → r ≡ r'
column_reply_once κs args r r' exit exit' = no_second_answer
