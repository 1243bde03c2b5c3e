-- Rules R: bytes written into a lent output. "16 output too short"; "outputs untouched"; bytes past the size stay.
use Rattle.std.specs.Prelude.{ℕ, List, cond, ltb, Result, Ok, Err}
use Rattle.refusal.specs.declared.Refusal.{Refusal}
use Rattle.std.proofs.lemmas.List.Edits.{sets}
use Rattle.refusal.specs.declared.Cause.TheVariants.{ShortRoom}
use Rattle.refusal.specs.Numbers.{number_of, beside_of}
use Rattle.lent.specs.declared.SizeReply.{SizeReply}

-- "then 16 output too short", which "also gives the size needed"; what was refused before stays refused
abbrev pub written_in : ℕ → Result ℕ Refusal → Result ℕ Refusal
written_in room (Ok size) = cond (ltb room size) (Err (record { cause = ShortRoom size; place = 0 })) (Ok size)
written_in room (Err refusal) = Err refusal

-- the output after it: "outputs untouched" where it is refused; bytes past the size stay
abbrev pub left_by : Result ℕ Refusal → List ℕ → List ℕ → List ℕ
left_by (Ok size) out bytes = sets out 0 bytes
left_by (Err refusal) out bytes = out

-- the answer as C reads it: the paper's number, 0 where nothing is refused; the place; the type beside 8; the size, also beside 16
abbrev pub size_reply : Result ℕ Refusal → SizeReply
size_reply (Ok n) = record { refused_at = 0; size = n; number = 0; unknown_type = 0 }
size_reply (Err refusal) = record { refused_at = refusal.place; size = (beside_of refusal.cause).size; number = number_of refusal.cause; unknown_type = (beside_of refusal.cause).unknown_type }
