-- What is accepted by its number is accepted: every cause of a refusal has another number than 0. Assumes nothing.
use Rattle.std.specs.Prelude.{Result, Ok, Err}
use Rattle.refusal.specs.declared.Refusal.{Refusal}
use mathlib.Core.Path.{◌≡◌, sym, ap, ◌∙◌}
use mathlib.Core.List.{List}
use Prim.Native.Nat.{ℕ}
use Rattle.list.proofs.ReplyLaws.{numbered}
use Rattle.lent.specs.declared.SizeReply.{SizeReply}
use Rattle.lent.specs.Written.{left_by, size_reply}
use Rattle.usm.specs.Writes.{WrittenAs}
use Rattle.promises_c.specs.Promises.{Leaves}

accepted : (answer : Result ℕ Refusal) (r : SizeReply) → r ≡ size_reply answer → r.number ≡ 0 → answer ≡ Ok r.size
accepted (Ok n) r e z = ap Ok (sym (ap (λ (reply : SizeReply). reply.size) e))
accepted (Err refusal) r e z = absurd (numbered refusal.cause (sym (ap (λ (reply : SizeReply). reply.number) e) ∙ z))

-- a writing that is accepted is one of the size that is replied
pub writing : (answer : Result ℕ Refusal) (bytes out out' : List ℕ) (r : SizeReply) → WrittenAs answer bytes out r out' → r.number ≡ 0
    → (Ok r.size ≡ answer) × (out' ≡ left_by (Ok r.size) out bytes)
writing answer bytes out out' r w z =
    let q = accepted answer r w.0 z in
    (sym q, w.1 ∙ ap (λ (a : Result ℕ Refusal). left_by a out bytes) q)

-- and one that is not leaves the output
pub leaves : (answer : Result ℕ Refusal) (bytes out out' : List ℕ) (r : SizeReply) → WrittenAs answer bytes out r out' → Leaves r out out'
leaves (Ok n) bytes out out' r w h = absurd (h (ap (λ (reply : SizeReply). reply.number) w.0))
leaves (Err refusal) bytes out out' r w h = w.1
