-- What is written for C is replied as it is answered. Assumes nothing.
use Rattle.std.specs.Prelude.{Result}
use Rattle.refusal.specs.declared.Refusal.{Refusal}
use mathlib.Core.Path.{◌≡◌, ap, ◌∙◌}
use mathlib.Core.List.{List}
use Prim.Native.Nat.{ℕ}
use Rattle.lent.specs.declared.SizeReply.{SizeReply}
use Rattle.lent.specs.Written.{left_by, size_reply}
use Rattle.usm.specs.Writes.{WrittenAs}

pub replied : (planned answer : Result ℕ Refusal) (bytes out out' : List ℕ) (r : SizeReply) → (answer ≡ planned) × (out' ≡ left_by answer out bytes) → r ≡ size_reply answer
    → WrittenAs planned bytes out r out'
replied planned answer bytes out out' r w q = (q ∙ ap size_reply w.0, w.1 ∙ ap (λ (a : Result ℕ Refusal). left_by a out bytes) w.0)
