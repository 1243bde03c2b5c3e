-- No second answer meets a contract that says what the answer is. Assumes nothing.
use mathlib.Core.Path.{◌≡◌, sym, ◌∙◌}

-- Two answers that are both what the rule says are one answer.
pub no_second_answer : {A : Type 0} {first second rule : A} → first ≡ rule → second ≡ rule → first ≡ second
no_second_answer p q = p ∙ sym q
