-- Bytes that are put into a lent output, for the contracts of functions that put one thing after the other.
use Rattle.std.specs.Prelude.{◌≡◌, List, ℕ, ◌+◌, length}
use Rattle.std.proofs.lemmas.List.Edits.{sets}

-- bytes are put into an output from a place on, and end at another place; past the output's end nothing is put
pub record Put (bytes before : List ℕ) (place : ℕ) (after : List ℕ) (end : ℕ) : Type 0 where
  pub ends : end ≡ place + length bytes
  pub holds : after ≡ sets before place bytes
