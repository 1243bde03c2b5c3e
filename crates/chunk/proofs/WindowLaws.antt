-- The cases of a step by a window, one for each return of the code; and that a window of a container has the container's opening. Assumes nothing.
use Rattle.std.specs.Prelude.{Some, None}
use mathlib.Core.Path.{◌≡◌, sym, ap, ◌∙◌}
use mathlib.Core.List.{List}
use Prim.Native.Nat.{ℕ, ◌-◌, ◌≤◌, ◌<◌}
use native.Mathlib.Omega.{arith}
use lib.ListN.{length, take, drop, length-take, length-drop}
use borrow.Author.Tests.{lt-ltb, le-ltb, lt-leb, le-leb}
use Rattle.reading.specs.declared.Applied.{Applied}
use Rattle.chunk.specs.Openings.{opening_at}
use Rattle.chunk.specs.Chunks.{ended_at, opened_at, chunk_at}
use Rattle.chunk.specs.Windows.{step_in}
use Rattle.chunk.proofs.CaseLaws.{ended, opened}
use Rattle.chunk.proofs.OpeningLaws.{same_opening}

module _ (window : List ℕ) (total : ℕ) (reading : Applied) (c : ℕ) where
  pub few : total - c < 45 → Some (ended_at (total - c) c) ≡ step_in window total reading c
  unfolding step_in
  few h = rw (lt-ltb _ _ h)

  module _ (many : 45 ≤ total - c) where
    pub short : length window < 45 → None ≡ step_in window total reading c
    unfolding step_in
    short h = rw (le-ltb _ _ many, lt-leb _ _ h)

    pub enough : 45 ≤ length window → Some (opened_at total reading c (opening_at window 0)) ≡ step_in window total reading c
    unfolding step_in
    enough h = let g : 4 ≤ total - c = omega arith in rw (le-ltb _ _ many, le-leb _ _ h, le-ltb _ _ g)

-- ---- a window of k of the bytes that stand at c

module _ (container : List ℕ) (reading : Applied) (c k : ℕ) where
  abbrev window : List ℕ
  window = take k (drop c container)

  window_length : 45 ≤ k → 45 ≤ length container - c → 45 ≤ length window
  window_length h many = simp (length-take, length-drop) (omega arith)

  pub few_left : length container - c < 45 → step_in window (length container) reading c ≡ Some (chunk_at container reading c)
  few_left few_bytes = sym (few window (length container) reading c few_bytes) ∙ ap Some (ended container reading c few_bytes)

  pub opening_there : 45 ≤ k → 45 ≤ length container - c → step_in window (length container) reading c ≡ Some (chunk_at container reading c)
  opening_there h many =
      sym (enough window (length container) reading c many (window_length h many)) ∙ ap Some (ap (opened_at (length container) reading c) (same_opening container c k h (omega arith)) ∙ opened container reading c many)
