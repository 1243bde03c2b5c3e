-- A reader's window at each chunk shows what the delivery profile asks of it. Assumes nothing.
use Rattle.std.specs.Prelude.{Some, Ok}
use Prim.Native.Nat.{ℕ, ◌+◌, ◌≤◌}
use mathlib.Core.Path.{◌≡◌, sym, ◌∙◌, subst}
use mathlib.Core.List.{List, [], ◌∷◌}
use native.Mathlib.Omega.{arith}
use lib.ListN.{length}
use Rattle.reading.specs.declared.Applied.{Applied}
use Rattle.chunk.specs.declared.Chunk.{Chunk}
use Rattle.chunk.proofs.OpeningLaws.{same_letters, same_kind}
use Rattle.chunk.proofs.FoundLaws.{found}
use Rattle.walk.specs.Walks.{Ending}
use Rattle.pieces.specs.Pieces.{film_step, Learnt, Windows}
use Rattle.pieces.proofs.PieceLaws.{there, window_long}
use Rattle.profile.proofs.JudgeLaws.{judged_in_lem}
use Rattle.profile.proofs.StepLaws.{Shows, AllShow}

module _ (container : List ℕ) (reading : Applied) (few : length container ≤ 0x40000000) (window : ℕ → List ℕ) (size : ℕ → ℕ) (windows : Windows container window size) where
  shows : (c : ℕ) (chunk : Chunk) → film_step (window c) (length container) reading c ≡ Some (Ok (Some chunk)) → Shows container (window chunk.start) chunk
  shows c chunk e =
      let w = found container reading c chunk (there container reading few window size windows c (Ok (Some chunk)) e) in
      let long = window_long container reading few window size windows c chunk e in
      let whole : c + 45 ≤ length container = omega (arith, w.whole) in
      subst (λ (k : ℕ). Shows container (window k) chunk) (sym w.start) (record {
        kind = rw (windows c) (same_kind container c (size c) long whole ∙ sym w.kind);
        letters = rw (windows c, w.start) (same_letters container c (size c) long whole);
        judged_there = λ streams. rw (windows c, w.start) (judged_in_lem container c (size c) long whole streams);
      })

  pub all_show : (c : ℕ) (chunks : List Chunk) (ending : Ending) → Learnt window (length container) reading c chunks ending → AllShow container window chunks
  unfolding AllShow
  all_show c [] ending learnt = tt
  all_show c (chunk ∷ chunks) ending learnt = (shows c chunk learnt.0, all_show chunk.next chunks ending learnt.1)
