-- Where a container can be cut. A cut at a chunk start is walked to its end exactly when it holds what the chunks before it need; so the loop's answer
-- is the last cut that is walked to its end. Assumes nothing.
use Rattle.std.specs.Prelude.{Option, Some, None, Ok}
use Prim.Native.Nat.{ℕ, ◌+◌, ◌≤◌, ◌<◌, max}
use mathlib.Core.Path.{◌≡◌, refl, sym, ap, ◌∙◌}
use mathlib.Core.List.{List}
use mathlib.Core.Bool.{Bool, true, false, cond, ◌&&◌}
use mathlib.Core.Logic.{⊎_elim}
use native.Mathlib.Omega.{arith}
use lib.ListN.{length, take}
use lib.Seq.{length-take-le}
use lib.Dec.{leb}
use borrow.Author.Tests.{le-leb, lt-leb}
use Rattle.laws.proofs.Side.{side}
use Rattle.refusal.specs.declared.Refusal.{Refusal}
use Rattle.reading.specs.declared.Applied.{Applied}
use Rattle.chunk.specs.declared.Chunk.{Chunk}
use Rattle.chunk.specs.Chunks.{chunk_at}
use Rattle.chunk.proofs.CaseLaws.{over}
use Rattle.chunk.proofs.FoundLaws.{found}
use Rattle.walk.specs.Walks.{Walk, Ending, clean, stopped, walk_from}
use Rattle.walk.proofs.WalkLaws.{walk_over, walk_found, walk_refused}
use Rattle.laws_prefix.specs.Needs.{need_of}
use Rattle.laws_prefix.proofs.ChunkLaws.{refused_there}
use Rattle.laws_prefix.proofs.Promises.{ChunkOfABeginning, ChunkCutOff}
use Rattle.salvage.specs.Salvage.{or_else, last_of, starts_of}
use Rattle.salvage.specs.Fits.{fitted, fit_from}
use Rattle.salvage.proofs.SearchLaws.{best_of}
use Rattle.salvage.proofs.StepLaws.{Steps, stop, step}

abbrev pub is_clean : Ending → Bool
is_clean clean = true
is_clean (stopped refusal) = false

-- ---- what is needed

-- with a need more that p holds, nothing changes
more_held : (need another p : ℕ) → another ≤ p → leb (max need another) p ≡ leb need p
more_held need another p h =
    ⊎_elim
    (λ (k : p < need). rw (lt-leb (max need another) p (omega arith), lt-leb need p k))
    (λ (k : need ≤ p). rw (le-leb (max need another) p (omega arith), le-leb need p k))
    (side p need)

-- with one that p does not hold, p does not hold all
more_lacks : (need another p : ℕ) → p < another → leb (max need another) p ≡ false
more_lacks need another p h = lt-leb (max need another) p (omega arith)

and-false : (t : Bool) → (t && false) ≡ false
and-false true = refl
and-false false = refl

and-true : (t : Bool) → (t && true) ≡ t
and-true true = refl
and-true false = refl

module _ (s : List ℕ) (reading : Applied) where
  -- how the walk of a cut ends, from c on
  abbrev pub ends : ℕ → ℕ → Bool
  ends p c = is_clean (walk_from (take p s) reading c).ending

  -- a cut at c ends clean there
  pub ends_here : (c : ℕ) → c ≤ length s → ends c c ≡ true
  ends_here c h =
      let l = length-take-le c s h in
      ap (λ (w : Walk). is_clean w.ending) (walk_over (take c s) reading c (sym (over (take c s) reading c (omega arith))))

  -- a chunk before the cut: the cut holds what it needs, and the walk goes on, or it does not
  passes : (c p need : ℕ) (chunk : Chunk) → chunk_at s reading c ≡ Ok (Some chunk) → c + 8 ≤ p → p ≤ length s
      → (leb need p && ends p c) ≡ (leb (max need (need_of chunk)) p && ends p chunk.next)
  passes c p need chunk e h k =
      ⊎_elim
      (λ (lacks : p < need_of chunk).
      let w = walk_refused (take p s) reading c _ (ChunkCutOff s p reading c chunk k e (omega arith) lacks) in
      rw (w, more_lacks need (need_of chunk) p lacks) (and-false (leb need p)))
      (λ (held : need_of chunk ≤ p).
      let w = walk_found (take p s) reading c chunk (ChunkOfABeginning s p reading c chunk k e held) in
      rw (w, more_held need (need_of chunk) p held))
      (side p (need_of chunk))

  -- ---- the loop

  module _ (start : ℕ) (refusal : Refusal) where
    -- the walk came to c, and the chunks before it need so much: of a cut from here on, that and the rest decide
    abbrev Reached : ℕ → ℕ → Type 0
    Reached c need = (p : ℕ) → c ≤ p → p ≤ length s → ends p start ≡ (leb need p && ends p c)

    here : (c need : ℕ) → Reached c need → c ≤ length s → ends c start ≡ leb need c
    here c need reached h = reached c (omega arith) h ∙ rw (ends_here c h) (and-true (leb need c))

    -- the best cut, by a place that is tried before the rest or after it
    best_of_lem : (x : Option ℕ) (t : Bool) (p best : ℕ) → best_of x (cond t p best) ≡ best_of (or_else x (cond t (Some p) None)) best
    best_of_lem (Some q) t p best = refl
    best_of_lem None true p best = refl
    best_of_lem None false p best = refl

    pub loop_searches : {c : ℕ} {chunks : List Chunk} → Steps s reading c chunks (stopped refusal) → (need best : ℕ) → Reached c need
        → fit_from need best chunks (stopped refusal) ≡ Some (record { place = best_of (last_of (λ p. ends p start) (starts_of chunks (stopped refusal))) best; refusal = refusal })
    unfolding fit_from last_of starts_of
    loop_searches (stop {c} e) need best reached =
        let w = refused_there s reading c refusal e in
        let t : ends refusal.place start ≡ leb need refusal.place = rw w.0 (here c need reached (omega (arith, w.1))) in
        rw t (ap (λ (p : ℕ). Some (record { place = p; refusal = refusal })) (best_of_lem None (leb need refusal.place) refusal.place best))
    loop_searches (step {c} {chunk} {chunks} {ending} e rest) need best reached =
        let w = found s reading c chunk e in
        let t : ends chunk.start start ≡ leb need chunk.start = rw w.start (here c need reached (omega (arith, w.whole))) in
        let goes : Reached chunk.next (max need (need_of chunk)) =
        λ p h k. reached p (omega (arith, w.past)) k ∙ passes c p need chunk e (omega (arith, w.past)) k in
        rw (loop_searches rest (max need (need_of chunk)) (fitted need best chunk.start) goes, t)
        (ap (λ (p : ℕ). Some (record { place = p; refusal = refusal }))
        (best_of_lem (last_of (λ p. ends p start) (starts_of chunks (stopped refusal))) (leb need chunk.start) chunk.start best))
