-- A loop that puts what each chunk gives into an output, each piece where the one before ends: when it is over, all pieces stand there, one after the
-- other. The pieces are lists of any type. Assumes nothing.
use Rattle.std.proofs.Common.{◌≡◌, ℕ, ◌+◌, ◌≤◌, List, [], ◌∷◌, length, sym, ap, ◌∙◌, add-zero, zero-add, arith, length-append, Some, None, Ok, Err}
use lib.Seq.{sets, length-sets}
use Rattle.laws.proofs.SetsLaws.{sets_append}
use Rattle.refusal.specs.declared.Refusal.{Refusal}
use Rattle.reading.specs.declared.Applied.{Applied}
use Rattle.chunk.specs.declared.Chunk.{Chunk}
use Rattle.chunk.specs.Chunks.{chunk_at}
use Rattle.walk.specs.Walks.{walk_from, joined}
use Rattle.walk.proofs.WalkLaws.{walk_found}
use Rattle.walk.proofs.LoopLaws.{gathered, Loop, loop_starts, loop_goes_on, loop_over, loop_refused}

-- what an output holds, and where the next piece begins
pub record Output (A : Type 0) : Type 0 where
  pub end : ℕ
  pub holds : List A

abbrev pub output : {A : Type 0} → ℕ → List A → Output A
output end holds = record { end = end; holds = holds }

module _ {A : Type 0} (piece : Chunk → List A) where
  -- with the piece of a chunk more
  unfoldable pub put : Output A → Chunk → Output A
  put o chunk = output (o.end + length (piece chunk)) (sets o.holds o.end (piece chunk))

  all_put : (o : Output A) (chunks : List Chunk) → gathered put o chunks ≡ output (o.end + length (joined piece chunks)) (sets o.holds o.end (joined piece chunks))
  unfolding gathered put joined
  all_put o [] = rw (add-zero o.end)
  all_put o (chunk ∷ chunks) =
      let p = piece chunk in
      let r = joined piece chunks in
      let n : o.end + length p + length r ≡ o.end + length (joined piece (chunk ∷ chunks)) = omega (arith, length-append p r) in
      all_put (put o chunk) chunks ∙ rw (n, sets_append o.holds p r o.end)

  module _ (container : List ℕ) (reading : Applied) (start : ℕ) (out₀ : List A) where
    abbrev all : List A
    all = joined piece (walk_from container reading start).chunks

    -- the loop stands at c: its output is out, and the next piece goes to `end`
    abbrev pub Putting : ℕ → ℕ → List A → Type 0
    Putting c end out = Loop put container reading start (output 0 out₀) c (output end out)

    whole_put : gathered put (output 0 out₀) (walk_from container reading start).chunks ≡ output (length all) (sets out₀ 0 all)
    whole_put = all_put (output 0 out₀) (walk_from container reading start).chunks ∙ rw (zero-add (length all))

    pub put_starts : Putting start 0 out₀
    put_starts = loop_starts put container reading start (output 0 out₀)

    module _ (c end : ℕ) (out : List A) (loop : Putting c end out) where
      abbrev rest : List A
      rest = joined piece (walk_from container reading c).chunks

      left : output (end + length rest) (sets out end rest) ≡ output (length all) (sets out₀ 0 all)
      left = sym (all_put (output end out) (walk_from container reading c).chunks) ∙ loop.whole ∙ whole_put

      pub put-length : length out ≡ length out₀
      put-length = sym (length-sets out end rest) ∙ ap (λ (o : Output A). length o.holds) left ∙ length-sets out₀ 0 all

      pub put-over : chunk_at container reading c ≡ Ok None → output end out ≡ output (length all) (sets out₀ 0 all)
      put-over e = (loop_over put container reading start (output 0 out₀) c (output end out) loop e).0 ∙ whole_put

      pub put_refused : (refusal : Refusal) → chunk_at container reading c ≡ Err refusal → output end out ≡ output (length all) (sets out₀ 0 all)
      put_refused refusal e = (loop_refused put container reading start (output 0 out₀) c (output end out) loop refusal e).0 ∙ whole_put

      module _ (chunk : Chunk) (e : chunk_at container reading c ≡ Ok (Some chunk)) where
        -- the piece ends no further than all pieces do
        pub put-fits : end + length (piece chunk) ≤ length all
        unfolding joined
        put-fits =
            let r : rest ≡ joined piece (chunk ∷ (walk_from container reading chunk.next).chunks) = rw (walk_found container reading c chunk e) in
            omega (arith, ap (λ (o : Output A). o.end) left, simp length-append at (ap length r))

        pub put-found : (end' : ℕ) (out' : List A) → end' ≡ end + length (piece chunk) → out' ≡ sets out end (piece chunk) → Putting chunk.next end' out'
        unfolding put
        put-found end' out' f h = rw (f, h) (loop_goes_on put container reading start (output 0 out₀) c (output end out) loop chunk e)
