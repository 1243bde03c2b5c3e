-- Chunks that are passed one by one: what was found stays, and where nothing was found the first that differs in the rest is found. Assumes nothing.
use Rattle.std.specs.Prelude.{Option, Some, None, Result, Ok, Err}
use Prim.Native.Nat.{ℕ, ◌+◌, ◌≤◌}
use mathlib.Core.Path.{◌≡◌, refl, ap, ◌∙◌}
use mathlib.Core.Bool.{Bool, true, false, cond}
use mathlib.Core.List.{List, [], ◌∷◌, ◌++◌}
use native.Mathlib.Omega.{arith}
use lib.Dec.{ltb}
use borrow.Author.Tests.{ltb-true}
use Rattle.std.specs.Option.{option_or}
use Rattle.refusal.specs.declared.Refusal.{Refusal}
use Rattle.chunk.specs.declared.Chunk.{Chunk}
use Rattle.walk.specs.Walks.{size_of}
use Rattle.film_apart.specs.declared.Stream.{Stream}
use Rattle.film_apart.specs.declared.Parting.{Parting}
use Rattle.film_apart.specs.FilmsApart.{part_in, apart_of, apart_from}
use Rattle.pieces_apart.specs.declared.Passed.{Passed}
use Rattle.pieces_apart.specs.Passing.{added, or_else, parted_in, past, past_all}

abbrev most : ℕ
most = 0xFFFFFFFFFFFFFFFF

abbrev after : ℕ → Result (Option Parting) Refusal → Passed
after bytes parting = record { bytes = bytes; parting = parting }

-- a parting that is there is not asked again
pub kept : (parting other : Result (Option Parting) Refusal) → (parting ≡ Ok None → ⊥) → or_else parting other ≡ parting
kept (Ok None) other h = absurd (h refl)
kept (Ok (Some parting)) other h = refl
kept (Err refusal) other h = refl

-- of two streams that are walked
pub either : (parting other : Option Parting) → or_else (Ok parting) (Ok other) ≡ Ok (option_or parting other)
either None other = refl
either (Some parting) other = refl

module _ (stream : Stream) (codec : Option ℕ) (key key' : ℕ) where
  -- it stays through all chunks
  pub stays : (bytes : ℕ) (parting : Result (Option Parting) Refusal) (chunks : List Chunk) → (parting ≡ Ok None → ⊥) → (past_all stream codec key key' (after bytes parting) chunks).parting ≡ parting
  unfolding past_all
  stays bytes parting [] h = refl
  stays bytes parting (chunk ∷ chunks) h =
      let here = Ok (parted_in stream codec key key' bytes chunk) in
      let k = kept parting here h in
      let next = added bytes (part_in stream chunk.kind chunk.len) in
      ap (λ (p : Result (Option Parting) Refusal). (past_all stream codec key key' (after next p) chunks).parting) k ∙ stays next parting chunks h

  pub in_two : (passed : Passed) (before rest : List Chunk) → past_all stream codec key key' passed (before ++ rest) ≡ past_all stream codec key key' (past_all stream codec key key' passed before) rest
  unfolding past_all
  in_two passed [] rest = refl
  in_two passed (chunk ∷ before) rest = in_two (past stream codec key key' passed chunk) before rest

  -- what is found from here on
  pub found : (bytes : ℕ) (chunks : List Chunk) → bytes + size_of (part_in stream) chunks ≤ most
      → (past_all stream codec key key' (after bytes (Ok None)) chunks).parting ≡ Ok (apart_from stream codec key key' bytes chunks)
  unfolding past_all apart_from size_of
  found bytes [] fit = refl
  found bytes (chunk ∷ chunks) fit =
      by_test (apart_of stream codec key key' chunk) (part_in stream chunk.kind chunk.len) fit (λ n f. found n chunks f)
      (ltb (apart_of stream codec key key' chunk) (part_in stream chunk.kind chunk.len)) refl
    where
      by_test : (first part : ℕ) → bytes + (part + size_of (part_in stream) chunks) ≤ most
          → ((n : ℕ) → n + size_of (part_in stream) chunks ≤ most → (past_all stream codec key key' (after n (Ok None)) chunks).parting ≡ Ok (apart_from stream codec key key' n chunks))
          → (b : Bool) → ltb first part ≡ b
          → (past_all stream codec key key' (after (added bytes part) (Ok (cond b (Some (record { stream = stream; byte = added bytes first; chunk = chunk.start; offset = first })) None))) chunks).parting
          ≡ Ok (cond b (Some (record { stream = stream; byte = bytes + first; chunk = chunk.start; offset = first })) (apart_from stream codec key key' (bytes + part) chunks))
      by_test first part fit later true t =
          let l = ltb-true first part t in
          let byte : added bytes first ≡ bytes + first = omega arith in
          stays (added bytes part) (Ok (Some (record { stream = stream; byte = added bytes first; chunk = chunk.start; offset = first }))) chunks (λ e. let z : ◌≡◌ {A = ℕ} 0 1 = cc in omega arith)
          ∙ ap (λ (n : ℕ). Ok (Some (record { stream = stream; byte = n; chunk = chunk.start; offset = first }))) byte
      by_test first part fit later false t =
          let sum : added bytes part ≡ bytes + part = omega arith in
          ap (λ (n : ℕ). (past_all stream codec key key' (after n (Ok None)) chunks).parting) sum ∙ later (bytes + part) (omega arith)
