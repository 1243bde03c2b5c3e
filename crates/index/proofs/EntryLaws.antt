-- A loop that stores the entry of each video payload: with the entries from here on stored after it, what stands there is the whole index. Assumes nothing.
use Rattle.std.specs.Prelude.{Some, None, Ok, Err}
use Prim.Native.Nat.{ℕ, ◌+◌, ◌≤◌}
use mathlib.Core.Path.{◌≡◌, sym, ap, ◌∙◌}
use mathlib.Core.List.{List, [], ◌∷◌}
use native.Mathlib.Nat.{add-zero, zero-add}
use native.Mathlib.Omega.{arith}
use lib.ListN.{length, length-append}
use lib.Seq.{sets, length-sets}
use Rattle.laws.proofs.SetsLaws.{sets_append}
use Rattle.refusal.specs.declared.Refusal.{Refusal}
use Rattle.reading.specs.declared.Applied.{Applied}
use Rattle.chunk.specs.declared.Kind.{Kind}
use Rattle.chunk.specs.declared.Kind.TheVariants.{Video, Audio, Other, End}
use Rattle.chunk.specs.declared.Chunk.{Chunk}
use Rattle.chunk.specs.Chunks.{chunk_at}
use Rattle.walk.specs.Walks.{walk_from, video_in, size_of, video_size}
use Rattle.walk.proofs.WalkLaws.{sizes_fit, count_fits}
use Rattle.walk.proofs.LoopLaws.{gathered, Loop, loop_starts, loop_goes_on, loop_over, loop_refused}
use Rattle.index.specs.Entries.{of_kind, entry_in, entries_from, entries_of}

-- a chunk gives at most one entry
one_at_most : (kind : Kind) (place start len : ℕ) → length (of_kind kind place start len) ≤ 1
one_at_most Video place start len = omega arith
one_at_most Audio place start len = omega arith
one_at_most Other place start len = omega arith
one_at_most End place start len = omega arith

pub few_entries : (place : ℕ) (chunks : List Chunk) → length (entries_from place chunks) ≤ length chunks
unfolding entries_from
few_entries place [] = omega arith
few_entries place (chunk ∷ chunks) =
    let more = place + video_in chunk.kind chunk.len in
    omega (arith, length-append (entry_in place chunk) (entries_from more chunks), one_at_most chunk.kind place chunk.start chunk.len, few_entries more chunks)

-- how many entries there are, what the list holds, and where the next payload begins in the stream
pub record Entries : Type 0 where
  pub count : ℕ
  pub holds : List (List ℕ)
  pub place : ℕ

abbrev pub entries : ℕ → List (List ℕ) → ℕ → Entries
entries count holds place = record { count = count; holds = holds; place = place }

-- with a chunk more
unfoldable pub entered : Entries → Chunk → Entries
entered s chunk =
    entries (s.count + length (entry_in s.place chunk)) (sets s.holds s.count (entry_in s.place chunk)) (s.place + video_in chunk.kind chunk.len)

all_entered : (s : Entries) (chunks : List Chunk)
    → gathered entered s chunks ≡ entries (s.count + length (entries_from s.place chunks)) (sets s.holds s.count (entries_from s.place chunks)) (s.place + video_size chunks)
unfolding gathered entered entries_from size_of
all_entered s [] = rw (add-zero s.count, add-zero s.place)
all_entered s (chunk ∷ chunks) =
    let t = entered s chunk in
    let first = entry_in s.place chunk in
    let rest = entries_from t.place chunks in
    let n : s.count + length first + length rest ≡ s.count + length (entries_from s.place (chunk ∷ chunks)) = omega (arith, length-append first rest) in
    let p : t.place + video_size chunks ≡ s.place + video_size (chunk ∷ chunks) = omega arith in
    all_entered t chunks ∙ rw (n, p, sets_append s.holds first rest s.count)

module _ (container : List ℕ) (reading : Applied) (start : ℕ) (list : List (List ℕ)) where
  abbrev all : List (List ℕ)
  all = entries_of (walk_from container reading start).chunks

  -- the loop stands at c
  abbrev pub Entering : ℕ → Entries → Type 0
  Entering c s = Loop entered container reading start (entries 0 list 0) c s

  whole_entered : gathered entered (entries 0 list 0) (walk_from container reading start).chunks ≡ entries (length all) (sets list 0 all) (video_size (walk_from container reading start).chunks)
  whole_entered =
      let size = video_size (walk_from container reading start).chunks in
      all_entered (entries 0 list 0) (walk_from container reading start).chunks ∙ rw (zero-add (length all), zero-add size)

  pub entering_starts : Entering start (entries 0 list 0)
  entering_starts = loop_starts entered container reading start (entries 0 list 0)

  module _ (c : ℕ) (s : Entries) (loop : Entering c s) where
    left : entries (s.count + length (entries_from s.place (walk_from container reading c).chunks)) (sets s.holds s.count (entries_from s.place (walk_from container reading c).chunks))
        (s.place + video_size (walk_from container reading c).chunks)
        ≡ entries (length all) (sets list 0 all) (video_size (walk_from container reading start).chunks)
    left = sym (all_entered s (walk_from container reading c).chunks) ∙ loop.whole ∙ whole_entered

    pub entering_fits : (s.count ≤ length container) × (s.place ≤ length container)
    entering_fits =
        omega (
          arith,
          ap (λ (t : Entries). t.count) left,
          ap (λ (t : Entries). t.place) left,
          few_entries 0 (walk_from container reading start).chunks,
          count_fits container reading start,
          sizes_fit container reading start,
        )

    pub entering_length : length s.holds ≡ length list
    entering_length =
        sym (length-sets s.holds s.count (entries_from s.place (walk_from container reading c).chunks)) ∙ ap (λ (t : Entries). length t.holds) left ∙ length-sets list 0 all

    -- where no chunk is found, all are stored
    abbrev Ended : Type 0
    Ended = (s.count ≡ length all) × (s.holds ≡ sets list 0 all)

    ended : s ≡ gathered entered (entries 0 list 0) (walk_from container reading start).chunks → Ended
    ended e = let whole = e ∙ whole_entered in (ap (λ (t : Entries). t.count) whole, ap (λ (t : Entries). t.holds) whole)

    pub entering_over : chunk_at container reading c ≡ Ok None → Ended
    entering_over e = ended (loop_over entered container reading start (entries 0 list 0) c s loop e).0

    pub entering_refused : (refusal : Refusal) → chunk_at container reading c ≡ Err refusal → Ended
    entering_refused refusal e = ended (loop_refused entered container reading start (entries 0 list 0) c s loop refusal e).0

    pub entering_found : (chunk : Chunk) → chunk_at container reading c ≡ Ok (Some chunk) → Entering chunk.next (entered s chunk)
    entering_found chunk e = loop_goes_on entered container reading start (entries 0 list 0) c s loop chunk e
