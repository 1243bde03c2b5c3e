-- What is kept. A cut is accepted exactly when the header can be read in it and its walk ends clean; the header can be read in every longer cut too,
-- so one reading of it suffices, in the last cut whose walk ends clean. Assumes nothing.
use Prim.Native.Nat.{ℕ, ◌+◌, ◌≤◌}
use mathlib.Core.Path.{◌≡◌, refl, sym, ap, ◌∙◌}
use mathlib.Core.List.{List, [], ◌∷◌}
use mathlib.Core.Bool.{Bool, true, false, cond, ◌&&◌}
use native.Mathlib.Omega.{arith}
use lib.ListN.{length, take, length-take}
use lib.Seq.{take-take}
use lib.Dec.{ltb}
use borrow.Author.Tests.{le-leb, ltb-false}
use Rattle.refusal.specs.declared.Cause.TheVariants.{TooLong}
use Rattle.refusal.specs.declared.Refusal.{Refusal}
use Rattle.reading.specs.declared.Applied.{Applied}
use Rattle.reading.specs.Choices.{applied_to}
use Rattle.part.specs.Parts.{part_at}
use Rattle.chunk.specs.declared.Chunk.{Chunk}
use Rattle.walk.specs.Walks.{Walk, Ending, clean, stopped, walk_from}
use Rattle.header.specs.declared.Header.{Header}
use Rattle.header.specs.Headers.{refused, step1, header_of}
use Rattle.film.specs.Films as films
use Rattle.chunk.proofs.FoundLaws.{found}
use Rattle.laws_prefix.proofs.ChunkLaws.{refused_there}
use Rattle.laws_prefix.proofs.Promises.{HeaderOfABeginning}
use Rattle.salvage.specs.Salvage.{how, is_film, accepted, last_of, starts_of, cut_as, ended_as, walk_of, salvage_from}
use Rattle.std.proofs.Common.{max, Option, Some, None, Result, Ok, Err}
use Rattle.laws_prefix.specs.Needs.{need_of}
use Rattle.salvage.specs.declared.Cut.{Cut}
use Rattle.salvage.specs.Fits.{fitted, fit_from, fit_in, if_read}
use Rattle.salvage.proofs.SearchLaws.{Rising, found_good, best_of, first_found, same_search, if_passes, both_searched}
use Rattle.salvage.proofs.StepLaws.{Steps, stop, step, steps_of, starts_rise}
use Rattle.salvage.proofs.CutLaws.{is_clean, ends, ends_here, loop_searches}

-- ---- the header of a cut

abbrev is_read : Result Header Refusal → Bool
is_read (Ok header) = true
is_read (Err refusal) = false

-- a container with a header is not too long
pub not_too_long : (s : List ℕ) (header : Header) → header_of s how ≡ Ok header → length s ≤ 0x40000000
unfolding header_of
not_too_long s header e = ltb-false 0x40000000 (length s) (by_test (ltb 0x40000000 (length s)) e)
  where
    by_test : (t : Bool) → cond t (refused 0 TooLong) (step1 s how) ≡ Ok header → t ≡ false
    by_test true f = let z : ◌≡◌ {A = ℕ} 0 1 = cc in absurd (omega arith)
    by_test false f = refl

module _ (s : List ℕ) (header : Header) (read : header_of s how ≡ Ok header) where
  abbrev reads : ℕ → Bool
  reads p = is_read (header_of (take p s) how)

  few : length s ≤ 0x40000000
  few = not_too_long s header read

  by_answer : (p q : ℕ) → p ≤ q → (x : Result Header Refusal) → header_of (take p s) how ≡ x → is_read x ≡ true → reads q ≡ true
  by_answer p q h (Ok g) e t =
      let f = ap (λ (bytes : List ℕ). header_of bytes how) (take-take p q s h) ∙ e in
      ap is_read (HeaderOfABeginning (take q s) p how g (simp length-take (omega (arith, few))) f)
  by_answer p q h (Err refusal) e t = let z : ◌≡◌ {A = ℕ} 0 1 = cc in absurd (omega arith)

  -- what a cut can be read in, every longer one can
  grows : (p q : ℕ) → p ≤ q → reads p ≡ true → reads q ≡ true
  grows p q h t = by_answer p q h (header_of (take p s) how) refl t

  -- ---- a cut that is accepted

  abbrev applied : Applied
  applied = applied_to header.audio how

  abbrev walks : ℕ → Bool
  walks p = ends s applied p header.start

  film_ended : (g : Header) (a : Applied) (chunks : List Chunk) (ending : Ending) → is_film (films.ended_as g a chunks ending) ≡ is_clean ending
  film_ended g a chunks clean = refl
  film_ended g a chunks (stopped refusal) = refl

  by_header : (p : ℕ) (x : Result Header Refusal) → header_of (take p s) how ≡ x → is_film (films.after_header (films.film_from (take p s) how) x) ≡ (is_read x && walks p)
  unfolding films.film_from
  by_header p (Ok g) e =
      let f = HeaderOfABeginning s p how g few e in
      let is : g ≡ header = cc in
      let w = walk_from (take p s) applied header.start in
      rw is (film_ended header applied w.chunks w.ending)
  by_header p (Err refusal) e = refl

  -- a container as a whole
  pub accepted_as_walked : accepted s ≡ is_clean (walk_of s header).ending
  unfolding accepted films.film_of films.film_from
  accepted_as_walked = rw read (film_ended header applied (walk_of s header).chunks (walk_of s header).ending)

  accepted_cut : (p : ℕ) → accepted (take p s) ≡ (reads p && walks p)
  unfolding accepted films.film_of
  accepted_cut p = by_header p (header_of (take p s) how) refl

  -- ---- the longest one

  abbrev walk : Walk
  walk = walk_of s header

  module _ (refusal : Refusal) (stops : walk.ending ≡ stopped refusal) where
    abbrev starts : List ℕ
    starts = starts_of walk.chunks (stopped refusal)

    -- the last cut whose walk ends clean
    abbrev last : Option ℕ
    last = last_of walks starts

    steps : Steps s applied header.start walk.chunks (stopped refusal)
    steps = rw stops at (steps_of s applied header.start)

    rise : Rising (length s) header.start starts
    rise = starts_rise s applied steps

    looped : fit_in 0 header.start walk ≡ Some (record { place = best_of last header.start; refusal = refusal })
    looped = rw stops (loop_searches s applied header.start refusal steps 0 header.start (λ p h k. rw (le-leb 0 p (omega arith))))

    -- the first chunk start is such a cut, so there is one
    first_walks : (p : ℕ) → p ≡ header.start → p ≤ length s → walks p ≡ true
    first_walks p e h = rw (sym e) (ends_here s applied p h)

    by_steps : {chunks : List Chunk} → Steps s applied header.start chunks (stopped refusal)
        → last_of walks (starts_of chunks (stopped refusal)) ≡ Some (best_of (last_of walks (starts_of chunks (stopped refusal))) header.start)
    unfolding starts_of
    by_steps (stop e) =
        let w = refused_there s applied header.start refusal e in
        first_found walks refusal.place [] header.start (first_walks refusal.place w.0 (omega (arith, w.0, w.1)))
    by_steps (step {c} {chunk} {chunks} {ending} e rest) =
        let w = found s applied header.start chunk e in
        first_found walks chunk.start (starts_of chunks (stopped refusal)) header.start (first_walks chunk.start w.start (omega (arith, w.start, w.whole)))

    there_is : last ≡ Some (best_of last header.start)
    there_is = by_steps steps

    -- one reading of the header decides
    if_read_lem : (p : ℕ) (x : Result Header Refusal) → cond (is_read x) (Some p) None ≡ if_read p x
    if_read_lem p (Ok g) = refl
    if_read_lem p (Err r) = refl

    whole_part : (p : ℕ) → p ≤ length s → part_at s 0 p ≡ take p s
    whole_part p h = let g : 0 + p ≤ length s = omega arith in rw (le-leb (0 + p) (length s) g)

    longest : (p : ℕ) → best_of last header.start ≡ p → last_of (λ p. accepted (take p s)) starts ≡ if_read p (header_of (part_at s 0 p) how)
    longest p e =
        let f : last ≡ Some p = there_is ∙ ap Some e in
        let good = found_good walks rise p f in
        same_search (λ p. accepted (take p s)) (λ p. reads p && walks p) accepted_cut starts
        ∙ both_searched walks reads grows rise
        ∙ ap (if_passes reads) f
        ∙ if_read_lem p (header_of (take p s) how)
        ∙ ap (λ (bytes : List ℕ). if_read p (header_of bytes how)) (sym (whole_part p good.within))

  -- ---- the answer by what the loop found

  fit_clean : (need best : ℕ) (chunks : List Chunk) → fit_from need best chunks clean ≡ None
  unfolding fit_from
  fit_clean need best [] = refl
  fit_clean need best (chunk ∷ chunks) = fit_clean (max need (need_of chunk)) (fitted need best chunk.start) chunks

  by_ending_cut : (cut : Cut) → fit_in 0 header.start walk ≡ Some cut → (ending : Ending) → walk.ending ≡ ending
      → cut_as s cut.refusal (if_read cut.place (header_of (part_at s 0 cut.place) how)) ≡ ended_as s walk.chunks ending
  by_ending_cut cut e clean f =
      let g : None ≡ Some cut = sym (fit_clean 0 header.start walk.chunks) ∙ (rw f at e) in
      let z : ◌≡◌ {A = ℕ} 0 1 = cc in
      absurd (omega arith)
  by_ending_cut cut e (stopped r) f =
      let g = sym (looped r f) ∙ e in
      let same : ◌≡◌ {A = Cut} (record { place = best_of (last r f) header.start; refusal = r }) cut = cc in
      let why = ap (λ (c : Cut). c.refusal) same in
      rw (← why, ← longest r f cut.place (ap (λ (c : Cut). c.place) same))

  pub kept_cut : (cut : Cut) → fit_in 0 header.start walk ≡ Some cut → cut_as s cut.refusal (if_read cut.place (header_of (part_at s 0 cut.place) how)) ≡ salvage_from s header
  unfolding salvage_from
  kept_cut cut e = by_ending_cut cut e walk.ending refl

  by_ending_whole : fit_in 0 header.start walk ≡ None → (ending : Ending) → walk.ending ≡ ending → Ok (record { kept = length s; dropped = 0; cause = 0 }) ≡ ended_as s walk.chunks ending
  by_ending_whole e clean f = refl
  by_ending_whole e (stopped r) f =
      let g = sym (looped r f) ∙ e in
      let z : ◌≡◌ {A = ℕ} 0 1 = cc in
      absurd (omega arith)

  pub kept_whole : fit_in 0 header.start walk ≡ None → Ok (record { kept = length s; dropped = 0; cause = 0 }) ≡ salvage_from s header
  unfolding salvage_from
  kept_whole e = by_ending_whole e walk.ending refl
