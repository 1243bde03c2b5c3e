-- The promises of specs/Promises.antt, each under its name: what the search over rising places finds, and what it does not. Assumes nothing.
use Rattle.std.specs.Prelude.{Option, Some, None, Result, Ok, Err}
use Prim.Native.Nat.{ℕ, ◌+◌, ◌-◌, ◌≤◌, ◌<◌}
use mathlib.Core.Logic.{◌⊎◌, inl, inr, ⊎_elim}
use borrow.Author.Tests.{le-leb}
use mathlib.Core.Path.{◌≡◌, refl, sym, ap, ◌∙◌, subst}
use mathlib.Core.List.{List, ◌∷◌, ◌++◌}
use mathlib.Core.Bool.{Bool, true, false}
use native.Mathlib.Omega.{arith}
use lib.ListN.{length, take}
use lib.Seq.{take-length}
use Rattle.refusal.specs.declared.Refusal.{Refusal}
use Rattle.refusal.specs.declared.Cause.TheVariants.{RanOut, TooSmall, ShortHeader, NoBeginning}
use Rattle.refusal.specs.Numbers.{number_of}
use Rattle.reading.specs.declared.PayloadMode.TheVariants.{Original, AfterHeader}
use Rattle.reading.specs.Choices.{applied_to}
use Rattle.part.specs.Parts.{part_at}
use Rattle.chunk.proofs.Promises.{RefusedByThree}
use Rattle.walk.proofs.Promises.{RefusedByAChunk}
use Rattle.chunk.specs.declared.Chunk.{Chunk}
use Rattle.walk.specs.Walks.{Ending, clean, stopped}
use Rattle.header.specs.declared.Header.{Header}
use Rattle.header.specs.Headers.{header_of}
use Rattle.film.specs.Films as films
use Rattle.film.proofs.FilmLaws.{with_header}
use Rattle.salvage.specs.Salvage.{how, is_film, accepted, last_of, starts_of, cut_as, ended_as, walk_of, after_header, salvage_from, salvage_of, kept_in}
use Rattle.salvage.specs.Promises as promised
use Rattle.salvage.specs.declared.Kept.{Kept}
use Rattle.salvage.specs.Promises.{cuts_of}
use Rattle.salvage.proofs.SearchLaws.{Rising, each_within, found_good, found_among, AtLeast, passing_found}
use Rattle.salvage.proofs.StepLaws.{steps_of, starts_rise}
use Rattle.salvage.proofs.CutLaws.{is_clean}
use Rattle.salvage.proofs.SalvageLaws.{accepted_as_walked}

abbrev tried : List ℕ → ℕ → Bool
tried container p = accepted (take p container)

-- ---- what an answer comes from

-- what is kept of a container with this header: all of it, where the walk ends clean; else up to the last place that is accepted
data From (container : List ℕ) (header : Header) : ℕ → ℕ → ℕ → Type 0 where
  whole : (walk_of container header).ending ≡ clean → From container header (length container) 0 0
  cut : (refusal : Refusal) (p : ℕ) → (walk_of container header).ending ≡ stopped refusal → last_of (tried container) (cuts_of container header) ≡ Some p
      → From container header p (length container - p) (number_of refusal.cause)

module _ (container : List ℕ) (header : Header) where
  rise : Rising (length container) header.start (cuts_of container header)
  rise = starts_rise container _ (steps_of container _ header.start)

  module _ (kept dropped cause : ℕ) where
    by_cut : (refusal : Refusal) → (walk_of container header).ending ≡ stopped refusal → (x : Option ℕ) → last_of (tried container) (cuts_of container header) ≡ x
        → cut_as container refusal x ≡ Ok (record { kept = kept; dropped = dropped; cause = cause }) → From container header kept dropped cause
    by_cut refusal f (Some p) g e =
        let same : ◌≡◌ {A = Kept} (record { kept = p; dropped = length container - p; cause = number_of refusal.cause }) (record { kept = kept; dropped = dropped; cause = cause }) = cc in
        subst (λ (k : Kept). From container header k.kept k.dropped k.cause) same (cut refusal p f g)
    by_cut refusal f None g e = let z : ◌≡◌ {A = ℕ} 0 1 = cc in absurd (omega arith)

    by_ending : (ending : Ending) → (walk_of container header).ending ≡ ending → ended_as container (walk_of container header).chunks ending ≡ Ok (record { kept = kept; dropped = dropped; cause = cause })
        → From container header kept dropped cause
    by_ending clean f e =
        let same : ◌≡◌ {A = Kept} (record { kept = length container; dropped = 0; cause = 0 }) (record { kept = kept; dropped = dropped; cause = cause }) = cc in
        subst (λ (k : Kept). From container header k.kept k.dropped k.cause) same (whole f)
    by_ending (stopped refusal) f e = by_cut refusal f (last_of (tried container) (starts_of (walk_of container header).chunks (stopped refusal))) (rw f refl) e

    from_header : salvage_from container header ≡ Ok (record { kept = kept; dropped = dropped; cause = cause }) → From container header kept dropped cause
    unfolding salvage_from
    from_header e = by_ending (walk_of container header).ending refl e

-- an answer that keeps something has a header
record Answered (container : List ℕ) (kept dropped cause : ℕ) : Type 0 where
  pub header : Header
  pub read : header_of container how ≡ Ok header
  pub from : From container header kept dropped cause

answered : (container : List ℕ) (kept dropped cause : ℕ) → salvage_of container ≡ Ok (record { kept = kept; dropped = dropped; cause = cause }) → Answered container kept dropped cause
unfolding salvage_of
answered container kept dropped cause e = by_answer (header_of container how) refl e
  where
    by_answer : (x : Result Header Refusal) → header_of container how ≡ x → after_header (salvage_from container) x ≡ Ok (record { kept = kept; dropped = dropped; cause = cause }) → Answered container kept dropped cause
    by_answer (Ok h) f g = record { header = h; read = f; from = from_header container h kept dropped cause g }
    by_answer (Err refusal) f g = let z : ◌≡◌ {A = ℕ} 0 1 = cc in absurd (omega arith)

-- ---- what is kept

kept_accepted : (container : List ℕ) (header : Header) → header_of container how ≡ Ok header → (kept dropped cause : ℕ) → From container header kept dropped cause → accepted (take kept container) ≡ true
kept_accepted container header read kept dropped cause (whole f) = ap accepted (take-length container) ∙ accepted_as_walked container header read ∙ ap is_clean f
kept_accepted container header read kept dropped cause (cut refusal p f e) = (found_good (tried container) (rise container header) p e).passed

pub KeptIsAccepted : promised.KeptIsAccepted
KeptIsAccepted container kept dropped cause e =
    let a = answered container kept dropped cause e in
    kept_accepted container a.header a.read kept dropped cause a.from

sums : (container : List ℕ) (header : Header) (kept dropped cause : ℕ) → From container header kept dropped cause → kept + dropped ≡ length container
sums container header kept dropped cause (whole f) = omega arith
sums container header kept dropped cause (cut refusal p f e) = omega (arith, (found_good (tried container) (rise container header) p e).within)

pub KeptAndDropped : promised.KeptAndDropped
KeptAndDropped container kept dropped cause e =
    let a = answered container kept dropped cause e in
    sums container a.header kept dropped cause a.from

ends_at : (container : List ℕ) (header : Header) → header_of container how ≡ Ok header → (kept dropped cause : ℕ) → From container header kept dropped cause
    → (kept ≡ length container)
    ⊎ ((h : Header) × ((header_of container how ≡ Ok h) × ((before : List ℕ) × ((after : List ℕ) × (cuts_of container h ≡ before ++ kept ∷ after)))))
ends_at container header read kept dropped cause (whole f) = inl refl
ends_at container header read kept dropped cause (cut refusal p f e) = inr (header, (read, found_among (tried container) (cuts_of container header) p e))

pub KeptEndsAtAChunk : promised.KeptEndsAtAChunk
KeptEndsAtAChunk container kept dropped cause e =
    let a = answered container kept dropped cause e in
    ends_at container a.header a.read kept dropped cause a.from

pub BeginningIsAccepted : promised.BeginningIsAccepted
BeginningIsAccepted container r kept dropped cause b e =
    let within : kept ≤ length container.now = omega (arith, KeptAndDropped container.now kept dropped cause e) in
    let is : kept_in (salvage_of container.now) ≡ kept = ap kept_in e in
    let bytes : r.now ≡ take kept container.now = b.2 ∙ ap (part_at container.now 0) is ∙ rw (le-leb (0 + kept) (length container.now) (omega arith)) in
    (bytes, ap accepted bytes ∙ KeptIsAccepted container.now kept dropped cause e)

-- ---- why it was cut

-- in the original's mode a chunk is refused by 1 or by 9
one_or_nine : (container : List ℕ) (header : Header) (refusal : Refusal) → (walk_of container header).ending ≡ stopped refusal
    → (number_of refusal.cause ≡ 1) ⊎ (number_of refusal.cause ≡ 9)
one_or_nine container header refusal f =
    let applied = applied_to header.audio how in
    let by = (RefusedByThree container applied refusal.place refusal (RefusedByAChunk container applied header.start refusal f)).1 in
    ⊎_elim (λ (q : refusal.cause ≡ RanOut). inl (ap number_of q))
    (λ (s : (refusal.cause ≡ TooSmall) ⊎ ((refusal.cause ≡ ShortHeader) × (Original ≡ AfterHeader))).
    ⊎_elim (λ (q : refusal.cause ≡ TooSmall). inr (ap number_of q))
    (λ (q : (refusal.cause ≡ ShortHeader) × (Original ≡ AfterHeader)). let m = q.1 in let z : ◌≡◌ {A = ℕ} 0 1 = cc in absurd (omega arith)) s) by

why_cut : (container : List ℕ) (header : Header) (kept dropped cause : ℕ) → From container header kept dropped cause
    → ((kept ≡ length container) × (dropped ≡ 0) × (cause ≡ 0)) ⊎ ((cause ≡ 1) ⊎ (cause ≡ 9))
why_cut container header kept dropped cause (whole f) = inl (refl, refl, refl)
why_cut container header kept dropped cause (cut refusal p f e) = inr (one_or_nine container header refusal f)

pub CauseIsOneOrNine : promised.CauseIsOneOrNine
CauseIsOneOrNine container kept dropped cause e =
    let a = answered container kept dropped cause e in
    why_cut container a.header kept dropped cause a.from

-- ---- what is not

-- a place that is accepted, of the walk's, is found, or one past it
not_found : (container : List ℕ) (header : Header) (before : List ℕ) (p : ℕ) (after : List ℕ) → cuts_of container header ≡ before ++ p ∷ after → (x : Option ℕ)
    → last_of (tried container) (cuts_of container header) ≡ x → (AtLeast p x → ⊥) → accepted (take p container) ≡ false
not_found container header before p after s x e never = by_test (tried container p) refl
  where
    by_test : (t : Bool) → tried container p ≡ t → t ≡ false
    by_test true f =
        let there = passing_found (tried container) p after f before (rw s at (rise container header)) in
        absurd (never (rw (← s, e) at there))
    by_test false f = refl

no_longer : (container : List ℕ) (header : Header) (kept dropped cause : ℕ) → From container header kept dropped cause → (before : List ℕ) (p : ℕ) (after : List ℕ)
    → cuts_of container header ≡ before ++ p ∷ after → kept < p → accepted (take p container) ≡ false
no_longer container header kept dropped cause (whole f) before p after s h = absurd (omega (arith, each_within before p after (rw s at (rise container header))))
no_longer container header kept dropped cause (cut refusal q f e) before p after s h = not_found container header before p after s (Some q) e (λ k. omega arith)

pub NoLongerIsAccepted : promised.NoLongerIsAccepted
NoLongerIsAccepted container kept dropped cause header before p after e read s h =
    let a = answered container kept dropped cause e in
    let is : a.header ≡ header = cc in
    no_longer container header kept dropped cause (rw is at a.from) before p after s h

-- ---- what is accepted as a whole, and why not

pub AcceptedComesBackWhole : promised.AcceptedComesBackWhole
unfolding accepted films.film_of salvage_of salvage_from
AcceptedComesBackWhole container e = by_answer (header_of container how) refl e
  where
    by_end : (chunks : List Chunk) (ending : Ending) → is_clean ending ≡ true → ended_as container chunks ending ≡ Ok (record { kept = length container; dropped = 0; cause = 0 })
    by_end chunks clean f = refl
    by_end chunks (stopped refusal) f = let z : ◌≡◌ {A = ℕ} 0 1 = cc in absurd (omega arith)

    by_answer : (x : Result Header Refusal) → header_of container how ≡ x → is_film (films.after_header (films.film_from container how) x) ≡ true
        → after_header (salvage_from container) x ≡ Ok (record { kept = length container; dropped = 0; cause = 0 })
    by_answer (Ok header) f g = by_end (walk_of container header).chunks (walk_of container header).ending (sym (accepted_as_walked container header f) ∙ e)
    by_answer (Err refusal) f g = let z : ◌≡◌ {A = ℕ} 0 1 = cc in absurd (omega arith)

-- the film of a container with this header, by how the walk ended
film_is : (container : List ℕ) (header : Header) → header_of container how ≡ Ok header → (ending : Ending) → (walk_of container header).ending ≡ ending
    → films.film_of container how ≡ films.ended_as header (applied_to header.audio how) (walk_of container header).chunks ending
unfolding films.film_from
film_is container header read ending e = sym (with_header container how header read) ∙ rw e

by_film : (container : List ℕ) (header : Header) → header_of container how ≡ Ok header → (kept dropped cause : ℕ) → From container header kept dropped cause → (refusal : Refusal)
    → films.film_of container how ≡ films.refused refusal → cause ≡ number_of refusal.cause
by_film container header read kept dropped cause (whole f) refusal e = let g = sym (film_is container header read clean f) ∙ e in let z : ◌≡◌ {A = ℕ} 0 1 = cc in absurd (omega arith)
by_film container header read kept dropped cause (cut r p f k) refusal e =
    let g = sym (film_is container header read (stopped r) f) ∙ e in
    let is : r ≡ refusal = cc in
    ap (λ (q : Refusal). number_of q.cause) is

pub CauseIsTheRefusal : promised.CauseIsTheRefusal
CauseIsTheRefusal container refusal kept dropped cause f e =
    let a = answered container kept dropped cause e in
    by_film container a.header a.read kept dropped cause a.from refusal f

pub HeaderIsNotMended : promised.HeaderIsNotMended
unfolding salvage_of
HeaderIsNotMended container refusal e = rw e

module _ (container : List ℕ) (refusal : Refusal) (header : Header) where
  abbrev NoneAccepted : Type 0
  NoneAccepted =
      (refusal ≡ record { cause = NoBeginning; place = 0 })
      × ((before : List ℕ) (p : ℕ) (after : List ℕ) → cuts_of container header ≡ before ++ p ∷ after → accepted (take p container) ≡ false)

  by_none : (r : Refusal) (x : Option ℕ) → last_of (tried container) (cuts_of container header) ≡ x → cut_as container r x ≡ Err refusal → NoneAccepted
  by_none r (Some p) g e = let z : ◌≡◌ {A = ℕ} 0 1 = cc in absurd (omega arith)
  by_none r None g e = (cc, λ before p after s. not_found container header before p after s None g (λ k. k))

  by_walk : (ending : Ending) → (walk_of container header).ending ≡ ending → ended_as container (walk_of container header).chunks ending ≡ Err refusal → NoneAccepted
  by_walk clean f e = let z : ◌≡◌ {A = ℕ} 0 1 = cc in absurd (omega arith)
  by_walk (stopped r) f e = by_none r (last_of (tried container) (starts_of (walk_of container header).chunks (stopped r))) (rw f refl) e

  refused_by_walk : salvage_from container header ≡ Err refusal → NoneAccepted
  unfolding salvage_from
  refused_by_walk e = by_walk (walk_of container header).ending refl e

pub RefusedWhereNoneIsAccepted : promised.RefusedWhereNoneIsAccepted
unfolding salvage_of
RefusedWhereNoneIsAccepted container refusal header e read = refused_by_walk container refusal header (rw read at e)
