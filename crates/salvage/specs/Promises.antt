-- What request 12 promises, over the contract of `salvage::salvage`. Each is proved under the same name in proofs/Promises.antt.
use Rattle.std.specs.Prelude.{ℕ, ◌+◌, ◌<◌, ◌≡◌, List, ◌∷◌, ◌++◌, true, false, ◌⊎◌, length, take, Ok, Err}
use Rattle.std.specs.Borrow.{Bor}
use Rattle.refusal.specs.declared.Refusal.{Refusal}
use Rattle.refusal.specs.declared.Cause.TheVariants.{NoBeginning}
use Rattle.refusal.specs.Numbers.{number_of}
use Rattle.header.specs.declared.Header.{Header}
use Rattle.header.specs.Headers.{header_of}
use Rattle.film.specs.Films.{refused, film_of}
use Rattle.salvage.specs.Salvage.{how, accepted, starts_of, walk_of, salvage_of, BeginningOf}

-- the chunk starts of the walk, "a cut chunk's start included"
abbrev pub cuts_of : List ℕ → Header → List ℕ
cuts_of container header = starts_of (walk_of container header).chunks (walk_of container header).ending

-- The beginning that is kept is accepted.
abbrev pub KeptIsAccepted : Type 0
KeptIsAccepted = (container : List ℕ) (kept dropped cause : ℕ) → salvage_of container ≡ Ok (record { kept = kept; dropped = dropped; cause = cause }) → accepted (take kept container) ≡ true

-- No longer one that ends at a chunk start of the walk is.
abbrev pub NoLongerIsAccepted : Type 0
NoLongerIsAccepted =
    (container : List ℕ) (kept dropped cause : ℕ) (header : Header) (before : List ℕ) (p : ℕ) (after : List ℕ) → salvage_of container ≡ Ok (record { kept = kept; dropped = dropped; cause = cause })
    → header_of container how ≡ Ok header → cuts_of container header ≡ before ++ p ∷ after → kept < p → accepted (take p container) ≡ false

-- "among those ending at a chunk start of the walk, a cut chunk's start included": what is kept is the whole container, or ends at such a start.
abbrev pub KeptEndsAtAChunk : Type 0
KeptEndsAtAChunk =
    (container : List ℕ) (kept dropped cause : ℕ) → salvage_of container ≡ Ok (record { kept = kept; dropped = dropped; cause = cause })
    → (kept ≡ length container)
    ⊎ ((header : Header) × ((header_of container how ≡ Ok header) × ((before : List ℕ) × ((after : List ℕ) × (cuts_of container header ≡ before ++ kept ∷ after)))))

-- "the number of the refusal that caused the cut": nothing was cut and it is 0, or it is 1 or 9.
abbrev pub CauseIsOneOrNine : Type 0
CauseIsOneOrNine =
    (container : List ℕ) (kept dropped cause : ℕ) → salvage_of container ≡ Ok (record { kept = kept; dropped = dropped; cause = cause })
    → ((kept ≡ length container) × (dropped ≡ 0) × (cause ≡ 0)) ⊎ ((cause ≡ 1) ⊎ (cause ≡ 9))

-- The part that is handed out is that beginning, byte for byte, and is accepted.
abbrev pub BeginningIsAccepted : Type 0
BeginningIsAccepted =
    (container r : Bor (List ℕ)) (kept dropped cause : ℕ) → BeginningOf container r → salvage_of container.now ≡ Ok (record { kept = kept; dropped = dropped; cause = cause })
    → (r.now ≡ take kept container.now) × (accepted r.now ≡ true)

-- What is kept and what is dropped is the container.
abbrev pub KeptAndDropped : Type 0
KeptAndDropped = (container : List ℕ) (kept dropped cause : ℕ) → salvage_of container ≡ Ok (record { kept = kept; dropped = dropped; cause = cause }) → kept + dropped ≡ length container

-- "an accepted container comes back whole, with 0 dropped and 0 for the refusal"
abbrev pub AcceptedComesBackWhole : Type 0
AcceptedComesBackWhole = (container : List ℕ) → accepted container ≡ true → salvage_of container ≡ Ok (record { kept = length container; dropped = 0; cause = 0 })

-- Of another the cause is its refusal.
abbrev pub CauseIsTheRefusal : Type 0
CauseIsTheRefusal =
    (container : List ℕ) (refusal : Refusal) (kept dropped cause : ℕ) → film_of container how ≡ refused refusal → salvage_of container ≡ Ok (record { kept = kept; dropped = dropped; cause = cause })
    → cause ≡ number_of refusal.cause

-- "11 first, then the header's own"
abbrev pub HeaderIsNotMended : Type 0
HeaderIsNotMended = (container : List ℕ) (refusal : Refusal) → header_of container how ≡ Err refusal → salvage_of container ≡ Err refusal

-- "then 21 when no such beginning is accepted": where the header is read, nothing else is refused, and then none is accepted
abbrev pub RefusedWhereNoneIsAccepted : Type 0
RefusedWhereNoneIsAccepted =
    (container : List ℕ) (refusal : Refusal) (header : Header) → salvage_of container ≡ Err refusal → header_of container how ≡ Ok header
    → (refusal ≡ record { cause = NoBeginning; place = 0 })
    × ((before : List ℕ) (p : ℕ) (after : List ℕ) → cuts_of container header ≡ before ++ p ∷ after → accepted (take p container) ≡ false)
