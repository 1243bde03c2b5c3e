-- A film's plan, test by test: a law for each answer of the functions that measure and plan. Assumes nothing.
use Rattle.std.specs.Prelude.{Result, Ok, Err}
use Prim.Native.Nat.{ℕ, ◌+◌, ◌-◌, ◌≤◌, ◌<◌}
use Rattle.std.specs.Prelude.{◌++◌, min, max}
use Rattle.std.proofs.Common.{append-nil, length-append}
use Rattle.std.proofs.Math.Seq.{take-append_seam, drop-append_seam}
use mathlib.Core.Path.{◌≡◌, refl, sym, ap, ◌∙◌}
use mathlib.Core.List.{List, [], ◌∷◌}
use mathlib.Core.Bool.{Bool, true, false, not, cond, ◌||◌, ◌&&◌}
use native.Mathlib.Omega.{arith}
use lib.ListN.{length, take, drop, drop_of_length-le, length-drop}
use lib.Seq.{take_all}
use lib.Dec.{ltb}
use borrow.Author.Tests.{lt-ltb, le-ltb, ltb-false}
use Rattle.refusal.specs.declared.Cause.{Cause}
use Rattle.refusal.specs.declared.Refusal.{Refusal}
use Rattle.refusal.specs.declared.Cause.TheVariants.{TooLong, MarkedPayload, CodecAlone}
use Rattle.signature.specs.Signatures.{contents_end, same_bytes, stands_at}
use Rattle.write_plan.specs.declared.Packing.{Packing}
use Rattle.write_plan.specs.Payloads.{payloads_of}
use Rattle.write_plan.specs.Films.{film_bytes}
use Rattle.write_plan.specs.Sizes.{film_size}
use Rattle.write_plan.specs.Planning.{is_given, any_marked, refused_by, within_limit, sized_of, headed_by, marked_by, planned_of}
use Rattle.write_plan.proofs.PayloadLaws.{payloads_none, payloads_more}
use Rattle.write_plan.proofs.LengthLaws.{film_length}
use Rattle.write_plan.proofs.SizeLaws.{sizes_hold}

-- ---- a payload

module _ (stream : List ℕ) (from : ℕ) where
  pub payload_none : length stream ≤ from → ◌≡◌ {A = List ℕ} [] (take 0x10000 (drop from stream))
  payload_none h = rw (drop_of_length-le stream h)

  pub payload_last : length stream - from ≤ 0x10000 → take (length stream - from) (drop from stream) ≡ take 0x10000 (drop from stream)
  payload_last h =
      take_all (length stream - from) (drop from stream) (rw length-drop (omega arith)) ∙ sym (take_all 0x10000 (drop from stream) (rw length-drop (omega arith)))

  pub payload_whole : take (from + 0x10000 - from) (drop from stream) ≡ take 0x10000 (drop from stream)
  payload_whole = let e : from + 0x10000 - from ≡ 0x10000 = omega arith in rw e

-- ---- the marker at the front of a payload

pub marked_here : (stream : List ℕ) → stands_at contents_end (take 0x10000 stream) 0 ≡ true → any_marked (payloads_of stream) ≡ true
unfolding any_marked same_bytes
marked_here [] e = let z : ◌≡◌ {A = ℕ} 0 1 = cc in absurd (omega arith)
marked_here (byte ∷ stream) e = rw (payloads_more (byte ∷ stream) (omega arith), e)

pub unmarked_more : (stream : List ℕ) → stands_at contents_end (take 0x10000 stream) 0 ≡ false → any_marked (payloads_of stream) ≡ any_marked (payloads_of (drop 0x10000 stream))
unfolding any_marked
unmarked_more [] e = refl
unmarked_more (byte ∷ stream) e = rw (payloads_more (byte ∷ stream) (omega arith), e)

pub unmarked_none : (stream : List ℕ) → length stream ≡ 0 → any_marked (payloads_of stream) ≡ false
unfolding any_marked
unmarked_none [] e = rw payloads_none
unmarked_none (byte ∷ stream) e = absurd (omega arith)

-- a piece of n bytes or all, with what is left behind it, is the next payload
pub piece_is : (n : ℕ) (stream piece rest : List ℕ) → n ≡ 0x10000 → stream ≡ piece ++ rest → length piece ≡ min n (length stream)
    → (take 0x10000 stream ≡ piece) × (drop 0x10000 stream ≡ rest)
piece_is n stream piece [] e s h =
    let same : stream ≡ piece = s ∙ append-nil piece in
    let few : length piece ≤ 0x10000 = omega arith in
    (rw same (take_all 0x10000 piece few), rw same (drop_of_length-le piece few))
piece_is n stream piece (byte ∷ rest) e s h =
    let whole : length piece ≡ 0x10000 = omega (arith, ap length s, length-append piece (byte ∷ rest)) in (
      ap (take 0x10000) s ∙ ap (λ (k : ℕ). take k (piece ++ byte ∷ rest)) (sym whole) ∙ take-append_seam piece (byte ∷ rest),
      ap (drop 0x10000) s ∙ ap (λ (k : ℕ). drop k (piece ++ byte ∷ rest)) (sym whole) ∙ drop-append_seam piece (byte ∷ rest),
    )

-- ---- the size

over_limit : (n : ℕ) → 0x40000000 < n → refused_by TooLong ≡ within_limit n
over_limit n h = rw (lt-ltb 0x40000000 n h)

module _ (name video audio : ℕ) (packing : Packing) where
  pub part_over : 0x40000000 < max (max name video) audio → refused_by TooLong ≡ within_limit (film_size name video audio packing)
  part_over h = over_limit (film_size name video audio packing) (omega (arith, sizes_hold name video audio packing))

  module _ (n : ℕ) (e : n ≡ film_size name video audio packing) where
    pub film_over : 0x40000000 < n → refused_by TooLong ≡ within_limit (film_size name video audio packing)
    film_over h = over_limit (film_size name video audio packing) (omega arith)

    pub film_within : n ≤ 0x40000000 → Ok n ≡ within_limit (film_size name video audio packing)
    film_within h = rw (le-ltb 0x40000000 (film_size name video audio packing) (omega arith)) (ap Ok e)

  abbrev alone : Bool
  alone = not packing.audio && is_given packing.audio_codec

  pub sized_alone : alone ≡ true → refused_by CodecAlone ≡ sized_of name video audio packing
  unfolding sized_of
  sized_alone e = rw e

  pub sized_given : alone ≡ false → within_limit (film_size name video audio packing) ≡ sized_of name video audio packing
  unfolding sized_of
  sized_given e = rw e

-- ---- the plan

-- 15 is asked last
asked_last : (alone over marked : Bool) (n : ℕ)
    → cond alone (refused_by CodecAlone) (cond over (refused_by TooLong) (cond marked (refused_by MarkedPayload) (Ok n)))
    ≡ marked_by marked (cond alone (refused_by CodecAlone) (cond over (refused_by TooLong) (Ok n)))
asked_last true over marked n = refl
asked_last false true marked n = refl
asked_last false false marked n = refl

-- what is planned of a film's bytes, by their lengths and by whether a payload is marked
pub planned_by : (name video audio : List ℕ) (packing : Packing)
    → planned_of name video audio packing
    ≡ marked_by (any_marked (payloads_of video) || any_marked (payloads_of audio)) (sized_of (length name) (length video) (length audio) packing)
unfolding planned_of sized_of
planned_by name video audio packing =
    rw (film_length name video audio packing)
    (asked_last (not packing.audio && is_given packing.audio_codec) (ltb 0x40000000 (film_size (length name) (length video) (length audio) packing))
    (any_marked (payloads_of video) || any_marked (payloads_of audio)) (film_size (length name) (length video) (length audio) packing))

module _ (name video audio : List ℕ) (packing : Packing) (planned : Result ℕ Refusal) (e : planned ≡ sized_of (length name) (length video) (length audio) packing) where
  by_marks : (marked : Bool) → (any_marked (payloads_of video) || any_marked (payloads_of audio)) ≡ marked → marked_by marked planned ≡ planned_of name video audio packing
  by_marks marked m = sym (planned_by name video audio packing ∙ rw (m, e))

  pub plan_refused : (refusal : Refusal) → planned ≡ Err refusal → Err refusal ≡ planned_of name video audio packing
  plan_refused refusal f = rw (← by_marks _ refl, f)

  module _ (n : ℕ) (f : planned ≡ Ok n) where
    pub plan_marked : (any_marked (payloads_of video) || any_marked (payloads_of audio)) ≡ true → refused_by MarkedPayload ≡ planned_of name video audio packing
    plan_marked m = rw (← by_marks true m, f)

    pub plan_size : any_marked (payloads_of video) ≡ false → any_marked (payloads_of audio) ≡ false → Ok n ≡ planned_of name video audio packing
    plan_size v a = rw (← by_marks false (rw (v, a)), f)

-- ---- a header that is planned

tested : (t : Bool) (cause : Cause) (p : Result ℕ Refusal) (n : ℕ) → cond t (refused_by cause) p ≡ Ok n → (t ≡ false) × (p ≡ Ok n)
tested true cause p n e = let z : ◌≡◌ {A = ℕ} 0 1 = cc in absurd (omega arith)
tested false cause p n e = (refl, e)

-- the size that is planned
abbrev film_in : Result ℕ Refusal → ℕ
film_in (Ok n) = n
film_in (Err refusal) = 0

-- its film is within the limit, and so is its name
pub sized_fits : (name video audio : ℕ) (packing : Packing) (n : ℕ) → sized_of name video audio packing ≡ Ok n → name ≤ 0x40000000
unfolding sized_of
sized_fits name video audio packing n e =
    let film = film_size name video audio packing in
    let a = tested (not packing.audio && is_given packing.audio_codec) CodecAlone _ n e in
    let b = tested (ltb 0x40000000 film) TooLong _ n a.1 in
    omega (arith, ltb-false 0x40000000 film b.0, sizes_hold name video audio packing)

pub headed_so : (size : ℕ) (planned : Result ℕ Refusal) (n : ℕ) → headed_by size planned ≡ Ok n → (planned ≡ Ok (film_in planned)) × (size ≡ n)
headed_so size (Ok film) n e = (refl, cc)
headed_so size (Err refusal) n e = let z : ◌≡◌ {A = ℕ} 0 1 = cc in absurd (omega arith)

-- ---- a film that is planned

-- its size is its length, and within the limit; no payload begins with the marker, and no codec is alone
pub record Accepted (name video audio : List ℕ) (packing : Packing) (n : ℕ) : Type 0 where
  pub given : (not packing.audio && is_given packing.audio_codec) ≡ false
  pub within : length (film_bytes name video audio packing) ≤ 0x40000000
  pub unmarked : (any_marked (payloads_of video) || any_marked (payloads_of audio)) ≡ false
  pub sized : n ≡ length (film_bytes name video audio packing)

pub accepted : (name video audio : List ℕ) (packing : Packing) (n : ℕ) → planned_of name video audio packing ≡ Ok n → Accepted name video audio packing n
unfolding planned_of
accepted name video audio packing n e =
    let film = length (film_bytes name video audio packing) in
    let a = tested (not packing.audio && is_given packing.audio_codec) CodecAlone _ n e in
    let b = tested (ltb 0x40000000 film) TooLong _ n a.1 in
    let c = tested (any_marked (payloads_of video) || any_marked (payloads_of audio)) MarkedPayload _ n b.1 in
    let s : film ≡ n = cc c.1 in
    record { given = a.0; within = ltb-false 0x40000000 film b.0; unmarked = c.0; sized = sym s }
