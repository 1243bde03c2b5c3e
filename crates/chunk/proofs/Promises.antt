-- The promises of specs/Promises.antt, each under its name: what FoundLaws knows of a chunk that was found; both modes at header size 0x18; and the steps by windows. Assumes nothing.
use Prim.Native.Nat.{ℕ, ◌+◌, ◌-◌, ◌≤◌, ◌<◌}
use mathlib.Core.Path.{◌≡◌, refl, sym, ap, ◌∙◌}
use mathlib.Core.List.{List}
use mathlib.Core.Bool.{Bool, true, false}
use mathlib.Core.Logic.{inl, inr, ⊎_elim}
use native.Mathlib.Omega.{arith}
use lib.ListN.{length, take, drop, length-take, length-drop}
use borrow.Author.Tests.{le-leb}
use Rattle.laws.proofs.Side.{side}
use Rattle.part.specs.Parts.{part_start}
use Rattle.reading.specs.declared.AudioChoice.{AudioChoice}
use Rattle.reading.specs.declared.PayloadMode.{PayloadMode}
use Rattle.reading.specs.declared.PayloadMode.TheVariants.{Original, AfterHeader}
use Rattle.reading.specs.declared.Applied.{Applied}
use Rattle.reading.specs.Choices.{takes_channel}
use Rattle.chunk.specs.declared.Kind.{Kind}
use Rattle.chunk.specs.declared.Kind.TheVariants.{Video, Audio, Other, End}
use Rattle.chunk.specs.declared.Opening.{Opening}
use Rattle.chunk.specs.Openings.{opening_at}
use Rattle.chunk.specs.declared.Chunk.{Chunk}
use Rattle.chunk.specs.Chunks.{is_taken, offset_of, chunk_of, held_at, taken_at, opened_at, chunk_at, PayloadOf}
use Rattle.chunk.specs.Promises as promised
use Rattle.chunk.specs.Promises.{starting_at}
use Rattle.chunk.proofs.FoundLaws.{found, found_taken, found_skipped, refused_there}
use Rattle.chunk.proofs.WindowLaws.{few_left, short, opening_there}

pub PayloadsLieWithin : promised.PayloadsLieWithin
PayloadsLieWithin container reading c chunk e =
    let w = found container reading c chunk e in
    let h : chunk.payload + chunk.len ≤ length container = w.inside in
    (h, rw (le-leb _ _ h) (simp (length-take, length-drop) (omega arith)))

-- ---- where a payload stands

pub PayloadsStandWhere : promised.PayloadsStandWhere
unfolding chunk_of
PayloadsStandWhere container reading c chunk e = (
  λ t.
      let f = found_taken container reading c chunk e t in
      (sym (ap (λ (k : Chunk). k.payload) f.0), omega (arith, ap (λ (k : Chunk). k.len) f.0, f.1)),
  λ t. sym (ap (λ (k : Chunk). k.len) (found_skipped container reading c chunk e t)),
)

pub ReadFromThere : promised.ReadFromThere
ReadFromThere container r reading c chunk p e t =
    let start = ((PayloadsStandWhere container.now reading c chunk e).0 t).0 in
    let inside = (PayloadsLieWithin container.now reading c chunk e).0 in
    let part : PayloadOf container chunk r = rw e at p in
    let here : part_start container.now chunk.payload chunk.len ≡ c + offset_of reading.payloads (opening_at container.now c) =
    rw (le-leb (chunk.payload + chunk.len) (length container.now) inside) start in
    (part.0, part.1 ∙ ap (λ (n : ℕ). n + container.ref_ptr.1) here, part.2)

pub RefusedByThree : promised.RefusedByThree
RefusedByThree container reading c refusal e = refused_there container reading c refusal e

pub NextLiesAfter : promised.NextLiesAfter
NextLiesAfter container reading c chunk e = let w = found container reading c chunk e in (w.start, omega arith)

-- ---- both modes

-- behind a header of 0x18 a payload starts at c + 0x20
behind_0x18 : (container : List ℕ) (mode : PayloadMode) (c : ℕ) (opening : Opening) → opening.header ≡ 0x18 → taken_at (length container) mode c opening ≡ held_at (length container) c opening 0x20
unfolding taken_at
behind_0x18 container Original c opening h = refl
behind_0x18 container AfterHeader c opening h = rw h

module _ (container : List ℕ) (reading other : Applied) (c : ℕ) (same : reading.audio ≡ other.audio) where
  both_take : (kind : Kind) (channel : ℕ) → is_taken reading kind channel ≡ is_taken other kind channel
  both_take Video channel = refl
  both_take Audio channel = ap (λ (choice : AudioChoice). takes_channel choice channel) same
  both_take Other channel = refl
  both_take End channel = refl

  same_opened : (opening : Opening) → (is_taken reading opening.kind opening.channel ≡ true → opening.header ≡ 0x18) → opened_at (length container) reading c opening ≡ opened_at (length container) other c opening
  unfolding opened_at
  same_opened opening h = by_taken (is_taken reading opening.kind opening.channel) refl
    where
      by_taken : (t : Bool) → is_taken reading opening.kind opening.channel ≡ t → opened_at (length container) reading c opening ≡ opened_at (length container) other c opening
      by_taken true e =
          rw (e, sym (both_take opening.kind opening.channel) ∙ e)
          (behind_0x18 container reading.payloads c opening (h e) ∙ sym (behind_0x18 container other.payloads c opening (h e)))
      by_taken false e = rw (e, sym (both_take opening.kind opening.channel) ∙ e)

pub ModesAgree : promised.ModesAgree
unfolding chunk_at
ModesAgree container reading other c same h = rw (same_opened container reading other c same (opening_at container c) h)

module _ (container : List ℕ) (reading other : Applied) (c : ℕ) (chunk chunk' : Chunk) where
  abbrev here : Opening
  here = opening_at container c

  differ_taken : (offset offset' n : ℕ) → chunk_of c here offset n ≡ chunk → chunk_of c here offset' n ≡ chunk' → chunk' ≡ starting_at chunk'.payload chunk
  unfolding chunk_of
  differ_taken offset offset' n e f = rw (← e, ← f)

pub ModesDifferInTheStart : promised.ModesDifferInTheStart
ModesDifferInTheStart container reading other c chunk chunk' same e f = by_taken (is_taken reading (opening_at container c).kind (opening_at container c).channel) refl
  where
    by_taken : (t : Bool) → is_taken reading (opening_at container c).kind (opening_at container c).channel ≡ t → chunk' ≡ starting_at chunk'.payload chunk
    by_taken true t =
        differ_taken container reading other c chunk chunk' _ _ _ (found_taken container reading c chunk e t).0
        (found_taken container other c chunk' f (sym (both_take container reading other c same (opening_at container c).kind (opening_at container c).channel) ∙ t)).0
    by_taken false t =
        differ_taken container reading other c chunk chunk' _ _ _ (found_skipped container reading c chunk e t)
        (found_skipped container other c chunk' f (sym (both_take container reading other c same (opening_at container c).kind (opening_at container c).channel) ∙ t))

-- ---- piece by piece

pub WindowsGiveTheStep : promised.WindowsGiveTheStep
WindowsGiveTheStep container reading c k h = ⊎_elim (few_left container reading c k) (opening_there container reading c k h) (side (length container - c) 45)

pub WindowsNeverMislead : promised.WindowsNeverMislead
WindowsNeverMislead container reading c k =
    ⊎_elim (λ (few : length container - c < 45). inr (few_left container reading c k few))
    (λ (many : 45 ≤ length container - c).
    ⊎_elim (λ (h : k < 45). inl (sym (short (take k (drop c container)) (length container) reading c many (simp (length-take, length-drop) (omega arith)))))
    (λ (h : 45 ≤ k). inr (opening_there container reading c k h many)) (side k 45))
    (side (length container - c) 45)
