-- A chunk that is found in s with more behind it is found in s, if s holds what the chunk needs; if not, its bytes run out there. Assumes nothing.
use Rattle.std.specs.Prelude.{Option, Some, None, Result, Ok, Err}
use Prim.Native.Nat.{ℕ, ◌+◌, ◌-◌, ◌≤◌, ◌<◌}
use mathlib.Core.Path.{◌≡◌, refl, sym, ap, ◌∙◌}
use mathlib.Core.List.{List, ◌++◌}
use mathlib.Core.Bool.{Bool, true, false, cond}
use mathlib.Core.Logic.{⊎_elim}
use native.Mathlib.Omega.{arith}
use lib.ListN.{length}
use lib.Dec.{ltb}
use borrow.Author.Tests.{lt-ltb, le-ltb}
use Rattle.laws.proofs.Side.{side}
use Rattle.refusal.specs.declared.Cause.{Cause}
use Rattle.refusal.specs.declared.Cause.TheVariants.{RanOut, TooSmall, ShortHeader}
use Rattle.refusal.specs.declared.Refusal.{Refusal}
use Rattle.reading.specs.declared.PayloadMode.{PayloadMode}
use Rattle.reading.specs.declared.Applied.{Applied}
use Rattle.chunk.specs.declared.Opening.{Opening}
use Rattle.chunk.specs.declared.Chunk.{Chunk}
use Rattle.chunk.specs.Openings.{opening_at}
use Rattle.chunk.specs.Chunks.{is_taken, offset_of, is_short, chunk_of, refused_at, held_at, taken_at, opened_at, chunk_at}
use Rattle.chunk.proofs.CaseLaws.{over, cut, opened}
use Rattle.chunk.proofs.FoundLaws.{not_refused, found}
use Rattle.chunk.proofs.OpeningLaws.{same_opening}
use Rattle.laws_prefix.specs.Needs.{need_of}
use Rattle.laws_prefix.proofs.ByteLaws.{longer, taken_kept}

-- whether the payload of the chunk of an opening is taken
abbrev takes : Applied → Opening → Bool
takes reading opening = is_taken reading opening.kind opening.channel

module _ (s more : List ℕ) (c : ℕ) where
  opening_kept : c + 45 ≤ length s → opening_at (s ++ more) c ≡ opening_at s c
  opening_kept h =
      sym (same_opening (s ++ more) c 45 (omega arith) (omega (arith, longer s more))) ∙ ap (λ (bytes : List ℕ). opening_at bytes 0) (taken_kept s more c 45 h) ∙ same_opening s c 45 (omega arith) h

  -- ---- its payload, taken or skipped

  module _ (chunk : Chunk) (opening : Opening) where
    abbrev size : ℕ
    size = opening.block - (opening.header + opening.footer)

    -- a payload that is held with more behind s: not too small, present, and of this chunk
    held : (offset : ℕ) → held_at (length (s ++ more)) c opening offset ≡ Ok (Some chunk)
        → (ltb opening.block (opening.header + opening.footer) ≡ false) × (chunk_of c opening offset size ≡ chunk)
    unfolding held_at
    held offset e =
        let a = not_refused (ltb opening.block (opening.header + opening.footer)) c TooSmall chunk _ e in
        let b = not_refused (ltb (length (s ++ more)) (c + offset + size)) c RanOut chunk _ a.1 in
        (a.0, cc)

    -- where the payload of a chunk that was made ends
    ends_there : (offset n : ℕ) → chunk_of c opening offset n ≡ chunk → c + offset + n ≡ chunk.payload + chunk.len
    unfolding chunk_of
    ends_there offset n e = ap (λ (made : Chunk). made.payload + made.len) e

    held_kept : (offset : ℕ) → held_at (length (s ++ more)) c opening offset ≡ Ok (Some chunk) → chunk.payload + chunk.len ≤ length s → held_at (length s) c opening offset ≡ Ok (Some chunk)
    unfolding held_at
    held_kept offset e h =
        let a = held offset e in
        rw (a.0, le-ltb (length s) (c + offset + size) (omega (arith, ends_there offset size a.1))) (ap (λ (x : Chunk). Ok (Some x)) a.1)

    held_cut : (offset : ℕ) → held_at (length (s ++ more)) c opening offset ≡ Ok (Some chunk) → length s < chunk.payload + chunk.len → held_at (length s) c opening offset ≡ refused_at c RanOut
    unfolding held_at
    held_cut offset e h =
        let a = held offset e in
        rw (a.0, lt-ltb (length s) (c + offset + size) (omega (arith, ends_there offset size a.1)))

    -- t: it is taken
    module _ (mode : PayloadMode) where
      kept_by : (t : Bool) → cond t (taken_at (length (s ++ more)) mode c opening) (Ok (Some (chunk_of c opening 0x20 0))) ≡ Ok (Some chunk) → chunk.payload + chunk.len ≤ length s
          → cond t (taken_at (length s) mode c opening) (Ok (Some (chunk_of c opening 0x20 0))) ≡ Ok (Some chunk)
      unfolding taken_at
      kept_by true e h =
          let a = not_refused (is_short mode opening) c ShortHeader chunk _ e in
          rw a.0 (held_kept (offset_of mode opening) a.1 h)
      kept_by false e h = e

      cut_by : c + 45 ≤ length s → (t : Bool) → cond t (taken_at (length (s ++ more)) mode c opening) (Ok (Some (chunk_of c opening 0x20 0))) ≡ Ok (Some chunk) → length s < chunk.payload + chunk.len
          → cond t (taken_at (length s) mode c opening) (Ok (Some (chunk_of c opening 0x20 0))) ≡ refused_at c RanOut
      unfolding taken_at
      cut_by whole true e h =
          let a = not_refused (is_short mode opening) c ShortHeader chunk _ e in
          rw a.0 (held_cut (offset_of mode opening) a.1 h)
      cut_by whole false e h =
          let is : chunk_of c opening 0x20 0 ≡ chunk = cc in
          absurd (omega (arith, ends_there 0x20 0 is))

  -- ---- the chunk

  module _ (chunk : Chunk) (reading : Applied) (e : chunk_at (s ++ more) reading c ≡ Ok (Some chunk)) where
    by_opening : c + 45 ≤ length s → opened_at (length (s ++ more)) reading c (opening_at s c) ≡ Ok (Some chunk)
    by_opening h =
        let n = longer s more in
        ap (opened_at (length (s ++ more)) reading c) (sym (opening_kept h)) ∙ opened (s ++ more) reading c (omega arith) ∙ e

    starts : chunk.start ≡ c
    starts = (found (s ++ more) reading c chunk e).start

    pub chunk_kept : need_of chunk ≤ length s → chunk_at s reading c ≡ Ok (Some chunk)
    unfolding opened_at
    chunk_kept h =
        let whole : c + 45 ≤ length s = omega (arith, starts) in
        sym (opened s reading c (omega arith)) ∙ kept_by chunk (opening_at s c) reading.payloads (takes reading (opening_at s c)) (by_opening whole) (omega arith)

    pub chunk_cut : c + 4 ≤ length s → length s < need_of chunk → chunk_at s reading c ≡ refused_at c RanOut
    unfolding opened_at
    chunk_cut four h =
        ⊎_elim
        (λ (g : length s < c + 45). sym (cut s reading c (omega arith) (omega arith)))
        (λ (g : c + 45 ≤ length s).
        sym (opened s reading c (omega arith)) ∙ cut_by chunk (opening_at s c) reading.payloads g (takes reading (opening_at s c)) (by_opening g) (omega (arith, starts)))
        (side (length s) (c + 45))

-- ---- a chunk that is refused

-- a step that refuses, if it does, at c
abbrev AtPlace : ℕ → Result (Option Chunk) Refusal → Type 0
AtPlace c (Ok None) = Unit
AtPlace c (Ok (Some chunk)) = Unit
AtPlace c (Err refusal) = refusal.place ≡ c

module _ (container : List ℕ) (reading : Applied) (c : ℕ) where
  tested : (t : Bool) (why : Cause) (next : Result (Option Chunk) Refusal) → AtPlace c next → AtPlace c (cond t (refused_at c why) next)
  tested true why next h = refl
  tested false why next h = h

  taken_or_not : (opening : Opening) (t : Bool) → AtPlace c (cond t (taken_at (length container) reading.payloads c opening) (Ok (Some (chunk_of c opening 0x20 0))))
  unfolding taken_at held_at
  taken_or_not opening true =
      let offset = offset_of reading.payloads opening in
      let spare = opening.header + opening.footer in
      let size = opening.block - spare in
      let chunk = chunk_of c opening offset size in
      tested (is_short reading.payloads opening) ShortHeader (held_at (length container) c opening offset)
      (tested (ltb opening.block spare) TooSmall (cond (ltb (length container) (c + offset + size)) (refused_at c RanOut) (Ok (Some chunk)))
      (tested (ltb (length container) (c + offset + size)) RanOut (Ok (Some chunk)) tt))
  taken_or_not opening false = tt

  over_or : (t : Bool) (next : Result (Option Chunk) Refusal) → AtPlace c next → AtPlace c (cond t (Ok None) next)
  over_or true next h = tt
  over_or false next h = h

  step_placed : AtPlace c (chunk_at container reading c)
  unfolding chunk_at opened_at
  step_placed =
      let left = length container - c in
      let next = opened_at (length container) reading c (opening_at container c) in
      over_or (ltb left 4) (cond (ltb left 45) (refused_at c RanOut) next)
      (tested (ltb left 45) RanOut next (taken_or_not (opening_at container c) (takes reading (opening_at container c))))

  -- it carries its own start, and has its letters there
  pub refused_there : (refusal : Refusal) → chunk_at container reading c ≡ Err refusal → (refusal.place ≡ c) × (c + 4 ≤ length container)
  refused_there refusal e =
      ⊎_elim
      (λ (h : length container - c < 4). let f = over container reading c h in let z : ◌≡◌ {A = ℕ} 0 1 = cc in absurd (omega arith))
      (λ (h : 4 ≤ length container - c). (rw e at step_placed, omega arith))
      (side (length container - c) 4)
