-- A chunk: its length, the pieces of which it is compared, and what is answered for the bytes that begin with it. Assumes nothing.
use Prim.Native.Nat.{ℕ, zero, suc, ◌+◌, ◌≤◌, ◌<◌}
use mathlib.Core.Path.{◌≡◌, refl, sym, ap, ap₂, ◌∙◌}
use mathlib.Core.List.{List, [], ◌∷◌, ◌++◌}
use mathlib.Core.Bool.{Bool, true, false, not, cond, ◌&&◌, and-false}
use mathlib.Core.Logic.{⊎_elim}
use native.Mathlib.Omega.{arith}
use lib.ListN.{length, take, drop, length-drop, length-append, length-replicate}
use lib.Seq.{drop-drop, length-take-le}
use lib.Dec.{ltb}
use borrow.Author.Tests.{le-leb, lt-leb, le-ltb, lt-ltb, ne_eqb}
use Rattle.laws.proofs.Side.{side}
use Rattle.part.specs.Parts.{part_at}
use Rattle.signature.specs.Signatures.{contents_end, stands_at}
use Rattle.word.specs.Bytes.{zeros}
use Rattle.turns.specs.declared.Track.{Track}
use Rattle.turns.specs.declared.Track.TheVariants.{Video}
use Rattle.turns.specs.declared.Form.{Form}
use Rattle.turns.specs.declared.Form.TheVariants.{Old, New}
use Rattle.turns.specs.declared.Shape.{Shape}
use Rattle.turns.specs.declared.Seen.{Seen}
use Rattle.turns.specs.Chunks.{shape_of, head_by, laid_by, chunk_of, size_by, chunk_size, len_in, gap_of, inside_of, is_end, held_by, payload_in, seen_as}
use Rattle.turns.proofs.FrontLaws.{front, stands_front, front_append, front_part, front_fits}

-- ---- zeros, as a part of 32

pub some_of : (n k : ℕ) → n ≤ k → take n (zeros k) ≡ zeros n
some_of zero k h = refl
some_of (suc n) zero h = absurd (omega arith)
some_of (suc n) (suc k) h = ap (λ (l : List ℕ). 0 ∷ l) (some_of n k (omega arith))

pub some_zeros : (n : ℕ) → n ≤ 0x20 → take n (zeros 0x20) ≡ zeros n
some_zeros n h = some_of n 0x20 h

pub zeros_length : (n : ℕ) → n ≤ 0x20 → length (take n (zeros 0x20)) ≡ n
zeros_length n h = ap length (some_of n 0x20 h) ∙ length-replicate n 0

-- ---- shapes

pub gap_is : (form : Form) (track : Track) (from n : ℕ) → (shape_of form track from n).gap ≡ gap_of form
unfolding shape_of
gap_is Old track from n = refl
gap_is New track from n = refl

pub gap_fits : (form : Form) → gap_of form ≤ 4
gap_fits Old = omega arith
gap_fits New = omega arith

pub pads_fit : (form : Form) (track : Track) (from n : ℕ) → (shape_of form track from n).pads < 0x20
unfolding shape_of
pads_fit Old track from n = omega arith
pads_fit New track from n = omega arith

pub shape_fits : (shape : Shape) (form : Form) (track : Track) (from n : ℕ) → shape ≡ shape_of form track from n → (shape.gap ≤ 4) × (shape.pads < 0x20)
shape_fits shape form track from n e = rw e (rw (gap_is form track from n) (gap_fits form), pads_fit form track from n)

same_size : (form : Form) (track : Track) (from n : ℕ) → size_by (shape_of form track from n) n ≡ size_by (shape_of form Video 0 n) n
unfolding shape_of
same_size Old track from n = refl
same_size New track from n = refl

pub head_length : (shape : Shape) → length (head_by shape) ≡ 28
unfolding head_by
head_length shape = refl

laid_length : (shape : Shape) (payload : List ℕ) → length (laid_by shape payload) ≡ size_by shape (length payload)
laid_length shape payload =
    simp (length-append, head_length shape, length-replicate {A = ℕ} shape.gap 0, length-replicate {A = ℕ} shape.pads 0) (omega arith)

pub chunk_length : (form : Form) (track : Track) (from : ℕ) (payload : List ℕ) → 0 < length payload
    → length (chunk_of form track from payload) ≡ chunk_size form (length payload)
unfolding chunk_of chunk_size
chunk_length form track from payload h =
    let shape = shape_of form track from (length payload) in
    laid_length shape payload ∙ same_size form track from (length payload) ∙ rw (ne_eqb (length payload) 0 (λ e. omega arith))

pub size_none : (form : Form) → chunk_size form 0 ≡ 0
unfolding chunk_size
size_none form = refl

-- ---- the pieces

module _ (shape : Shape) (n : ℕ) (bytes : List ℕ) (there : 28 + shape.gap + n ≤ length bytes) where
  abbrev payload : List ℕ
  payload = part_at bytes (28 + shape.gap) n

  is_part : payload ≡ take n (drop (28 + shape.gap) bytes)
  is_part = rw (le-leb (28 + shape.gap + n) (length bytes) there)

  payload_length : length payload ≡ n
  payload_length = ap length is_part ∙ length-take-le n (drop (28 + shape.gap) bytes) (rw length-drop (omega arith))

  -- behind the head, behind the gap, and behind the payload
  behind_head : front (zeros shape.gap ++ (payload ++ zeros shape.pads)) (drop 28 bytes)
      ≡ (stands_at (zeros shape.gap) bytes 28 && stands_at (zeros shape.pads) bytes (28 + shape.gap + n))
  behind_head =
      front_append (zeros shape.gap) (payload ++ zeros shape.pads) (drop 28 bytes)
      ∙ ap₂ (λ (t u : Bool). t && u) (sym (stands_front (zeros shape.gap) bytes 28))
      (ap (λ (k : ℕ). front (payload ++ zeros shape.pads) (drop k (drop 28 bytes))) (length-replicate shape.gap 0)
      ∙ ap (front (payload ++ zeros shape.pads)) (drop-drop shape.gap 28 bytes)
      ∙ front_append payload (zeros shape.pads) (drop (28 + shape.gap) bytes)
      ∙ ap₂ (λ (t u : Bool). t && u)
      (ap (λ (l : List ℕ). front l (drop (28 + shape.gap) bytes)) is_part ∙ front_part n (drop (28 + shape.gap) bytes) (rw length-drop (omega arith)))
      (ap (λ (k : ℕ). front (zeros shape.pads) (drop k (drop (28 + shape.gap) bytes))) payload_length
      ∙ ap (front (zeros shape.pads)) (drop-drop n (28 + shape.gap) bytes)
      ∙ sym (stands_front (zeros shape.pads) bytes (28 + shape.gap + n))))

  pub stands_laid : stands_at (laid_by shape payload) bytes 0
      ≡ (stands_at (head_by shape) bytes 0 && (stands_at (zeros shape.gap) bytes 28 && stands_at (zeros shape.pads) bytes (28 + shape.gap + n)))
  stands_laid =
      stands_front (laid_by shape payload) bytes 0 ∙ front_append (head_by shape) (zeros shape.gap ++ (payload ++ zeros shape.pads)) bytes
      ∙ ap₂ (λ (t u : Bool). t && u) (sym (stands_front (head_by shape) bytes 0))
      (ap (λ (k : ℕ). front (zeros shape.gap ++ (payload ++ zeros shape.pads)) (drop k bytes)) (head_length shape) ∙ behind_head)

-- ---- the answer

abbrev pub Answers : Form → Track → ℕ → Bool → List ℕ → Seen → Type 0
Answers form track from going bytes r =
    (r ≡ seen_as (payload_in form track from going bytes)) × (r.len ≤ 0x10000) × (chunk_size form r.len ≤ length bytes)

pub none_answers : (form : Form) (track : Track) (from : ℕ) (going : Bool) (bytes : List ℕ) (r : Seen) → payload_in form track from going bytes ≡ [] → r ≡ seen_as []
    → Answers form track from going bytes r
none_answers form track from going bytes r e f = rw f (rw e (refl, omega arith, rw (size_none form) (omega arith)))

cond_same : (t : Bool) → cond {A = List ℕ} t [] [] ≡ []
cond_same true = refl
cond_same false = refl

-- the three tests
module _ (payload : List ℕ) where
  abbrev picked : Bool → Bool → Bool → List ℕ
  picked long stands ends = cond (not long && stands && not ends) payload []

  no_long : (long stands ends : Bool) → long ≡ true → picked long stands ends ≡ []
  no_long true stands ends e = refl
  no_long false stands ends e = let z : ◌≡◌ {A = ℕ} 0 1 = cc in absurd (omega arith)

  pub no_stand : (long stands ends : Bool) → stands ≡ false → picked long stands ends ≡ []
  no_stand true false ends e = refl
  no_stand false false ends e = refl
  no_stand long true ends e = let z : ◌≡◌ {A = ℕ} 0 1 = cc in absurd (omega arith)

  pub no_end : (long stands ends : Bool) → ends ≡ true → picked long stands ends ≡ []
  no_end long stands true e = ap (λ (t : Bool). cond t payload []) (and-false (not long && stands))
  no_end long stands false e = let z : ◌≡◌ {A = ℕ} 0 1 = cc in absurd (omega arith)

  pub all_there : (long stands ends : Bool) → long ≡ false → stands ≡ true → ends ≡ false → picked long stands ends ≡ payload
  all_there long stands ends e f g = rw (e, f, g)

module _ (form : Form) (track : Track) (from : ℕ) (bytes : List ℕ) (len : ℕ) (e : len ≡ len_in form bytes) (shape : Shape) (f : shape ≡ shape_of form track from len) where
  abbrev part : List ℕ
  part = part_at bytes (28 + shape.gap) len

  is_inside : part ≡ inside_of form bytes
  is_inside = rw (f, gap_is form track from len, e)

  at_part : payload_in form track from true bytes ≡ held_by form track from part bytes
  unfolding payload_in
  at_part = ap (λ (l : List ℕ). held_by form track from l bytes) (sym is_inside)

  pub not_there : length bytes < 28 + shape.gap + len → payload_in form track from true bytes ≡ []
  not_there h =
      let z : part ≡ [] = rw (lt-leb (28 + shape.gap + len) (length bytes) h) in
      at_part ∙ ap (λ (l : List ℕ). held_by form track from l bytes) z ∙ cond_same (not (ltb 0x10000 0) && stands_at (chunk_of form track from []) bytes 0 && not (is_end form []))

  module _ (there : 28 + shape.gap + len ≤ length bytes) where
    part_length : length part ≡ len
    part_length = payload_length shape len bytes there

    abbrev stands : Bool
    stands = stands_at (chunk_of form track from part) bytes 0

    pub too_long : 0x10000 < len → payload_in form track from true bytes ≡ []
    too_long h = at_part ∙ no_long part (ltb 0x10000 (length part)) stands (is_end form part) (lt-ltb 0x10000 (length part) (omega (arith, part_length)))

    pub marks_end : (payload : List ℕ) → payload ≡ part → is_end form payload ≡ true → payload_in form track from true bytes ≡ []
    marks_end payload g h = at_part ∙ no_end part (ltb 0x10000 (length part)) stands (is_end form part) (ap (is_end form) (sym g) ∙ h)

    as_laid : stands ≡ stands_at (laid_by shape part) bytes 0
    unfolding chunk_of
    as_laid = ap (λ (s : Shape). stands_at (laid_by s part) bytes 0) (ap (shape_of form track from) part_length ∙ sym f)

    pub another : stands_at (laid_by shape part) bytes 0 ≡ false → payload_in form track from true bytes ≡ []
    another h = at_part ∙ no_stand part (ltb 0x10000 (length part)) stands (is_end form part) (as_laid ∙ h)

    module _ (payload : List ℕ) (g : payload ≡ part) (fits : len ≤ 0x10000) (stand : stands_at (laid_by shape part) bytes 0 ≡ true) (goes : is_end form payload ≡ false) where
      found : payload_in form track from true bytes ≡ part
      found =
          at_part
          ∙ all_there part (ltb 0x10000 (length part)) stands (is_end form part) (le-ltb 0x10000 (length part) (omega (arith, part_length))) (as_laid ∙ stand)
          (ap (is_end form) (sym g) ∙ goes)

      -- a chunk that stands there is no longer than the bytes
      held_fits : chunk_size form len ≤ length bytes
      held_fits =
          ⊎_elim (λ (z : len < 1). let n : len ≡ 0 = omega arith in rw (n, size_none form) (omega arith))
          (λ (some : 1 ≤ len).
          let l : length (chunk_of form track from part) ≡ chunk_size form len = chunk_length form track from part (omega (arith, part_length)) ∙ ap (chunk_size form) part_length in
          let s : front (chunk_of form track from part) bytes ≡ true = sym (stands_front (chunk_of form track from part) bytes 0) ∙ as_laid ∙ stand in
          omega (arith, l, front_fits (chunk_of form track from part) bytes s)) (side len 1)

      pub some-answers : (marked : Bool) → marked ≡ stands_at contents_end payload 0 → Answers form track from true bytes (record { len = len; marked = marked })
      some-answers marked m = (rw (found, sym g, m) (ap (λ (n : ℕ). record { len = n; marked = stands_at contents_end payload 0 }) (sym (ap length g ∙ part_length))), fits, held_fits)
