-- How both streams stand after some chunks: closed exactly if an end chunk of their letters was among them. Assumes nothing.
use Prim.Native.Nat.{ℕ}
use mathlib.Core.Path.{◌≡◌, refl, sym, ap, ap₂, ◌∙◌}
use mathlib.Core.Bool.{Bool, true, false, cond, ◌||◌, ◌&&◌}
use mathlib.Core.List.{List, [], ◌∷◌, ◌++◌}
use native.Mathlib.Omega.{arith}
use lib.Dec.{eqb}
use borrow.Author.Tests.{eqb-true}
use Rattle.signature.specs.Signatures.{SFV, SFA}
use Rattle.chunk.specs.declared.Kind.{Kind}
use Rattle.chunk.specs.declared.Kind.TheVariants.{Video, Audio, Other, End}
use Rattle.chunk.specs.declared.Chunk.{Chunk}
use Rattle.profile.specs.declared.Stream.{Stream}
use Rattle.profile.specs.declared.Stream.TheVariants.{Absent, Open, Closed}
use Rattle.profile.specs.declared.Streams.{Streams}
use Rattle.profile.specs.Streams.{is_closed, closing, stream_of, first_of, after_end, after_kind}
use Rattle.profile.specs.Profiles.{letters_at}
use Rattle.profile.specs.Promises.{any_of, is_end, is_end_of, ended, is_present}

-- ---- tests

or-false : (s : Bool) → s || false ≡ s
or-false true = refl
or-false false = refl

or_assoc : (s t u : Bool) → s || (t || u) ≡ (s || t) || u
or_assoc true t u = refl
or_assoc false t u = refl

and-false : (s : Bool) → s && false ≡ false
and-false true = refl
and-false false = refl

and-true : (s : Bool) → s && true ≡ s
and-true true = refl
and-true false = refl

pub any_more : (test : Chunk → Bool) (before : List Chunk) (chunk : Chunk) → any_of test (before ++ chunk ∷ []) ≡ any_of test before || test chunk
unfolding any_of
any_more test [] chunk = or-false (test chunk)
any_more test (first ∷ rest) chunk = ap (λ (t : Bool). test first || t) (any_more test rest chunk) ∙ or_assoc (test first) (any_of test rest) (test chunk)

-- no letters are those of both streams
not_both : (letters : ℕ) → eqb letters SFV ≡ true → eqb letters SFA ≡ true → ⊥
not_both letters v a = omega (arith, eqb-true letters SFV v, eqb-true letters SFA a)

-- ---- a stream

abbrev pub closed_if : Bool → Stream
closed_if t = cond t Closed Open

pub closed_if_lem : (t : Bool) → is_closed (closed_if t) ≡ t
closed_if_lem true = refl
closed_if_lem false = refl

closing_if : (t : Bool) → closing (closed_if t) ≡ closed_if (t || true)
closing_if true = refl
closing_if false = refl

-- both streams, where each is closed or not
abbrev pub stands : Bool → Bool → Bool → Streams
stands audio v a = record { video = closed_if v; audio = cond audio (closed_if a) Absent }

closing_audio : (audio a : Bool) → closing (cond audio (closed_if a) Absent) ≡ cond audio (closed_if (a || true)) Absent
closing_audio true a = closing_if a
closing_audio false a = refl

-- ---- after a chunk

module _ (audio v a : Bool) where
  unchanged : stands audio v a ≡ stands audio (v || false) (a || false)
  unchanged = ap₂ (stands audio) (sym (or-false v)) (sym (or-false a))

  after_end_lem : (letters : ℕ) (s t : Bool) → eqb letters SFV ≡ s → eqb letters SFA ≡ t → after_end (stands audio v a) letters ≡ stands audio (v || s) (a || t)
  unfolding after_end
  after_end_lem letters true true e f = absurd (not_both letters e f)
  after_end_lem letters true false e f =
      rw e (ap₂ (λ (x y : Stream). record { video = x; audio = y }) (closing_if v) (ap (λ (t : Bool). cond audio (closed_if t) Absent) (sym (or-false a))))
  after_end_lem letters false true e f = rw (e, f) (ap₂ (λ (x y : Stream). record { video = x; audio = y }) (ap closed_if (sym (or-false v))) (closing_audio audio a))
  after_end_lem letters false false e f = rw (e, f) unchanged

  after_kind_lem : (kind : Kind) (letters : ℕ) → after_kind (stands audio v a) kind letters ≡ stands audio (v || (is_end kind && eqb letters SFV)) (a || (is_end kind && eqb letters SFA))
  after_kind_lem Video letters = unchanged
  after_kind_lem Audio letters = unchanged
  after_kind_lem Other letters = unchanged
  after_kind_lem End letters = after_end_lem letters (eqb letters SFV) (eqb letters SFA) refl refl

-- ---- after chunks

module _ (container : List ℕ) (audio : Bool) where
  abbrev pub standing : List Chunk → Streams
  standing before = stands audio (ended container SFV before) (ended container SFA before)

  pub starts : first_of audio ≡ standing []
  unfolding first_of any_of
  starts = refl

  pub goes_on : (before : List Chunk) (chunk : Chunk) → after_kind (standing before) chunk.kind (letters_at container chunk) ≡ standing (before ++ chunk ∷ [])
  goes_on before chunk =
      after_kind_lem audio (ended container SFV before) (ended container SFA before) chunk.kind (letters_at container chunk)
      ∙ ap₂ (stands audio) (sym (any_more (is_end_of container SFV) before chunk)) (sym (any_more (is_end_of container SFA) before chunk))

  closed_audio : (t : Bool) → is_closed (cond audio (closed_if t) Absent) ≡ audio && t
  closed_audio t = by_audio audio
    where
      by_audio : (b : Bool) → is_closed (cond b (closed_if t) Absent) ≡ b && t
      by_audio true = closed_if_lem t
      by_audio false = refl

  -- the stream of some letters is closed exactly if there is that stream, and an end of the letters stands before
  pub closed_is : (before : List Chunk) (letters : ℕ) → is_closed (stream_of (standing before) letters) ≡ is_present audio letters && ended container letters before
  unfolding stream_of
  closed_is before letters = by_letters (eqb letters SFV) (eqb letters SFA) refl refl
    where
      by_letters : (s t : Bool) → eqb letters SFV ≡ s → eqb letters SFA ≡ t
          → is_closed (cond (eqb letters SFV) (closed_if (ended container SFV before)) (cond (eqb letters SFA) (cond audio (closed_if (ended container SFA before)) Absent) Absent))
          ≡ (eqb letters SFV || (audio && eqb letters SFA)) && ended container letters before
      by_letters true t e f = rw e (closed_if_lem (ended container SFV before) ∙ ap (λ (l : ℕ). ended container l before) (sym (eqb-true letters SFV e)))
      by_letters false true e f =
          rw (e, f) (closed_audio (ended container SFA before) ∙ ap₂ (λ (s : Bool) (l : ℕ). s && ended container l before) (sym (and-true audio)) (sym (eqb-true letters SFA f)))
      by_letters false false e f = rw (e, f, and-false audio)
