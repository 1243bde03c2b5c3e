-- The promises of specs/Promises.antt, each under its name: the verdict goes chunk by chunk, and how both streams stand is told by the chunks before. Assumes nothing.
use Rattle.std.specs.Prelude.{Ok, Result}
use Rattle.refusal.specs.declared.Refusal.{Refusal}
use Prim.Native.Nat.{ℕ, ◌+◌, ◌%◌}
use mathlib.Core.Path.{◌≡◌, refl, sym, ap, ◌∙◌, subst}
use mathlib.Core.Logic.{◌⊎◌, inl, inr, ⊎_elim}
use mathlib.Core.Bool.{Bool, true, false, cond, ◌||◌, ◌&&◌, false≢true}
use mathlib.Core.List.{List, [], ◌∷◌, ◌++◌, append-nil}
use native.Mathlib.Omega.{arith}
use lib.ListN.{length}
use lib.Dec.{eqb}
use lib.Seq.{append_snoc}
use borrow.Author.Tests.{eq-eqb, eqb-true, eqb-false}
use Rattle.word.specs.Numbers.{be16, be32}
use Rattle.signature.specs.Signatures.{SFV, SFA}
use Rattle.chunk.specs.declared.Chunk.{Chunk}
use Rattle.profile.specs.declared.Verdict.{Verdict}
use Rattle.profile.specs.Streams.{stream_number, is_known, first_of}
use Rattle.profile.specs.Profiles.{plain, broken_by, missing, letters_at, judged_at, first_broken, judged, profile_of}
use Rattle.profile.specs.Promises as promised
use Rattle.profile.specs.Promises.{ended, HeaderPlain, SizePlain, LettersKnown, PlainFilm, is_present, Keeps, KeepAll, Breaks, header_broken, size_broken, video_closed, audio_closed, letters_broken, FirstOf, none_broken, at_chunk, video_open, audio_open}
use Rattle.profile.proofs.StandLaws.{stands, standing, starts, goes_on, closed_is}
use Rattle.profile.proofs.ClosedLaws.{or_parts, and_parts, each_at, keep_more, all_headers, all_sizes, all_letters, closed_once, closed_ended, closed_not}

-- ---- letters

known : (letters : ℕ) → is_known letters ≡ true → (letters ≡ SFV) ⊎ (letters ≡ SFA)
known letters e = by_test (eqb letters SFV) refl e
  where
    by_test : (b : Bool) → eqb letters SFV ≡ b → b || eqb letters SFA ≡ true → (letters ≡ SFV) ⊎ (letters ≡ SFA)
    by_test true q e = inl (eqb-true letters SFV q)
    by_test false q e = inr (eqb-true letters SFA e)

unknown : (letters : ℕ) → is_known letters ≡ false → (letters ≡ SFV) ⊎ (letters ≡ SFA) → ⊥
unknown letters e s =
    let p = or_parts (eqb letters SFV) (eqb letters SFA) e in
    ⊎_elim (λ (q : letters ≡ SFV). eqb-false letters SFV p.0 q) (λ (q : letters ≡ SFA). eqb-false letters SFA p.1 q) s

module _ (container : List ℕ) (audio : Bool) where
  -- ---- a chunk

  -- which stream's end stands before it
  closed_breaks : (before : List Chunk) (chunk : Chunk) → HeaderPlain container chunk → SizePlain container chunk
      → is_present audio (letters_at container chunk) && ended container (letters_at container chunk) before ≡ true
      → Breaks container audio before chunk 3 (stream_number (letters_at container chunk))
  closed_breaks before chunk h s e = by_letters (eqb (letters_at container chunk) SFV) refl both.0
    where
      both : (is_present audio (letters_at container chunk) ≡ true) × (ended container (letters_at container chunk) before ≡ true)
      both = and_parts (is_present audio (letters_at container chunk)) (ended container (letters_at container chunk) before) e

      by_letters : (b : Bool) → eqb (letters_at container chunk) SFV ≡ b → b || (audio && eqb (letters_at container chunk) SFA) ≡ true
          → Breaks container audio before chunk 3 (cond b 0 1)
      by_letters true q p =
          let v = eqb-true (letters_at container chunk) SFV q in
          video_closed h s v (subst (λ (l : ℕ). ended container l before ≡ true) v both.1)
      by_letters false q p =
          let parts = and_parts audio (eqb (letters_at container chunk) SFA) p in
          let a = eqb-true (letters_at container chunk) SFA parts.1 in
          audio_closed h s parts.0 a (subst (λ (l : ℕ). ended container l before ≡ true) a both.1)

  -- a chunk keeps all rules, or is the first that does not
  module _ (all before : List Chunk) (chunk : Chunk) (after : List Chunk) (split : all ≡ before ++ chunk ∷ after) (kept : KeepAll container audio [] before) where
    abbrev letters : ℕ
    letters = letters_at container chunk

    judge_chunk : (later : Verdict) → (Keeps container audio before chunk → FirstOf container audio all later)
        → FirstOf container audio all (first_broken (judged_at container (standing container audio before) chunk) later)
    unfolding broken_by
    judge_chunk later rest =
        by_tests (eqb (be16 container (chunk.start + 8)) 0x18) refl (eqb ((be32 container (chunk.start + 4) + 8) % 0x20) 0) refl
        (is_present audio letters && ended container letters before) refl (is_known letters) refl
      where
        by_tests : (b₁ : Bool) → eqb (be16 container (chunk.start + 8)) 0x18 ≡ b₁ → (b₂ : Bool) → eqb ((be32 container (chunk.start + 4) + 8) % 0x20) 0 ≡ b₂
            → (b₃ : Bool) → is_present audio letters && ended container letters before ≡ b₃ → (b₄ : Bool) → is_known letters ≡ b₄
            → FirstOf container audio all (first_broken (judged_at container (standing container audio before) chunk) later)
        by_tests false p b₂ q b₃ c b₄ k = rw p (at_chunk before chunk after 1 0 split kept (header_broken (eqb-false (be16 container (chunk.start + 8)) 0x18 p)))
        by_tests true p false q b₃ c b₄ k =
            rw (p, q)
            (at_chunk before chunk after 2 0 split kept
            (size_broken (eqb-true (be16 container (chunk.start + 8)) 0x18 p) (eqb-false ((be32 container (chunk.start + 4) + 8) % 0x20) 0 q)))
        by_tests true p true q true c b₄ k =
            rw (p, q, closed_is container audio before letters ∙ c)
            (at_chunk before chunk after 3 (stream_number letters) split kept
            (closed_breaks before chunk (eqb-true (be16 container (chunk.start + 8)) 0x18 p) (eqb-true ((be32 container (chunk.start + 4) + 8) % 0x20) 0 q) c))
        by_tests true p true q false c false k =
            rw (p, q, closed_is container audio before letters ∙ c, k)
            (at_chunk before chunk after 4 0 split kept
            (letters_broken (eqb-true (be16 container (chunk.start + 8)) 0x18 p) (eqb-true ((be32 container (chunk.start + 4) + 8) % 0x20) 0 q) (unknown letters k)))
        by_tests true p true q false c true k =
            rw (p, q, closed_is container audio before letters ∙ c, k)
            (rest (record {
              header_plain = eqb-true (be16 container (chunk.start + 8)) 0x18 p;
              size_plain = eqb-true ((be32 container (chunk.start + 4) + 8) % 0x20) 0 q;
              not_closed = c;
              letters_known = known letters k;
            }))

  -- ---- the ends

  judge_ends : (all : List Chunk) → KeepAll container audio [] all → FirstOf container audio all (missing (length container) (standing container audio all))
  judge_ends all kept = by-ends (ended container SFV all) refl audio refl (ended container SFA all) refl
    where
      by-ends : (v : Bool) → ended container SFV all ≡ v → (b : Bool) → audio ≡ b → (a : Bool) → ended container SFA all ≡ a
          → FirstOf container audio all (missing (length container) (stands b v a))
      by-ends false p b q a r = video_open kept p
      by-ends true p true q false r = audio_open kept p q r
      by-ends true p true q true r = none_broken kept p (λ z. r)
      by-ends true p false q a r = none_broken kept p (λ z. absurd (false≢true (sym q ∙ z)))

  -- ---- all chunks

  judge_all : (all before chunks : List Chunk) → all ≡ before ++ chunks → KeepAll container audio [] before
      → FirstOf container audio all (judged container (standing container audio before) chunks)
  unfolding judged
  judge_all all before [] split kept =
      let same : all ≡ before = split ∙ append-nil before in
      subst (λ (l : List Chunk). FirstOf container audio l (missing (length container) (standing container audio before))) (sym same) (judge_ends before kept)
  judge_all all before (chunk ∷ chunks) split kept =
      rw (goes_on container audio before chunk)
      (judge_chunk all before chunk chunks split kept (judged container (standing container audio (before ++ chunk ∷ [])) chunks)
      (λ keeps. judge_all all (before ++ chunk ∷ []) chunks (split ∙ sym (append_snoc before chunk chunks)) (keep_more container audio [] before chunk kept keeps)))

  judge_film : (chunks : List Chunk) → FirstOf container audio chunks (judged container (first_of audio) chunks)
  unfolding KeepAll
  judge_film chunks = rw (starts container audio) (judge_all chunks [] chunks refl tt)

  -- ---- plain

  -- a rule that is broken has a number
  broke_some : (before : List Chunk) (chunk : Chunk) (rule stream : ℕ) → Breaks container audio before chunk rule stream → rule ≡ 0 → ⊥
  broke_some before chunk rule stream (header_broken h) e = omega arith
  broke_some before chunk rule stream (size_broken h s) e = omega arith
  broke_some before chunk rule stream (video_closed h s l f) e = omega arith
  broke_some before chunk rule stream (audio_closed h s a l f) e = omega arith
  broke_some before chunk rule stream (letters_broken h s l) e = omega arith

  video_there : is_present audio SFV ≡ true
  video_there = rw (eq-eqb SFV SFV refl)

  audio_there : audio ≡ true → is_present audio SFA ≡ true
  audio_there e = rw (e, eq-eqb SFA SFA refl)

  plain_film : (chunks : List Chunk) (verdict : Verdict) → FirstOf container audio chunks verdict → verdict.rule ≡ 0 → PlainFilm container audio chunks
  unfolding promised.any_of
  plain_film chunks verdict (none_broken kept v a) e = record {
    headers = all_headers container audio [] chunks kept;
    sizes = all_sizes container audio [] chunks kept;
    video_closed = closed_once container audio SFV video_there [] chunks kept refl v;
    audio_closed = λ z. closed_once container audio SFA (audio_there z) [] chunks kept refl (a z);
    letters = all_letters container audio [] chunks kept;
  }
  plain_film chunks verdict (at_chunk before chunk after rule stream split kept breaks) e = absurd (broke_some before chunk rule stream breaks e)
  plain_film chunks verdict (video_open kept v) e = absurd (omega arith)
  plain_film chunks verdict (audio_open kept v z a) e = absurd (omega arith)

  -- a plain film breaks no rule
  not_broken : (chunks : List Chunk) → PlainFilm container audio chunks → (before : List Chunk) (chunk : Chunk) (after : List Chunk) (rule stream : ℕ)
      → chunks ≡ before ++ chunk ∷ after → Breaks container audio before chunk rule stream → ⊥
  not_broken chunks p before chunk after rule stream split (header_broken h) =
      h (each_at (HeaderPlain container) before chunk after (subst (promised.Each (HeaderPlain container)) split p.headers))
  not_broken chunks p before chunk after rule stream split (size_broken h s) =
      s (each_at (SizePlain container) before chunk after (subst (promised.Each (SizePlain container)) split p.sizes))
  not_broken chunks p before chunk after rule stream split (video_closed h s l f) = closed_not container SFV chunks p.video_closed before chunk after split l f
  not_broken chunks p before chunk after rule stream split (audio_closed h s a l f) = closed_not container SFA chunks (p.audio_closed a) before chunk after split l f
  not_broken chunks p before chunk after rule stream split (letters_broken h s l) =
      l (each_at (LettersKnown container) before chunk after (subst (promised.Each (LettersKnown container)) split p.letters))

  is_plain : (chunks : List Chunk) (verdict : Verdict) → FirstOf container audio chunks verdict → PlainFilm container audio chunks → verdict ≡ plain
  is_plain chunks verdict (none_broken kept v a) p = refl
  is_plain chunks verdict (at_chunk before chunk after rule stream split kept breaks) p = absurd (not_broken chunks p before chunk after rule stream split breaks)
  is_plain chunks verdict (video_open kept v) p = absurd (false≢true (sym v ∙ closed_ended container SFV chunks p.video_closed))
  is_plain chunks verdict (audio_open kept v z a) p = absurd (false≢true (sym a ∙ closed_ended container SFA chunks (p.audio_closed z)))

-- ---- the promises

same_verdict : (verdict verdict' : Verdict) → ◌≡◌ {A = Result Verdict Refusal} (Ok verdict) (Ok verdict') → verdict ≡ verdict'
same_verdict verdict verdict' e = cc

pub FirstBroken : promised.FirstBroken
unfolding profile_of
FirstBroken container header applied chunks verdict f e =
    let is : judged container (first_of header.audio) chunks ≡ verdict = same_verdict (judged container (first_of header.audio) chunks) verdict (rw f at e) in
    subst (FirstOf container header.audio chunks) is (judge_film container header.audio chunks)

pub PlainExactlyWhen : promised.PlainExactlyWhen
unfolding profile_of
PlainExactlyWhen container header applied chunks f = (
  λ e. plain_film container header.audio chunks plain (FirstBroken container header applied chunks plain f e) refl,
  λ p. rw f (ap Ok (is_plain container header.audio chunks (judged container (first_of header.audio) chunks) (judge_film container header.audio chunks) p)),
)

pub RefusedBeforeAnyRule : promised.RefusedBeforeAnyRule
unfolding profile_of
RefusedBeforeAnyRule container refusal f = rw f
