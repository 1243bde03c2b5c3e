-- A stream whose chunks break no rule, and which has an end, is closed once; and a stream that is closed once has an end, and no chunk of its letters behind one.
-- Assumes nothing.
use Prim.Native.Nat.{ℕ}
use mathlib.Core.Path.{◌≡◌, refl, sym, ap, ap₂, ◌∙◌, subst}
use mathlib.Core.Bool.{Bool, true, false, not, cond, ◌||◌, ◌&&◌, false≢true}
use mathlib.Core.List.{List, [], ◌∷◌, ◌++◌, append-nil}
use lib.Dec.{eqb}
use lib.Seq.{append_snoc}
use borrow.Author.Tests.{eq-eqb, eqb-true}
use Rattle.chunk.specs.declared.Chunk.{Chunk}
use Rattle.profile.specs.Profiles.{letters_at}
use Rattle.profile.specs.Promises.{any_of, Each, is_end_of, ended, occurs, HeaderPlain, SizePlain, LettersKnown, ClosedOnce, is_present, Keeps, KeepAll}
use Rattle.profile.proofs.StandLaws.{any_more}

-- ---- tests

pub or_parts : (s t : Bool) → s || t ≡ false → (s ≡ false) × (t ≡ false)
or_parts true t e = absurd (false≢true (sym e))
or_parts false t e = (refl, e)

pub and_parts : (s t : Bool) → s && t ≡ true → (s ≡ true) × (t ≡ true)
and_parts true t e = (refl, e)
and_parts false t e = absurd (false≢true e)

or_right : (s t : Bool) → t ≡ true → s || t ≡ true
or_right true t e = refl
or_right false t e = e

any_there : (test : Chunk → Bool) (before : List Chunk) (chunk : Chunk) (after : List Chunk) → test chunk ≡ true → any_of test (before ++ chunk ∷ after) ≡ true
unfolding any_of
any_there test [] chunk after e = rw e
any_there test (first ∷ rest) chunk after e = or_right (test first) (any_of test (rest ++ chunk ∷ after)) (any_there test rest chunk after e)

pub each_at : (Holds : Chunk → Type 0) (before : List Chunk) (chunk : Chunk) (after : List Chunk) → Each Holds (before ++ chunk ∷ after) → Holds chunk
unfolding Each
each_at Holds [] chunk after h = h.0
each_at Holds (first ∷ rest) chunk after h = each_at Holds rest chunk after h.1

module _ (container : List ℕ) (audio : Bool) where
  abbrev Kept : List Chunk → List Chunk → Type 0
  Kept before chunks = KeepAll container audio before chunks

  -- ---- one chunk more

  pub keep_more : (start before : List Chunk) (chunk : Chunk) → Kept start before → Keeps container audio (start ++ before) chunk → Kept start (before ++ chunk ∷ [])
  unfolding KeepAll
  keep_more start [] chunk k h = (subst (λ (l : List Chunk). Keeps container audio l chunk) (append-nil start) h, tt)
  keep_more start (first ∷ rest) chunk k h =
      (k.0, keep_more (start ++ first ∷ []) rest chunk k.1 (subst (λ (l : List Chunk). Keeps container audio l chunk) (sym (append_snoc start first rest)) h))

  -- ---- rule by rule

  pub all_headers : (start chunks : List Chunk) → Kept start chunks → Each (HeaderPlain container) chunks
  unfolding KeepAll Each
  all_headers start [] k = tt
  all_headers start (chunk ∷ chunks) k = (k.0.header_plain, all_headers (start ++ chunk ∷ []) chunks k.1)

  pub all_sizes : (start chunks : List Chunk) → Kept start chunks → Each (SizePlain container) chunks
  unfolding KeepAll Each
  all_sizes start [] k = tt
  all_sizes start (chunk ∷ chunks) k = (k.0.size_plain, all_sizes (start ++ chunk ∷ []) chunks k.1)

  pub all_letters : (start chunks : List Chunk) → Kept start chunks → Each (LettersKnown container) chunks
  unfolding KeepAll Each
  all_letters start [] k = tt
  all_letters start (chunk ∷ chunks) k = (k.0.letters_known, all_letters (start ++ chunk ∷ []) chunks k.1)

  -- ---- closed once

  module _ (letters : ℕ) (there : is_present audio letters ≡ true) where
    -- behind an end stands no chunk of its letters
    none_occur : (start chunks : List Chunk) → ended container letters start ≡ true → Kept start chunks → occurs container letters chunks ≡ false
    unfolding KeepAll any_of
    none_occur start [] e k = refl
    none_occur start (chunk ∷ chunks) e k =
        by_letters (none_occur (start ++ chunk ∷ []) chunks (any_more (is_end_of container letters) start chunk ∙ ap (λ (t : Bool). t || is_end_of container letters chunk) e) k.1)
        (eqb (letters_at container chunk) letters) refl
      where
        by_letters : occurs container letters chunks ≡ false → (b : Bool) → eqb (letters_at container chunk) letters ≡ b → b || occurs container letters chunks ≡ false
        by_letters rest true q =
            let same : letters_at container chunk ≡ letters = eqb-true (letters_at container chunk) letters q in
            let closed : is_present audio letters && ended container letters start ≡ false =
            subst (λ (l : ℕ). is_present audio l && ended container l start ≡ false) same k.0.not_closed in
            absurd (false≢true (sym closed ∙ ap₂ (λ (s t : Bool). s && t) there e))
        by_letters rest false q = rest

    pub closed_once : (start chunks : List Chunk) → Kept start chunks → ended container letters start ≡ false → ended container letters chunks ≡ true → ClosedOnce container letters chunks
    unfolding KeepAll any_of
    closed_once start [] k none e = absurd (false≢true e)
    closed_once start (chunk ∷ chunks) k none e =
        by_end (λ (n : ended container letters (start ++ chunk ∷ []) ≡ false) (f : ended container letters chunks ≡ true). closed_once (start ++ chunk ∷ []) chunks k.1 n f)
        (is_end_of container letters chunk) refl e
      where
        by_end : (ended container letters (start ++ chunk ∷ []) ≡ false → ended container letters chunks ≡ true → ClosedOnce container letters chunks)
            → (b : Bool) → is_end_of container letters chunk ≡ b → b || ended container letters chunks ≡ true → ClosedOnce container letters (chunk ∷ chunks)
        by_end rest true q f = record {
          before = [];
          end = chunk;
          after = chunks;
          split = refl;
          is_end = q;
          none_before = refl;
          none_after = none_occur (start ++ chunk ∷ []) chunks (any_there (is_end_of container letters) start chunk [] q) k.1;
        }
        by_end rest false q f =
            let c = rest (any_more (is_end_of container letters) start chunk ∙ ap₂ (λ (s t : Bool). s || t) none q) f in
            record {
              before = chunk ∷ c.before;
              end = c.end;
              after = c.after;
              split = ap (λ (l : List Chunk). chunk ∷ l) c.split;
              is_end = c.is_end;
              none_before = ap₂ (λ (s t : Bool). s || t) q c.none_before;
              none_after = c.none_after;
            }

-- ---- what is closed once

module _ (container : List ℕ) (letters : ℕ) where
  -- the first end has no chunk of its letters behind it
  unfoldable once_in : List Chunk → Bool
  once_in [] = false
  once_in (chunk ∷ chunks) = cond (is_end_of container letters chunk) (not (occurs container letters chunks)) (once_in chunks)

  once_of : (before : List Chunk) (end : Chunk) (after : List Chunk) → is_end_of container letters end ≡ true → ended container letters before ≡ false → occurs container letters after ≡ false
      → once_in (before ++ end ∷ after) ≡ true
  unfolding once_in any_of
  once_of [] end after e n o = rw (e, o)
  once_of (chunk ∷ before) end after e n o =
      let p = or_parts (is_end_of container letters chunk) (ended container letters before) n in
      rw p.0 (once_of before end after e p.1 o)

  once_not : (before : List Chunk) (chunk : Chunk) (after : List Chunk) → once_in (before ++ chunk ∷ after) ≡ true → letters_at container chunk ≡ letters
      → ended container letters before ≡ true → ⊥
  unfolding once_in any_of
  once_not [] chunk after o l e = false≢true e
  once_not (first ∷ before) chunk after o l e =
      by_end (λ (p : once_in (before ++ chunk ∷ after) ≡ true) (f : ended container letters before ≡ true). once_not before chunk after p l f) (is_end_of container letters first) refl o e
    where
      by_end : (once_in (before ++ chunk ∷ after) ≡ true → ended container letters before ≡ true → ⊥) → (b : Bool) → is_end_of container letters first ≡ b
          → cond b (not (occurs container letters (before ++ chunk ∷ after))) (once_in (before ++ chunk ∷ after)) ≡ true → b || ended container letters before ≡ true → ⊥
      by_end rest true q p f =
          let here : occurs container letters (before ++ chunk ∷ after) ≡ true =
          any_there (λ (c : Chunk). eqb (letters_at container c) letters) before chunk after (eq-eqb (letters_at container chunk) letters l) in
          false≢true (sym (ap not here) ∙ p)
      by_end rest false q p f = rest p f

  module _ (chunks : List Chunk) (c : ClosedOnce container letters chunks) where
    pub closed_ended : ended container letters chunks ≡ true
    closed_ended = ap (ended container letters) c.split ∙ any_there (is_end_of container letters) c.before c.end c.after c.is_end

    pub closed_not : (before : List Chunk) (chunk : Chunk) (after : List Chunk) → chunks ≡ before ++ chunk ∷ after → letters_at container chunk ≡ letters
        → ended container letters before ≡ true → ⊥
    closed_not before chunk after s l e =
        once_not before chunk after
        (ap once_in (sym s ∙ c.split) ∙ once_of c.before c.end c.after c.is_end c.none_before c.none_after) l e
