-- What is gathered step by step is the verdict on all chunks, where each window shows its chunk. Assumes nothing.
use Prim.Native.Nat.{ℕ}
use mathlib.Core.Path.{◌≡◌, refl, ap, ◌∙◌}
use mathlib.Core.Bool.{Bool, true, false, cond}
use mathlib.Core.List.{List, [], ◌∷◌}
use lib.ListN.{length}
use lib.Dec.{eqb}
use Rattle.word.specs.Numbers.{be32}
use Rattle.signature.specs.Signatures.{SFV, SFA, contents_end, stands_at}
use Rattle.chunk.specs.declared.Kind.TheVariants.{Video, Audio, Other}
use Rattle.chunk.specs.declared.Chunk.{Chunk}
use Rattle.chunk.specs.Openings.{kind_at}
use Rattle.profile.specs.declared.Stream.{Stream}
use Rattle.profile.specs.declared.Stream.TheVariants.{Absent, Open, Closed}
use Rattle.profile.specs.declared.Streams.{Streams}
use Rattle.profile.specs.declared.Verdict.{Verdict}
use Rattle.profile.specs.declared.steps.Profiling.{Profiling}
use Rattle.profile.specs.Streams.{after_end, after_kind}
use Rattle.profile.specs.Profiles.{judged_in, missing, letters_at, judged_at, first_broken, judged}
use Rattle.profile.specs.Steps.{state_number, state_by, streams_in, in_numbers, stepped, ended, gathered}

-- ---- a stream in numbers and back

by_number : (stream : Stream) → state_by (state_number stream) ≡ stream
unfolding state_by
by_number Absent = refl
by_number Open = refl
by_number Closed = refl

streams_again : (verdict : Verdict) (streams : Streams) → streams_in (in_numbers verdict streams) ≡ streams
streams_again verdict streams = rw (by_number streams.video, by_number streams.audio)

-- ---- an end chunk closes, another changes nothing

module _ (streams : Streams) (bytes : List ℕ) (letters : ℕ) where
  pub closed_by : stands_at contents_end bytes 0x20 ≡ true → after_end streams letters ≡ after_kind streams (kind_at bytes 0) letters
  unfolding kind_at
  closed_by e = rw e

  pub unchanged_by : stands_at contents_end bytes 0x20 ≡ false → streams ≡ after_kind streams (kind_at bytes 0) letters
  unfolding kind_at
  unchanged_by e = rw e (by_letters (eqb (be32 bytes 0) SFV) (eqb (be32 bytes 0) SFA))
    where
      by_letters : (t u : Bool) → streams ≡ after_kind streams (cond t Video (cond u Audio Other)) letters
      by_letters true u = refl
      by_letters false true = refl
      by_letters false false = refl

-- ---- the first that is broken of three

first_of_three : (a b d : Verdict) → first_broken (first_broken a b) d ≡ first_broken a (first_broken b d)
first_of_three a b d = by_rule (eqb a.rule 0) refl
  where
    by_rule : (t : Bool) → eqb a.rule 0 ≡ t → first_broken (first_broken a b) d ≡ first_broken a (first_broken b d)
    by_rule true e = rw e
    by_rule false e = rw (e, e)

-- ---- all chunks

-- a window begins with the bytes of its chunk
pub record Shows (container window : List ℕ) (chunk : Chunk) : Type 0 where
  pub kind : kind_at window 0 ≡ chunk.kind
  pub letters : be32 window 0 ≡ letters_at container chunk
  pub judged_there : (streams : Streams) → judged_in window chunk.start streams ≡ judged_at container streams chunk

module _ (container : List ℕ) (window : ℕ → List ℕ) where
  unfoldable pub AllShow : List Chunk → Type 0
  AllShow [] = Unit
  AllShow (chunk ∷ chunks) = Shows container (window chunk.start) chunk × AllShow chunks

  one_more : (chunk : Chunk) (verdict : Verdict) (streams : Streams) → Shows container (window chunk.start) chunk
      → stepped (window chunk.start) chunk.start (in_numbers verdict streams)
      ≡ in_numbers (first_broken verdict (judged_at container streams chunk)) (after_kind streams chunk.kind (letters_at container chunk))
  unfolding stepped
  one_more chunk verdict streams s = rw (streams_again verdict streams, s.judged_there streams, s.kind, s.letters)

  pub gathered_is_judged : (chunks : List Chunk) (verdict : Verdict) (streams : Streams) → AllShow chunks
      → ended (length container) (gathered window chunks (in_numbers verdict streams)) ≡ first_broken verdict (judged container streams chunks)
  unfolding gathered judged AllShow
  gathered_is_judged [] verdict streams all = ap (λ (s : Streams). first_broken verdict (missing (length container) s)) (streams_again verdict streams)
  gathered_is_judged (chunk ∷ chunks) verdict streams all =
      let here = judged_at container streams chunk in
      let next = after_kind streams chunk.kind (letters_at container chunk) in
      ap (λ (known : Profiling). ended (length container) (gathered window chunks known)) (one_more chunk verdict streams all.0)
      ∙ gathered_is_judged chunks (first_broken verdict here) next all.1
      ∙ first_of_three verdict here (judged container next chunks)
