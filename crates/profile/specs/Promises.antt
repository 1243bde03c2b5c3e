-- Request 14 in its own words: which films are plain, and what is answered of the others. Each promise is proved under the same name in proofs/Promises.antt.
use Rattle.std.specs.Prelude.{ℕ, ◌+◌, ◌%◌, ◌≡◌, ◌↔◌, ◌⊎◌, Bool, true, false, ◌||◌, ◌&&◌, List, [], ◌∷◌, ◌++◌, length, eqb, Ok, Err}
use Rattle.word.specs.Numbers.{be16, be32}
use Rattle.signature.specs.Signatures.{SFV, SFA}
use Rattle.refusal.specs.declared.Refusal.{Refusal}
use Rattle.reading.specs.declared.Applied.{Applied}
use Rattle.chunk.specs.declared.Kind.{Kind}
use Rattle.chunk.specs.declared.Kind.TheVariants.{Video, Audio, Other, End}
use Rattle.chunk.specs.declared.Chunk.{Chunk}
use Rattle.header.specs.declared.Header.{Header}
use Rattle.film.specs.Films.{film, refused, film_of}
use Rattle.profile.specs.declared.Verdict.{Verdict}
use Rattle.profile.specs.Profiles.{plain, broken, letters_at, heard, profile_of}

-- ---- chunks among chunks

unfoldable pub any_of : (Chunk → Bool) → List Chunk → Bool
any_of test [] = false
any_of test (chunk ∷ chunks) = test chunk || any_of test chunks

unfoldable pub Each : (Chunk → Type 0) → List Chunk → Type 0
Each Holds [] = Unit
Each Holds (chunk ∷ chunks) = Holds chunk × Each Holds chunks

abbrev pub is_end : Kind → Bool
is_end Video = false
is_end Audio = false
is_end Other = false
is_end End = true

-- an end chunk of these letters
abbrev pub is_end_of : List ℕ → ℕ → Chunk → Bool
is_end_of container letters chunk = is_end chunk.kind && eqb (letters_at container chunk) letters

-- such a one is among them
abbrev pub ended : List ℕ → ℕ → List Chunk → Bool
ended container letters chunks = any_of (is_end_of container letters) chunks

-- a chunk of these letters is among them, an end or another
abbrev pub occurs : List ℕ → ℕ → List Chunk → Bool
occurs container letters chunks = any_of (λ chunk. eqb (letters_at container chunk) letters) chunks

-- ---- the four rules

-- "chunk header size 0x18"
abbrev pub HeaderPlain : List ℕ → Chunk → Type 0
HeaderPlain container chunk = be16 container (chunk.start + 8) ≡ 0x18

-- "every chunk's block size plus 8 a multiple of 0x20"
abbrev pub SizePlain : List ℕ → Chunk → Type 0
SizePlain container chunk = (be32 container (chunk.start + 4) + 8) % 0x20 ≡ 0

-- "closed by exactly one end chunk of its letters, and none of its payloads after that": no other end stands before it, and no chunk of its letters after it
pub record ClosedOnce (container : List ℕ) (letters : ℕ) (chunks : List Chunk) : Type 0 where
  pub before : List Chunk
  pub end : Chunk
  pub after : List Chunk
  pub split : chunks ≡ before ++ end ∷ after
  pub is_end : is_end_of container letters end ≡ true
  pub none_before : ended container letters before ≡ false
  pub none_after : occurs container letters after ≡ false

-- "no signatures but `@SFV` and `@SFA`"
abbrev pub LettersKnown : List ℕ → Chunk → Type 0
LettersKnown container chunk = (letters_at container chunk ≡ SFV) ⊎ (letters_at container chunk ≡ SFA)

-- a plain film: its chunks, and whether it has audio
pub record PlainFilm (container : List ℕ) (audio : Bool) (chunks : List Chunk) : Type 0 where
  pub headers : Each (HeaderPlain container) chunks
  pub sizes : Each (SizePlain container) chunks
  pub video_closed : ClosedOnce container SFV chunks
  pub audio_closed : audio ≡ true → ClosedOnce container SFA chunks
  pub letters : Each (LettersKnown container) chunks

-- A film that is accepted with audio chosen is plain exactly when every chunk's header size is 0x18, every block size plus 8 a multiple of 0x20, each stream that there is closed
-- once, and no letters are others than `@SFV` and `@SFA`.
abbrev pub PlainExactlyWhen : Type 0
PlainExactlyWhen =
    (container : List ℕ) (header : Header) (applied : Applied) (chunks : List Chunk) → film_of container heard ≡ film header applied chunks
    → (profile_of container ≡ Ok plain) ↔ PlainFilm container header.audio chunks

-- ---- the first that is broken

-- these letters are those of a stream that there is
abbrev pub is_present : Bool → ℕ → Bool
is_present audio letters = eqb letters SFV || (audio && eqb letters SFA)

-- a chunk that breaks no rule, where some stand before it: of its stream, if there is that stream, no end does
pub record Keeps (container : List ℕ) (audio : Bool) (before : List Chunk) (chunk : Chunk) : Type 0 where
  pub header_plain : HeaderPlain container chunk
  pub size_plain : SizePlain container chunk
  pub not_closed : is_present audio (letters_at container chunk) && ended container (letters_at container chunk) before ≡ false
  pub letters_known : LettersKnown container chunk

-- none of these chunks breaks a rule, where some stand before them
unfoldable pub KeepAll : List ℕ → Bool → List Chunk → List Chunk → Type 0
KeepAll container audio before [] = Unit
KeepAll container audio before (chunk ∷ chunks) = Keeps container audio before chunk × KeepAll container audio (before ++ chunk ∷ []) chunks

-- "the first rule it breaks in the order just given": a chunk breaks this rule, and none before it; of rule 3, which stream: 0 for video, 1 for audio
pub data Breaks (container : List ℕ) (audio : Bool) (before : List Chunk) (chunk : Chunk) : ℕ → ℕ → Type 0 where
  header_broken : (HeaderPlain container chunk → ⊥) → Breaks container audio before chunk 1 0
  size_broken : HeaderPlain container chunk → (SizePlain container chunk → ⊥) → Breaks container audio before chunk 2 0
  video_closed : HeaderPlain container chunk → SizePlain container chunk → letters_at container chunk ≡ SFV → ended container SFV before ≡ true → Breaks container audio before chunk 3 0
  audio_closed : HeaderPlain container chunk → SizePlain container chunk → audio ≡ true → letters_at container chunk ≡ SFA → ended container SFA before ≡ true
      → Breaks container audio before chunk 3 1
  letters_broken : HeaderPlain container chunk → SizePlain container chunk → (LettersKnown container chunk → ⊥) → Breaks container audio before chunk 4 0

-- "yes, or the first offending chunk and the first rule it breaks ..; a missing end is reported at the container's length, video before audio"
pub data FirstOf (container : List ℕ) (audio : Bool) (chunks : List Chunk) : Verdict → Type 0 where
  none_broken : KeepAll container audio [] chunks → ended container SFV chunks ≡ true → (audio ≡ true → ended container SFA chunks ≡ true) → FirstOf container audio chunks plain
  at_chunk : (before : List Chunk) (chunk : Chunk) (after : List Chunk) (rule stream : ℕ) → chunks ≡ before ++ chunk ∷ after → KeepAll container audio [] before
      → Breaks container audio before chunk rule stream → FirstOf container audio chunks (broken chunk.start rule stream)
  video_open : KeepAll container audio [] chunks → ended container SFV chunks ≡ false → FirstOf container audio chunks (broken (length container) 3 0)
  audio_open : KeepAll container audio [] chunks → ended container SFV chunks ≡ true → audio ≡ true → ended container SFA chunks ≡ false
      → FirstOf container audio chunks (broken (length container) 3 1)

-- What is answered of a film is that it is plain, or the first chunk that breaks a rule and the first rule that it breaks, or where no chunk does the end that is missing.
abbrev pub FirstBroken : Type 0
FirstBroken =
    (container : List ℕ) (header : Header) (applied : Applied) (chunks : List Chunk) (verdict : Verdict) → film_of container heard ≡ film header applied chunks
    → profile_of container ≡ Ok verdict → FirstOf container header.audio chunks verdict

-- "Refusals: the walk's own, before any rule is tried"
abbrev pub RefusedBeforeAnyRule : Type 0
RefusedBeforeAnyRule = (container : List ℕ) (refusal : Refusal) → film_of container heard ≡ refused refusal → profile_of container ≡ Err refusal
