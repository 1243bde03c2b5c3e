-- The promises of specs/Promises.antt, each under its name. An index that was built is the entries of the film's chunks; the entry that answers comes from a
-- video chunk, and extraction puts that chunk's payload where the payloads before it end. Assumes nothing.
use Rattle.std.specs.Prelude.{Some, None, Result, Ok, Err}
use Rattle.refusal.specs.declared.Refusal.{Refusal}
use Prim.Native.Nat.{ℕ, ◌+◌, ◌-◌, ◌≤◌, ◌<◌}
use mathlib.Core.Path.{◌≡◌, refl, sym, ap, ◌∙◌, subst}
use mathlib.Core.List.{List, [], ◌∷◌, ◌++◌}
use mathlib.Core.Bool.{Bool, true, false, cond, ◌||◌}
use native.Mathlib.Omega.{arith}
use native.Mathlib.Nat.{zero-add}
use lib.ListN.{length, get_or, take}
use lib.Dec.{ltb}
use Rattle.laws.specs.Lists.{at}
use Rattle.reading.specs.declared.AudioChoice.{AudioChoice}
use Rattle.reading.specs.declared.Reading.{Reading}
use Rattle.reading.specs.declared.Applied.{Applied}
use Rattle.reading.specs.Choices.{as_original}
use Rattle.chunk.specs.declared.Kind.{Kind}
use Rattle.chunk.specs.declared.Kind.TheVariants.{Video}
use Rattle.chunk.specs.declared.Chunk.{Chunk}
use Rattle.chunk.specs.Chunks.{chunk_at, payload_of}
use Rattle.chunk.proofs.Promises.{PayloadsLieWithin}
use Rattle.refusal.specs.declared.Cause.TheVariants.{ShortOutput}
use Rattle.walk.specs.Walks.{video_size, audio_size}
use Rattle.walk.proofs.WalkLaws.{stands_at_its_start}
use Rattle.unmasking.specs.Unmasking.{unmasking_of}
use Rattle.header.specs.declared.Header.{Header}
use Rattle.film.specs.Films.{Film, film, refused, film_of, survey_of}
use Rattle.extract.specs.declared.Contents.{Contents}
use Rattle.extract.specs.Streams.{video_part}
use Rattle.extract.specs.Extraction.{contents_of, refused_by, extracted_in, extracted_of, left_by, video_of, audio_of, SizesWithin, Extraction}
use Rattle.extract.specs.Promises.{without_audio}
use Rattle.extract.proofs.Promises.{SizesFitTheContainer, NoAudioIsTheVideo}
use Rattle.extract.proofs.StreamLaws.{video_under}
use Rattle.extract.proofs.ResultLaws.{its_walk, its_length, both_hold, video_at}
use Rattle.seek.specs.Entries.{place_at, length_at}
use Rattle.seek.specs.Seeking.{begun_by, sought_in}
use Rattle.index.specs.Entries.{entries_of}
use Rattle.index.specs.Indexing.{silent, index_of}
use Rattle.index.proofs.IndexLaws.{replied}
use Rattle.promises_seek.specs.Promises as promised
use Rattle.promises_seek.specs.Promises.{HoldsAt, LeadsTo, Holds}
use Rattle.promises_seek.proofs.ChainLaws.{answers, past}
use Rattle.promises_seek.proofs.EntryLaws.{Comes, chained, comes}

module _ (container : List ℕ) (video audio video_after audio_after : List ℕ) (contents : Contents) (header : Header) (applied : Applied)
    (e : Extraction container silent None video audio (Ok contents) video_after audio_after) where
  -- the size is that of the chunks' video
  its_size : (chunks : List Chunk) → film_of container silent ≡ film header applied chunks → contents.video_size ≡ 0 + video_size chunks
  its_size chunks f =
      let by = unmasking_of None header.audio_codec in
      let held = (both_hold container silent header applied chunks f None video audio video_after audio_after contents e).0 in
      omega (arith, held.long, its_length container silent header applied chunks f (video_under by))

  -- an offset in the payload of a video chunk leads to the byte that stands so far behind the payloads before it
  leads : (before after : List Chunk) (chunk : Chunk) → film_of container silent ≡ film header applied (before ++ chunk ∷ after) → chunk.kind ≡ Video
      → (p : ℕ) → p < chunk.len → HoldsAt container (chunk_at container applied chunk.start) p (at video_after (video_size before + p))
  leads before after chunk f v p l =
      let stands = stands_at_its_start container applied header.start before after chunk (its_walk container silent header applied (before ++ chunk ∷ after) f) in
      let whole : length (payload_of container chunk) ≡ chunk.len = (PayloadsLieWithin container applied chunk.start chunk stands).1 in
      let part : video_part chunk.kind (payload_of container chunk) ≡ payload_of container chunk = ap (λ (k : Kind). video_part k (payload_of container chunk)) v in
      let room : p < length (video_part chunk.kind (payload_of container chunk)) = rw (part, whole) l in
      let there = video_at container silent header applied before after chunk f None video audio video_after audio_after contents e p room in
      rw stands (v, l, sym (there ∙ ap (λ (bytes : List ℕ). at bytes p) part))

  module _ (chunks : List Chunk) (f : film_of container silent ≡ film header applied chunks) where
    abbrev index : List (List ℕ)
    index = entries_of chunks

    -- the last entry that begins at or before the byte comes from a video chunk
    by_entry : (n i : ℕ) → Comes 0 chunks (get_or index i []) → place_at index i ≤ n → n - place_at index i < length_at index i
        → LeadsTo container applied (Some (record { chunk = get_or (get_or index i []) 1 0; offset = n - place_at index i })) (at video_after n)
    by_entry n i c b h =
        let place : place_at index i ≡ video_size c.before = ap (λ (entry : List ℕ). get_or entry 0 0) c.holds ∙ zero-add (video_size c.before) in
        let start : get_or (get_or index i []) 1 0 ≡ c.chunk.start = ap (λ (entry : List ℕ). get_or entry 1 0) c.holds in
        let long : length_at index i ≡ c.chunk.len = ap (λ (entry : List ℕ). get_or entry 2 0) c.holds in
        let offset = n - place_at index i in
        let byte : video_size c.before + offset ≡ n = omega (arith, place, b) in
        let led = leads c.before c.after c.chunk (f ∙ ap (film header applied) c.split) c.video offset (omega (arith, long, h)) in
        rw start (rw byte at led)

    held_by : (n i : ℕ) → Comes 0 chunks (get_or index i []) → place_at index i ≤ n → n - place_at index i < length_at index i
        → Holds chunks n (Some (record { chunk = get_or (get_or index i []) 1 0; offset = n - place_at index i }))
    held_by n i c b h =
        let place : place_at index i ≡ video_size c.before = ap (λ (entry : List ℕ). get_or entry 0 0) c.holds ∙ zero-add (video_size c.before) in
        let start : get_or (get_or index i []) 1 0 ≡ c.chunk.start = ap (λ (entry : List ℕ). get_or entry 1 0) c.holds in
        let long : length_at index i ≡ c.chunk.len = ap (λ (entry : List ℕ). get_or entry 2 0) c.holds in
        record {
          before = c.before;
          chunk = c.chunk;
          after = c.after;
          offset = n - place_at index i;
          split = c.split;
          video = c.video;
          there = omega (arith, place, b);
          within = omega (arith, long, h);
          answers = ap (λ (s : ℕ). Some (record { chunk = s; offset = n - place_at index i })) start;
        }

    named : (n : ℕ) → n < contents.video_size → Holds chunks n (sought_in index n)
    named n l =
        let a = answers index (0 + video_size chunks) n (chained 0 chunks) (omega (arith, its_size chunks f)) in
        let last = begun_by index n - 1 in
        rw a.3 (held_by n last (comes 0 chunks last a.0) a.1 a.2)

    sought : (n : ℕ) → n < contents.video_size → LeadsTo container applied (sought_in index n) (at video_after n)
    sought n l =
        let a = answers index (0 + video_size chunks) n (chained 0 chunks) (omega (arith, its_size chunks f)) in
        let last = begun_by index n - 1 in
        rw a.3 (by_entry n last (comes 0 chunks last a.0) a.1 a.2)

    not_sought : (n : ℕ) → contents.video_size ≤ n → sought_in index n ≡ None
    not_sought n l = past index (0 + video_size chunks) n (chained 0 chunks) (omega (arith, its_size chunks f))

-- ---- with whatever choice of audio

-- every answer keeps the bound
within : (container : List ℕ) (reading : Reading) (video audio : List ℕ) → SizesWithin container (extracted_of container reading video audio)
within container reading video audio = by_film (film_of container reading) refl
  where
    by_room : (t : Bool) (header : Header) (seen heard : ℕ) → seen + heard ≤ length container
        → SizesWithin container (cond t (refused_by (ShortOutput seen heard)) (Ok (contents_of header seen heard)))
    by_room true header seen heard h = tt
    by_room false header seen heard h = h

    by_film : (f : Film) → film_of container reading ≡ f → SizesWithin container (extracted_in (length video) (length audio) (survey_of (film_of container reading)))
    by_film (film header applied chunks) f =
        rw f
        (by_room (ltb (length video) (video_size chunks) || ltb (length audio) (audio_size chunks)) header (video_size chunks) (audio_size chunks)
        (SizesFitTheContainer container reading header applied (length chunks) (video_size chunks) (audio_size chunks) (ap survey_of f)))
    by_film (refused refusal) f = rw f tt

-- what is extracted with some choice is extracted with none too: the same size of the video, and the same bytes
record Quiet (container video video_after : List ℕ) (contents : Contents) (audio : List ℕ) : Type 0 where
  held : Contents
  heard : List ℕ
  extraction : Extraction container silent None video audio (Ok held) video_after heard
  sized : held.video_size ≡ contents.video_size

quiet : (container : List ℕ) (choice : AudioChoice) (video audio video_after audio_after : List ℕ) (contents : Contents)
    → Extraction container (as_original choice) None video audio (Ok contents) video_after audio_after → Quiet container video video_after contents audio
quiet container choice video audio video_after audio_after contents e =
    let r = extracted_of container silent video audio in
    let f = film_of container silent in
    let seen = left_by r video (video_of container None f) in
    let heard = left_by r audio (audio_of container None f) in
    let none : Extraction container silent None video audio r seen heard = (refl, refl, refl, within container silent video audio) in
    let same = NoAudioIsTheVideo container (as_original choice) choice None video audio video_after audio_after contents audio seen heard r e none in
    record {
      held = without_audio contents;
      heard = heard;
      extraction = subst (λ (x : Result Contents Refusal). Extraction container silent None video audio x video_after heard) same.0
          (subst (λ (v : List ℕ). Extraction container silent None video audio r v heard) same.1 none);
      sized = refl;
    }

pub JumpsAgreeWithTheStream : promised.JumpsAgreeWithTheStream
JumpsAgreeWithTheStream container list index r video audio video_after audio_after contents header applied chunks choice n i z e f l =
    let built : take r.count index ≡ entries_of chunks = (replied container list index r i z).1 ∙ ap index_of f in
    let q = quiet container choice video audio video_after audio_after contents e in
    rw built (sought container video audio video_after q.heard q.held header applied q.extraction chunks f n (omega (arith, q.sized, l)))

pub JumpsNameTheChunk : promised.JumpsNameTheChunk
JumpsNameTheChunk container list index r video audio video_after audio_after contents header applied chunks choice n i z e f l =
    let built : take r.count index ≡ entries_of chunks = (replied container list index r i z).1 ∙ ap index_of f in
    let q = quiet container choice video audio video_after audio_after contents e in
    rw built (named container video audio video_after q.heard q.held header applied q.extraction chunks f n (omega (arith, q.sized, l)))

pub PastTheSizeIsPastTheEnd : promised.PastTheSizeIsPastTheEnd
PastTheSizeIsPastTheEnd container list index r video audio video_after audio_after contents choice n i z e l = by_film (quiet container choice video audio video_after audio_after contents e) (film_of container silent) refl
  where
    by_film : (q : Quiet container video video_after contents audio) (f : Film) → film_of container silent ≡ f → sought_in (take r.count index) n ≡ None
    by_film q (film header applied chunks) f =
        let built : take r.count index ≡ entries_of chunks = (replied container list index r i z).1 ∙ ap index_of f in
        rw built (not_sought container video audio video_after q.heard q.held header applied q.extraction chunks f n (omega (arith, q.sized, l)))
    by_film q (refused refusal) f =
        let never : Ok q.held ≡ Err refusal = rw f at q.extraction.0 in
        let z : ◌≡◌ {A = ℕ} 0 1 = cc in
        absurd (omega arith)
