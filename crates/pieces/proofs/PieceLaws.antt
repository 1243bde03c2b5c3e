-- What a beginning and the windows of a container say is what the container says. Assumes nothing.
use Rattle.std.specs.Prelude.{Option, Some, None, Result, Ok, Err}
use Prim.Native.Nat.{ℕ, ◌+◌, ◌-◌, ◌≤◌, ◌<◌}
use mathlib.Core.Path.{◌≡◌, refl, sym, ap, ap₂, ◌∙◌}
use mathlib.Core.List.{List, [], ◌∷◌, ◌++◌}
use mathlib.Core.Bool.{Bool, true, false, cond}
use mathlib.Core.Logic.{◌⊎◌, inl, inr, ⊎_elim}
use native.Mathlib.Omega.{arith}
use lib.ListN.{length, take, drop, length-take, length-drop}
use lib.Seq.{take_all, length-take-le}
use lib.Dec.{ltb, leb}
use borrow.Author.Tests.{lt-ltb, le-ltb, le-leb, leb-true, ltb-false, eq-eqb}
use Rattle.laws.proofs.Side.{side}
use Rattle.refusal.specs.declared.Refusal.{Refusal}
use Rattle.refusal.specs.Numbers.{number_of}
use Rattle.reading.specs.declared.TableMode.{TableMode}
use Rattle.reading.specs.declared.Reading.{Reading}
use Rattle.reading.specs.declared.Applied.{Applied}
use Rattle.header.specs.declared.Header.{Header}
use Rattle.header.specs.Headers.{step1, header_of}
use Rattle.laws_prefix.specs.Needs.{Open}
use Rattle.laws_prefix.proofs.Promises.{HeaderOfABeginning, RefusalOfABeginning}
use Rattle.chunk.specs.declared.Chunk.{Chunk}
use Rattle.chunk.specs.Chunks.{chunk_at, payload_of}
use Rattle.chunk.specs.Windows.{step_in}
use Rattle.chunk.proofs.FoundLaws.{found}
use Rattle.chunk.proofs.Promises.{WindowsNeverMislead, PayloadsLieWithin}
use Rattle.chunk.specs.declared.Kind.{Kind}
use Rattle.chunk.specs.declared.Kind.TheVariants.{Video, Audio, Other, End}
use Rattle.laws.specs.Lists.{tab}
use Rattle.key.specs.KeyTable.{keys_of}
use Rattle.mask.specs.Video.{unmasked_video}
use Rattle.mask.specs.Audio.{masked_audio}
use Rattle.unmasking.specs.Unmasking.{is_adx, is_masked, unmasking_of, clear_video, clear_audio, cleared_by}
use Rattle.unmasking.proofs.Promises.{ClearByItsMask}
use Rattle.extract.specs.Streams.{video_part, audio_part}
use Rattle.walk.specs.Walks.{Ending, clean, stopped, onto, walk_from, joined}
use Rattle.walk.proofs.WalkLaws.{walk_over, walk_found, walk_refused}
use Rattle.chunk_mask.specs.ChunkMasks.{mask_of}
use Rattle.pieces.specs.Pieces.{too_long, is_open, settled_as, header_in, film_step, clear_of, Learnt, Windows, Payloads}

-- ---- the header

-- all bytes settle each answer
all_settle : (container : List ℕ) (m : TableMode) (answer : Result Header Refusal) → settled_as container (length container) m answer ≡ Some answer
all_settle container m (Ok header) = refl
all_settle container m (Err refusal) = rw (le-ltb (length container) (length container) (omega arith))

-- a refusal that is tested as closed is
closed : (s : List ℕ) (m : TableMode) (refusal : Refusal) → is_open s m refusal ≡ false → Open s m refusal → ⊥
closed s m refusal e undecided =
    let f : is_open s m refusal ≡ true = rw (eq-eqb (number_of refusal.cause) 1 undecided.0, undecided.1) in
    let z : ◌≡◌ {A = ℕ} 0 1 = cc in
    absurd (omega arith)

module _ (container : List ℕ) (how : Reading) where
  too_long_lem : 0x40000000 < length container → (beginning : List ℕ) → header_in beginning (length container) how ≡ Some (header_of container how)
  unfolding header_in header_of
  too_long_lem h beginning = rw (lt-ltb 0x40000000 (length container) h)

  pub whole : header_in container (length container) how ≡ Some (header_of container how)
  unfolding header_in
  whole =
      ⊎_elim (λ (h : 0x40000000 < length container). too_long_lem h container)
      (λ (few : length container ≤ 0x40000000).
      rw (le-ltb 0x40000000 (length container) few) (all_settle container how.tables (header_of container how)))
      (side 0x40000000 (length container))

  module _ (few : length container ≤ 0x40000000) (n : ℕ) where
    by_test : (refusal : Refusal) → header_of (take n container) how ≡ Err refusal → (t : Bool) → is_open (take n container) how.tables refusal ≡ t
        → (cond {A = Option (Result Header Refusal)} t None (Some (Err refusal)) ≡ None) ⊎ (cond {A = Option (Result Header Refusal)} t None (Some (Err refusal)) ≡ Some (header_of container how))
    by_test refusal e true f = inl refl
    by_test refusal e false f = inr (ap Some (sym (RefusalOfABeginning container n how refusal few (closed (take n container) how.tables refusal f) e)))

    by_answer : length (take n container) < length container → (answer : Result Header Refusal) → header_of (take n container) how ≡ answer
        → (settled_as (take n container) (length container) how.tables answer ≡ None) ⊎ (settled_as (take n container) (length container) how.tables answer ≡ Some (header_of container how))
    by_answer short (Ok header) e = inr (ap Some (sym (HeaderOfABeginning container n how header few e)))
    by_answer short (Err refusal) e =
        rw (lt-ltb (length (take n container)) (length container) short) (by_test refusal e (is_open (take n container) how.tables refusal) refl)

    part_of_it : n < length container → (header_in (take n container) (length container) how ≡ None) ⊎ (header_in (take n container) (length container) how ≡ Some (header_of container how))
    unfolding header_in
    part_of_it h =
        let short : length (take n container) < length container = omega (arith, length-take-le n container (omega arith)) in
        rw (le-ltb 0x40000000 (length container) few) (by_answer short (header_of (take n container) how) refl)

  pub any_beginning : (n : ℕ) → (header_in (take n container) (length container) how ≡ None) ⊎ (header_in (take n container) (length container) how ≡ Some (header_of container how))
  any_beginning n =
      ⊎_elim (λ (h : 0x40000000 < length container). inr (too_long_lem h (take n container)))
      (λ (few : length container ≤ 0x40000000).
      ⊎_elim (λ (h : n < length container). part_of_it few n h)
      (λ (h : length container ≤ n). inr (ap (λ (beginning : List ℕ). header_in beginning (length container) how) (take_all n container h) ∙ whole))
      (side n (length container)))
      (side 0x40000000 (length container))

  -- what is known of a beginning is the container's
  pub known : (n : ℕ) (answer : Result Header Refusal) → header_in (take n container) (length container) how ≡ Some answer → header_of container how ≡ answer
  known n answer e =
      ⊎_elim (λ (f : header_in (take n container) (length container) how ≡ None). let z : ◌≡◌ {A = ℕ} 0 1 = cc in absurd (omega arith))
      (λ (f : header_in (take n container) (length container) how ≡ Some (header_of container how)). cc)
      (any_beginning n)

  -- a container whose header is read is not too long
  pub not_too_long : (header : Header) → header_of container how ≡ Ok header → length container ≤ 0x40000000
  unfolding header_of
  not_too_long header e = by_length (ltb 0x40000000 (length container)) refl e
    where
      by_length : (t : Bool) → ltb 0x40000000 (length container) ≡ t → cond t (Err too_long) (step1 container how) ≡ Ok header → length container ≤ 0x40000000
      by_length true f e = let z : ◌≡◌ {A = ℕ} 0 1 = cc in absurd (omega arith)
      by_length false f e = ltb-false 0x40000000 (length container) f

-- ---- the chunks

module _ (container : List ℕ) (reading : Applied) (few : length container ≤ 0x40000000) where
  pub film_step_lem : (window : List ℕ) (c : ℕ) → film_step window (length container) reading c ≡ step_in window (length container) reading c
  unfolding film_step
  film_step_lem window c = rw (le-ltb 0x40000000 (length container) few)

  module _ (window : ℕ → List ℕ) (size : ℕ → ℕ) (windows : Windows container window size) where
    pub there : (c : ℕ) (step : Result (Option Chunk) Refusal) → film_step (window c) (length container) reading c ≡ Some step → chunk_at container reading c ≡ step
    there c step e =
        let f : step_in (take (size c) (drop c container)) (length container) reading c ≡ Some step = (rw (film_step_lem (window c) c, windows c) at e) in
        ⊎_elim (λ (g : step_in (take (size c) (drop c container)) (length container) reading c ≡ None). let z : ◌≡◌ {A = ℕ} 0 1 = cc in absurd (omega arith))
        (λ (g : step_in (take (size c) (drop c container)) (length container) reading c ≡ Some (chunk_at container reading c)). cc)
        (WindowsNeverMislead container reading c (size c))

    -- a window that a chunk was found by has the 45 bytes of its opening
    pub window_long : (c : ℕ) (chunk : Chunk) → film_step (window c) (length container) reading c ≡ Some (Ok (Some chunk)) → 45 ≤ size c
    unfolding step_in
    window_long c chunk e =
        let left = (found container reading c chunk (there c (Ok (Some chunk)) e)).whole in
        let f : step_in (take (size c) (drop c container)) (length container) reading c ≡ Some (Ok (Some chunk)) = (rw (film_step_lem (window c) c, windows c) at e) in
        by_length (leb 45 (length (take (size c) (drop c container)))) refl _ (rw (le-ltb (length container - c) 45 left) at f)
      where
        by_length : (t : Bool) → leb 45 (length (take (size c) (drop c container))) ≡ t → (here : Result (Option Chunk) Refusal) → cond t (Some here) None ≡ Some (Ok (Some chunk)) → 45 ≤ size c
        by_length true q here g =
            let long : 45 ≤ length (take (size c) (drop c container)) = leb-true 45 (length (take (size c) (drop c container))) q in
            omega (arith, rw (length-take, length-drop) at long)
        by_length false q here g = let z : ◌≡◌ {A = ℕ} 0 1 = cc in absurd (omega arith)

    pub walk_learnt : (c : ℕ) (chunks : List Chunk) (ending : Ending) → Learnt window (length container) reading c chunks ending → walk_from container reading c ≡ record { chunks = chunks; ending = ending }
    walk_learnt c [] clean e = walk_over container reading c (there c (Ok None) e)
    walk_learnt c [] (stopped refusal) e = walk_refused container reading c refusal (there c (Err refusal) e)
    walk_learnt c (chunk ∷ chunks) ending e = walk_found container reading c chunk (there c (Ok (Some chunk)) e.0) ∙ ap (onto chunk) (walk_learnt chunk.next chunks ending e.1)

    -- two ways to make pieces that agree on each chunk that is found give the same stream
    pub same_joined : (piece piece' : Chunk → List ℕ) → ((c : ℕ) (chunk : Chunk) → chunk_at container reading c ≡ Ok (Some chunk) → piece chunk ≡ piece' chunk)
        → (c : ℕ) (chunks : List Chunk) (ending : Ending) → Learnt window (length container) reading c chunks ending → joined piece chunks ≡ joined piece' chunks
    unfolding joined
    same_joined piece piece' same c [] ending e = refl
    same_joined piece piece' same c (chunk ∷ chunks) ending e =
        ap₂ (λ (x y : List ℕ). x ++ y) (same c chunk (there c (Ok (Some chunk)) e.0)) (same_joined piece piece' same chunk.next chunks ending e.1)

  -- a payload is where its chunk says
  pub payload_there : (payload : Chunk → List ℕ) → Payloads container payload → (c : ℕ) (chunk : Chunk) → chunk_at container reading c ≡ Ok (Some chunk) → payload chunk ≡ payload_of container chunk
  payload_there payload payloads c chunk e = rw (le-leb (chunk.payload + chunk.len) (length container) (PayloadsLieWithin container reading c chunk e).0) (payloads chunk)

-- ---- the payloads

module _ (number : ℕ) (codec : Option ℕ) (data-type : ℕ) where
  either_way : (test : Bool) (bytes : List ℕ) → bytes ≡ [] → cond test bytes [] ≡ []
  either_way true bytes e = e
  either_way false bytes e = refl

  -- no bytes, made clear, are no bytes
  no_video : clear_video (unmasking_of (Some number) codec) data-type [] ≡ []
  unfolding unmasked_video
  no_video = either_way (is_masked true data-type) (unmasked_video (keys_of number) []) refl

  no_audio : clear_audio (unmasking_of (Some number) codec) data-type [] ≡ []
  unfolding masked_audio tab
  no_audio = either_way (is_masked (is_adx codec) data-type) (masked_audio (keys_of number) []) refl

  video_of_lem : (kind : Kind) (payload : List ℕ)
      → video_part kind (cleared_by number (mask_of codec kind data-type) payload) ≡ clear_video (unmasking_of (Some number) codec) data-type (video_part kind payload)
  video_of_lem Video payload = sym (ClearByItsMask number data-type codec payload).0
  video_of_lem Audio payload = sym no_video
  video_of_lem Other payload = sym no_video
  video_of_lem End payload = sym no_video

  audio_of_lem : (kind : Kind) (payload : List ℕ)
      → audio_part kind (cleared_by number (mask_of codec kind data-type) payload) ≡ clear_audio (unmasking_of (Some number) codec) data-type (audio_part kind payload)
  audio_of_lem Video payload = sym no_audio
  audio_of_lem Audio payload = sym (ClearByItsMask number data-type codec payload).1
  audio_of_lem Other payload = sym no_audio
  audio_of_lem End payload = sym no_audio

-- a chunk's share in a stream is the same whether it is made clear by the mask that the payload has, or as a share of the stream
pub video_share : (by : Option ℕ) (codec : Option ℕ) (chunk : Chunk) (payload : List ℕ)
    → video_part chunk.kind (clear_of by codec chunk payload) ≡ clear_video (unmasking_of by codec) chunk.data_type (video_part chunk.kind payload)
video_share None codec chunk payload = refl
video_share (Some number) codec chunk payload = video_of_lem number codec chunk.data_type chunk.kind payload

pub audio_share : (by : Option ℕ) (codec : Option ℕ) (chunk : Chunk) (payload : List ℕ)
    → audio_part chunk.kind (clear_of by codec chunk payload) ≡ clear_audio (unmasking_of by codec) chunk.data_type (audio_part chunk.kind payload)
audio_share None codec chunk payload = refl
audio_share (Some number) codec chunk payload = audio_of_lem number codec chunk.data_type chunk.kind payload
