-- A stream takes a part of each payload, by the chunk's kind, and makes it clear at its own length. The payload of a chunk that was found is in the
-- container, so a stream is as long as its size says. Assumes nothing.
use Rattle.std.specs.Prelude.{Some, Ok}
use Prim.Native.Nat.{ℕ, ◌+◌}
use mathlib.Core.Path.{◌≡◌, refl, sym, ap, ap₂, ◌∙◌}
use mathlib.Core.List.{List, [], ◌∷◌, ◌++◌, append-nil, append_assoc}
use mathlib.Core.Bool.{Bool, true, false, cond}
use native.Mathlib.Omega.{arith}
use lib.ListN.{length, length-append}
use Rattle.reading.specs.declared.Applied.{Applied}
use Rattle.mask.specs.Video.{unmasked_video}
use Rattle.mask.specs.Audio.{masked_audio}
use Rattle.mask.proofs.UndoLaws.{video_length, audio_length}
use Rattle.chunk.specs.declared.Kind.{Kind}
use Rattle.chunk.specs.declared.Kind.TheVariants.{Video, Audio, Other, End}
use Rattle.chunk.specs.declared.Chunk.{Chunk}
use Rattle.chunk.specs.Chunks.{chunk_at, payload_of}
use Rattle.chunk.proofs.Promises.{PayloadsLieWithin}
use Rattle.walk.specs.Walks.{walk_from, joined, video_in, audio_in, size_of}
use Rattle.walk.proofs.WalkLaws.{every_walk}
use Rattle.unmasking.specs.declared.Unmasking.{Unmasking}
use Rattle.unmasking.specs.Unmasking.{is_masked, clear_video, clear_audio}
use Rattle.extract.specs.Streams.{video_part, audio_part}

-- its part of a payload and that part's share of the length, and how it makes a part clear, by the data type
pub record Stream : Type 0 where
  pub part : Kind → List ℕ → List ℕ
  pub share : Kind → ℕ → ℕ
  pub clear : ℕ → List ℕ → List ℕ
  pub parted : (kind : Kind) (payload : List ℕ) → length (part kind payload) ≡ share kind (length payload)
  pub keeps : (data-type : ℕ) (payload : List ℕ) → length (clear data-type payload) ≡ length payload

-- what a chunk gives to the stream
abbrev pub piece_of : Stream → List ℕ → Chunk → List ℕ
piece_of stream container chunk = stream.clear chunk.data_type (stream.part chunk.kind (payload_of container chunk))

-- the stream from a place of the container on
abbrev pub stream_from : Stream → List ℕ → Applied → ℕ → List ℕ
stream_from stream container reading c = joined (piece_of stream container) (walk_from container reading c).chunks

-- ---- video and audio

pub video_parted : (kind : Kind) (payload : List ℕ) → length (video_part kind payload) ≡ video_in kind (length payload)
video_parted Video payload = refl
video_parted Audio payload = refl
video_parted Other payload = refl
video_parted End payload = refl

pub audio_parted : (kind : Kind) (payload : List ℕ) → length (audio_part kind payload) ≡ audio_in kind (length payload)
audio_parted Video payload = refl
audio_parted Audio payload = refl
audio_parted Other payload = refl
audio_parted End payload = refl

either_length : (t : Bool) (plain payload : List ℕ) → length plain ≡ length payload → length (cond t plain payload) ≡ length payload
either_length true plain payload e = e
either_length false plain payload e = refl

pub video_keeps : (by : Unmasking) (data-type : ℕ) (payload : List ℕ) → length (clear_video by data-type payload) ≡ length payload
video_keeps by data-type payload =
    either_length (is_masked by.video data-type) (unmasked_video by.keys payload) payload (video_length by.keys payload)

pub audio_keeps : (by : Unmasking) (data-type : ℕ) (payload : List ℕ) → length (clear_audio by data-type payload) ≡ length payload
audio_keeps by data-type payload =
    either_length (is_masked by.audio data-type) (masked_audio by.keys payload) payload (audio_length by.keys payload)

abbrev pub video_under : Unmasking → Stream
video_under by = record { part = video_part; share = video_in; clear = clear_video by; parted = video_parted; keeps = video_keeps by }

abbrev pub audio_under : Unmasking → Stream
audio_under by = record { part = audio_part; share = audio_in; clear = clear_audio by; parted = audio_parted; keeps = audio_keeps by }

-- ---- how long a stream is

module _ (container : List ℕ) (reading : Applied) (c : ℕ) (chunk : Chunk) (e : chunk_at container reading c ≡ Ok (Some chunk)) where
  piece_length : (stream : Stream) → length (piece_of stream container chunk) ≡ stream.share chunk.kind chunk.len
  piece_length stream =
      stream.keeps chunk.data_type (stream.part chunk.kind (payload_of container chunk))
      ∙ stream.parted chunk.kind (payload_of container chunk) ∙ ap (stream.share chunk.kind) (PayloadsLieWithin container reading c chunk e).1

-- the pieces of two lists of chunks
pub joined_append : (piece : Chunk → List ℕ) (before after : List Chunk) → joined piece (before ++ after) ≡ joined piece before ++ joined piece after
unfolding joined
joined_append piece [] after = refl
joined_append piece (chunk ∷ before) after = rw (joined_append piece before after, append_assoc)

module _ (stream : Stream) (container : List ℕ) (reading : Applied) where
  -- stated of the first chunks of a walk, as many as one likes
  abbrev Sized : ℕ → List Chunk → Type 0
  Sized c chunks = (before after : List Chunk) → chunks ≡ before ++ after → length (joined (piece_of stream container) before) ≡ size_of stream.share before

  none_sized : (c : ℕ) → Sized c []
  unfolding joined size_of
  none_sized c [] after s = refl
  none_sized c (chunk ∷ before) after s = let z : ◌≡◌ {A = ℕ} 0 1 = cc in absurd (omega arith)

  one_more_sized : (c : ℕ) (chunk : Chunk) (chunks : List Chunk) → chunk_at container reading c ≡ Ok (Some chunk) → Sized chunk.next chunks → Sized c (chunk ∷ chunks)
  unfolding joined size_of
  one_more_sized c chunk chunks e rest [] after s = refl
  one_more_sized c chunk chunks e rest (first ∷ before) after s =
      length-append (piece_of stream container first) (joined (piece_of stream container) before)
      ∙ ap₂ (λ (x y : ℕ). x + y) (piece_length container reading c first (cc) stream) (rest before after (cc))

  pub front_length : (c : ℕ) (before after : List Chunk) → (walk_from container reading c).chunks ≡ before ++ after
      → length (joined (piece_of stream container) before) ≡ size_of stream.share before
  front_length = every_walk container reading Sized none_sized one_more_sized

  pub stream_length : (c : ℕ) → length (stream_from stream container reading c) ≡ size_of stream.share (walk_from container reading c).chunks
  stream_length c = front_length c (walk_from container reading c).chunks [] (sym (append-nil (walk_from container reading c).chunks))
