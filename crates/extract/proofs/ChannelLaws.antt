-- The streams of a film of which one channel is taken, or no audio, by the pieces of its chunks; and that the pieces of all channels are as long as those of all chunks.
-- Assumes nothing.
use Prim.Native.Nat.{ℕ, zero, suc, ◌+◌, ◌≤◌, ◌<◌}
use mathlib.Core.Path.{◌≡◌, refl, sym, ap, ap₂, ◌∙◌}
use mathlib.Core.List.{List, [], ◌∷◌, ◌++◌, map}
use mathlib.Core.Bool.{Bool, true, false, cond}
use mathlib.Core.Logic.{⊎_elim}
use native.Mathlib.Nat.{zero-add}
use native.Mathlib.Omega.{arith}
use lib.ListN.{length, take, drop, length-append}
use lib.Dec.{eqb, leb}
use borrow.Author.Tests.{eq-eqb, ne_eqb}
use Rattle.laws.proofs.Side.{side}
use Rattle.reading.specs.declared.Applied.{Applied}
use Rattle.chunk.specs.declared.Kind.{Kind}
use Rattle.chunk.specs.declared.Kind.TheVariants.{Video, Audio, Other, End}
use Rattle.chunk.specs.declared.Chunk.{Chunk}
use Rattle.chunk.specs.Openings.{Bytes}
use Rattle.chunk.specs.Chunks.{payload_of}
use Rattle.chunk.specs.Channels.{is_on, is_left, skipped, keeping, only, silenced}
use Rattle.chunk.proofs.FoundLaws.{found}
use Rattle.walk.specs.Walks.{walk_from, joined, video_in, audio_in, size_of, video_size, audio_size}
use Rattle.walk.proofs.WalkLaws.{every_walk}
use Rattle.unmasking.specs.declared.Unmasking.{Unmasking}
use Rattle.unmasking.specs.Unmasking.{clear_audio}
use Rattle.extract.specs.Streams.{audio_part, video_piece, audio_piece, video_stream, audio_stream, on_channel}
use Rattle.extract.specs.Promises.{sum_to}
use Rattle.extract.proofs.StreamLaws.{audio_keeps}

-- ---- the pieces of one channel

none : (bytes : List ℕ) → length bytes ≡ 0 → bytes ≡ []
none [] e = refl
none (x ∷ bytes) e = absurd (omega arith)

no_bytes : (t : Bool) (bytes : List ℕ) → cond t (take 0 bytes) [] ≡ []
no_bytes true bytes = refl
no_bytes false bytes = refl

module _ (container : List ℕ) (by : Unmasking) where
  -- nothing made clear is nothing
  nothing_clear : (data-type : ℕ) → clear_audio by data-type [] ≡ []
  nothing_clear data-type = none (clear_audio by data-type []) (audio_keeps by data-type [])

  -- a chunk that is not audio gives nothing to it; nor does one whose payload is skipped
  pub silent : (chunk : Chunk) (kind : Kind) → chunk.kind ≡ kind → audio_part kind (payload_of container chunk) ≡ [] → audio_piece container by chunk ≡ []
  silent chunk kind k e = rw (k, e) (nothing_clear chunk.data_type)

  silent_skipped : (chunk : Chunk) → chunk.kind ≡ Audio → audio_piece container by (skipped chunk) ≡ []
  silent_skipped chunk k = silent (skipped chunk) Audio k (no_bytes (leb (chunk.start + 0x20 + 0) (length container)) (drop (chunk.start + 0x20) container))

  module _ (kept : ℕ → Bool) where
    same_video : (chunk : Chunk) (kind : Kind) → chunk.kind ≡ kind → (t : Bool) → is_left kept kind chunk.channel ≡ t
        → video_piece container by (cond t (skipped chunk) chunk) ≡ video_piece container by chunk
    same_video chunk kind k false e = refl
    same_video chunk Video k true e = let z : ◌≡◌ {A = ℕ} 0 1 = cc in absurd (omega arith)
    same_video chunk Audio k true e = rw k
    same_video chunk Other k true e = let z : ◌≡◌ {A = ℕ} 0 1 = cc in absurd (omega arith)
    same_video chunk End k true e = let z : ◌≡◌ {A = ℕ} 0 1 = cc in absurd (omega arith)

    pub video_stays : (chunks : List Chunk) → video_stream container by (map (keeping kept) chunks) ≡ video_stream container by chunks
    unfolding joined keeping
    video_stays [] = refl
    video_stays (chunk ∷ chunks) =
        ap₂ (λ (a b : List ℕ). a ++ b) (same_video chunk chunk.kind refl (is_left kept chunk.kind chunk.channel) refl) (video_stays chunks)

  -- no audio is kept
  quiet_piece : (chunk : Chunk) (kind : Kind) → chunk.kind ≡ kind → audio_piece container by (cond (is_left (λ n. false) kind chunk.channel) (skipped chunk) chunk) ≡ []
  quiet_piece chunk Video k = silent chunk Video k refl
  quiet_piece chunk Audio k = silent_skipped chunk k
  quiet_piece chunk Other k = silent chunk Other k refl
  quiet_piece chunk End k = silent chunk End k refl

  pub no_audio : (chunks : List Chunk) → audio_stream container by (map silenced chunks) ≡ []
  unfolding joined keeping
  no_audio [] = refl
  no_audio (chunk ∷ chunks) = ap₂ (λ (a b : List ℕ). a ++ b) (quiet_piece chunk chunk.kind refl) (no_audio chunks)

  module _ (channel : ℕ) where
    -- a chunk's piece with one channel, before what the others give: it is there where the chunk is of that channel
    one_piece : (chunk : Chunk) (chunks : List Chunk) (kind : Kind) → chunk.kind ≡ kind → (t : Bool) → eqb chunk.channel channel ≡ t
        → audio_piece container by (cond (is_left (λ n. eqb n channel) kind chunk.channel) (skipped chunk) chunk) ++ audio_stream container by chunks
        ≡ audio_stream container by (cond (is_on channel kind chunk.channel) (chunk ∷ chunks) chunks)
    unfolding joined
    one_piece chunk chunks Video k t e = rw (silent chunk Video k refl)
    one_piece chunk chunks Audio k true e = rw e
    one_piece chunk chunks Audio k false e = rw (e, silent_skipped chunk k)
    one_piece chunk chunks Other k t e = rw (silent chunk Other k refl)
    one_piece chunk chunks End k t e = rw (silent chunk End k refl)

    pub audio_is_its_pieces : (chunks : List Chunk) → audio_stream container by (map (only channel) chunks) ≡ audio_stream container by (on_channel channel chunks)
    unfolding joined keeping on_channel
    audio_is_its_pieces [] = refl
    audio_is_its_pieces (chunk ∷ chunks) =
        ap (λ (rest : List ℕ). audio_piece container by (only channel chunk) ++ rest) (audio_is_its_pieces chunks)
        ∙ one_piece chunk (on_channel channel chunks) chunk.kind refl (eqb chunk.channel channel) refl

-- ---- the sizes where no audio is kept

module _ (kept : ℕ → Bool) where
  same_share : (chunk : Chunk) (kind : Kind) → chunk.kind ≡ kind → (t : Bool) → is_left kept kind chunk.channel ≡ t
      → video_in (cond t (skipped chunk) chunk).kind (cond t (skipped chunk) chunk).len ≡ video_in chunk.kind chunk.len
  same_share chunk kind k false e = refl
  same_share chunk Video k true e = let z : ◌≡◌ {A = ℕ} 0 1 = cc in absurd (omega arith)
  same_share chunk Audio k true e = rw k
  same_share chunk Other k true e = let z : ◌≡◌ {A = ℕ} 0 1 = cc in absurd (omega arith)
  same_share chunk End k true e = let z : ◌≡◌ {A = ℕ} 0 1 = cc in absurd (omega arith)

  pub video_size_stays : (chunks : List Chunk) → video_size (map (keeping kept) chunks) ≡ video_size chunks
  unfolding size_of keeping
  video_size_stays [] = refl
  video_size_stays (chunk ∷ chunks) =
      ap₂ (λ (a b : ℕ). a + b) (same_share chunk chunk.kind refl (is_left kept chunk.kind chunk.channel) refl) (video_size_stays chunks)

no_share : (chunk : Chunk) (kind : Kind) → chunk.kind ≡ kind
    → audio_in (cond (is_left (λ n. false) kind chunk.channel) (skipped chunk) chunk).kind (cond (is_left (λ n. false) kind chunk.channel) (skipped chunk) chunk).len ≡ 0
no_share chunk Video k = rw k
no_share chunk Audio k = rw k
no_share chunk Other k = rw k
no_share chunk End k = rw k

pub no_audio_size : (chunks : List Chunk) → audio_size (map silenced chunks) ≡ 0
unfolding size_of keeping
no_audio_size [] = refl
no_audio_size (chunk ∷ chunks) = ap₂ (λ (a b : ℕ). a + b) (no_share chunk chunk.kind refl) (no_audio_size chunks)

-- ---- the pieces of all channels

sum_of_both : (f g : ℕ → ℕ) (n : ℕ) → sum_to (λ i. f i + g i) n ≡ sum_to f n + sum_to g n
unfolding sum_to
sum_of_both f g zero = refl
sum_of_both f g (suc n) = rw (sum_of_both f g n) (omega arith)

pub sum_as : (f g : ℕ → ℕ) → ((i : ℕ) → f i ≡ g i) → (n : ℕ) → sum_to f n ≡ sum_to g n
unfolding sum_to
sum_as f g e zero = refl
sum_as f g e (suc n) = rw (sum_as f g e n, e n)

sum_of_nothing : (n : ℕ) → sum_to (λ i. 0) n ≡ 0
unfolding sum_to
sum_of_nothing zero = refl
sum_of_nothing (suc n) = rw (sum_of_nothing n)

-- of numbers that are 0 but for one
module _ (place size : ℕ) where
  abbrev single : ℕ → ℕ
  single i = cond (eqb place i) size 0

  before_it : (n : ℕ) → n ≤ place → sum_to single n ≡ 0
  unfolding sum_to
  before_it zero h = refl
  before_it (suc n) h = rw (before_it n (omega arith), ne_eqb place n (λ e. omega arith))

  past_it : (n : ℕ) → place < n → sum_to single n ≡ size
  unfolding sum_to
  past_it zero h = absurd (omega arith)
  past_it (suc n) h =
      ⊎_elim (λ (k : place < n). rw (past_it n k, ne_eqb place n (λ e. omega arith)) (omega arith))
      (λ (k : n ≤ place). rw (before_it n k, eq-eqb place n (omega arith)) (zero-add size)) (side place n)

-- each channel is a byte
abbrev pub Channelled : List Chunk → Type 0
Channelled [] = Unit
Channelled (chunk ∷ chunks) = (chunk.channel < 256) × Channelled chunks

pub all_channelled : (container : List ℕ) (reading : Applied) → Bytes container → (c : ℕ) → Channelled (walk_from container reading c).chunks
all_channelled container reading bytes =
    every_walk container reading (λ c chunks. Channelled chunks) (λ c. _) (λ c chunk chunks e rest. (omega (arith, (found container reading c chunk e).channel, bytes (c + 12)), rest))

module _ (container : List ℕ) (by : Unmasking) where
  -- how long a chunk's piece is, where it is of a channel
  abbrev piece_on : Chunk → Kind → ℕ → ℕ
  piece_on chunk kind channel = cond (is_on channel kind chunk.channel) (length (audio_piece container by chunk)) 0

  one_sum : (chunk : Chunk) (kind : Kind) → chunk.kind ≡ kind → chunk.channel < 256 → sum_to (piece_on chunk kind) 256 ≡ length (audio_piece container by chunk)
  one_sum chunk Video k h = sum_of_nothing 256 ∙ sym (ap length (silent container by chunk Video k refl))
  one_sum chunk Audio k h = past_it chunk.channel (length (audio_piece container by chunk)) 256 h
  one_sum chunk Other k h = sum_of_nothing 256 ∙ sym (ap length (silent container by chunk Other k refl))
  one_sum chunk End k h = sum_of_nothing 256 ∙ sym (ap length (silent container by chunk End k refl))

  longer : (chunk : Chunk) (chunks : List Chunk) (t : Bool)
      → length (audio_stream container by (cond t (chunk ∷ chunks) chunks)) ≡ cond t (length (audio_piece container by chunk)) 0 + length (audio_stream container by chunks)
  unfolding joined
  longer chunk chunks true = length-append (audio_piece container by chunk) (audio_stream container by chunks)
  longer chunk chunks false = sym (zero-add (length (audio_stream container by chunks)))

  pub channels_sum : (chunks : List Chunk) → Channelled chunks → sum_to (λ channel. length (audio_stream container by (on_channel channel chunks))) 256 ≡ length (audio_stream container by chunks)
  unfolding joined on_channel
  channels_sum [] h = sum_of_nothing 256
  channels_sum (chunk ∷ chunks) h =
      sum_as _ (λ channel. piece_on chunk chunk.kind channel + length (audio_stream container by (on_channel channel chunks)))
      (λ channel. longer chunk (on_channel channel chunks) (is_on channel chunk.kind chunk.channel)) 256
      ∙ sum_of_both (piece_on chunk chunk.kind) (λ channel. length (audio_stream container by (on_channel channel chunks))) 256
      ∙ ap₂ (λ (a b : ℕ). a + b) (one_sum chunk chunk.kind refl h.0) (channels_sum chunks h.1)
      ∙ sym (length-append (audio_piece container by chunk) (audio_stream container by chunks))
