-- Rules C: "`@SFV` payloads go to video, `@SFA` to audio". A stream is what its payloads give, one after the other.
use Rattle.std.specs.Prelude.{List, [], ◌∷◌, cond, ℕ}
use Rattle.chunk.specs.declared.Chunk.{Chunk}
use Rattle.chunk.specs.declared.Kind.{Kind}
use Rattle.chunk.specs.declared.Kind.TheVariants.{Video, Audio, Other, End}
use Rattle.chunk.specs.Chunks.{payload_of}
use Rattle.chunk.specs.Channels.{is_on}
use Rattle.walk.specs.Walks.{joined}
use Rattle.unmasking.specs.declared.Unmasking.{Unmasking}
use Rattle.unmasking.specs.Unmasking.{clear_video, clear_audio}

-- a payload's share in a stream
abbrev pub video_part : Kind → List ℕ → List ℕ
video_part Video payload = payload
video_part Audio payload = []
video_part Other payload = []
video_part End payload = []

abbrev pub audio_part : Kind → List ℕ → List ℕ
audio_part Video payload = []
audio_part Audio payload = payload
audio_part Other payload = []
audio_part End payload = []

-- what a chunk gives to a stream, clear
abbrev pub video_piece : List ℕ → Unmasking → Chunk → List ℕ
video_piece container by chunk = clear_video by chunk.data_type (video_part chunk.kind (payload_of container chunk))

abbrev pub audio_piece : List ℕ → Unmasking → Chunk → List ℕ
audio_piece container by chunk = clear_audio by chunk.data_type (audio_part chunk.kind (payload_of container chunk))

abbrev pub video_stream : List ℕ → Unmasking → List Chunk → List ℕ
video_stream container by = joined (video_piece container by)

abbrev pub audio_stream : List ℕ → Unmasking → List Chunk → List ℕ
audio_stream container by = joined (audio_piece container by)

-- the chunks of audio of one channel, in order
unfoldable pub on_channel : ℕ → List Chunk → List Chunk
on_channel channel [] = []
on_channel channel (chunk ∷ chunks) = cond (is_on channel chunk.kind chunk.channel) (chunk ∷ on_channel channel chunks) (on_channel channel chunks)
