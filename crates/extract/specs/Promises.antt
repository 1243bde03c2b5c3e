-- What the mission promises of a whole film. Each is proved under the same name in proofs/Promises.antt.
use Rattle.std.specs.Prelude.{ℕ, zero, suc, ◌+◌, ◌%◌, ◌≤◌, ◌<◌, ◌≡◌, List, ◌∷◌, ◌++◌, cond, ◌&&◌, length, drop, leb, eqb, Option, Some, Result, Ok, Err}
use Rattle.reading.specs.declared.AudioChoice.{AudioChoice}
use Rattle.reading.specs.declared.AudioChoice.TheVariants.{NotChosen, Chosen, Channel}
use Rattle.reading.specs.declared.Reading.{Reading}
use Rattle.reading.specs.declared.Applied.{Applied}
use Rattle.refusal.specs.declared.Refusal.{Refusal}
use Rattle.key.specs.CountingBits.{AgreeWhereItCounts}
use Rattle.mask.specs.Positions.{difference, video_differs, audio_differs}
use Rattle.mask.specs.Promises.{apart}
use Rattle.chunk.specs.declared.Chunk.{Chunk}
use Rattle.chunk.specs.Openings.{Bytes}
use Rattle.chunk.specs.Chunks.{payload_of}
use Rattle.walk.specs.Walks.{video_size, audio_size}
use Rattle.unmasking.specs.Unmasking.{is_adx, unmasking_of}
use Rattle.header.specs.declared.Header.{Header}
use Rattle.film.specs.Films.{film, film_of, survey_of}
use Rattle.film.specs.Promises.{with_audio}
use Rattle.extract.specs.declared.Contents.{Contents}
use Rattle.extract.specs.Streams.{video_part, audio_part, video_stream, audio_stream, on_channel}
use Rattle.extract.specs.Extraction.{contents_of, video_of, audio_of, Extraction}

-- "Over a container, no key and no lack of one changes a refusal, name, codec, size": two results that meet the contract on one container, into outputs of the same lengths, are equal
abbrev pub NoKeyChangesTheAnswer : Type 0
NoKeyChangesTheAnswer =
    (container : List ℕ) (reading : Reading) (key key' : Option ℕ) (video audio video' audio' : List ℕ) (r r' : Result Contents Refusal) (video_after audio_after video_after' audio_after' : List ℕ)
    → length video ≡ length video' → length audio ≡ length audio'
    → Extraction container reading key video audio r video_after audio_after → Extraction container reading key' video' audio' r' video_after' audio_after' → r ≡ r'

-- "Every refusal leaves both outputs .. unchanged"
abbrev pub RefusalsLeaveBothOutputs : Type 0
RefusalsLeaveBothOutputs =
    (container : List ℕ) (reading : Reading) (key : Option ℕ) (video audio video_after audio_after : List ℕ) (refusal : Refusal)
    → Extraction container reading key video audio (Err refusal) video_after audio_after → (video_after ≡ video) × (audio_after ≡ audio)

-- the sizes are those of the streams, under every key and under none
abbrev pub SizesAreTheStreams : Type 0
SizesAreTheStreams =
    (container : List ℕ) (reading : Reading) (key : Option ℕ) (header : Header) (applied : Applied) (count video audio : ℕ)
    → survey_of (film_of container reading) ≡ Ok (record { header = header; reading = applied; count = count; video = video; audio = audio })
    → (length (video_of container key (film_of container reading)) ≡ video) × (length (audio_of container key (film_of container reading)) ≡ audio)

-- "the sizes of the two streams together never exceed the container, in both payload modes and for every channel choice": 14 cannot occur. It is part of
-- extraction's contract; here it is said of what is known before an output is looked at, the sizes beside 12
abbrev pub SizesFitTheContainer : Type 0
SizesFitTheContainer =
    (container : List ℕ) (reading : Reading) (header : Header) (applied : Applied) (count video audio : ℕ)
    → survey_of (film_of container reading) ≡ Ok (record { header = header; reading = applied; count = count; video = video; audio = audio })
    → video + audio ≤ length container

-- "so an integrator may size both outputs by the file": into outputs as long as the container no film is refused for its sizes
abbrev pub OutputsMayBeSizedByTheFile : Type 0
OutputsMayBeSizedByTheFile =
    (container : List ℕ) (reading : Reading) (key : Option ℕ) (video_room audio_room video_after audio_after : List ℕ) (r : Result Contents Refusal) (header : Header) (applied : Applied)
    (count video audio : ℕ)
    → length container ≤ length video_room → length container ≤ length audio_room → Extraction container reading key video_room audio_room r video_after audio_after
    → survey_of (film_of container reading) ≡ Ok (record { header = header; reading = applied; count = count; video = video; audio = audio }) → r ≡ Ok (contents_of header video audio)

-- as many bytes, and from a place on the same
abbrev pub SameFrom : ℕ → List ℕ → List ℕ → Type 0
SameFrom place out out' = (length out' ≡ length out) × (drop place out' ≡ drop place out)

-- "Bytes .. past a size .. stay unchanged": after a result that is a film, both outputs are as long as before, with the same bytes from its sizes on
abbrev pub BytesPastTheStreamsStay : Type 0
BytesPastTheStreamsStay =
    (container : List ℕ) (reading : Reading) (key : Option ℕ) (video audio video_after audio_after : List ℕ) (contents : Contents)
    → Extraction container reading key video audio (Ok contents) video_after audio_after
    → SameFrom contents.video_size video video_after × SameFrom contents.audio_size audio audio_after

-- keys that agree in bits 0 to 35 and 40 to 55 give the same film: two results under them, on one container and into the same outputs, have the same answer
-- and leave the same bytes
abbrev pub OneFilmWhereBitsAgree : Type 0
OneFilmWhereBitsAgree =
    (container : List ℕ) (reading : Reading) (key key' : ℕ) (video audio : List ℕ) (r r' : Result Contents Refusal) (video_after audio_after video_after' audio_after' : List ℕ)
    → AgreeWhereItCounts key key'
    → Extraction container reading (Some key) video audio r video_after audio_after → Extraction container reading (Some key') video audio r' video_after' audio_after'
    → (r ≡ r') × (video_after ≡ video_after') × (audio_after ≡ audio_after')

-- "the streams under two keys differ exactly where the payload law says, payload by payload": after two results on one container, into the same outputs, a
-- video payload of data type 0 and at least 0x240 bytes differs by D where the rules say so, and nothing else of the payload differs. It stands where the
-- payloads before it end
abbrev pub VideoDiffersPayloadByPayload : Type 0
VideoDiffersPayloadByPayload =
    (container : List ℕ) (reading : Reading) (key key' : ℕ) (video audio video_after audio_after video_after' audio_after' : List ℕ) (contents contents' : Contents)
    (header : Header) (applied : Applied) (before after : List Chunk) (chunk : Chunk) (p : ℕ)
    → Extraction container reading (Some key) video audio (Ok contents) video_after audio_after
    → Extraction container reading (Some key') video audio (Ok contents') video_after' audio_after'
    → film_of container reading ≡ film header applied (before ++ chunk ∷ after) → p < length (video_part chunk.kind (payload_of container chunk))
    → apart video_after video_after' (video_size before + p)
    ≡ cond ((eqb chunk.data_type 0 && leb 0x240 (length (video_part chunk.kind (payload_of container chunk)))) && video_differs p) (difference key key' (p % 0x20)) 0

-- and so an audio payload of data type 0, of ADX audio
abbrev pub AudioDiffersPayloadByPayload : Type 0
AudioDiffersPayloadByPayload =
    (container : List ℕ) (reading : Reading) (key key' : ℕ) (video audio video_after audio_after video_after' audio_after' : List ℕ) (contents contents' : Contents)
    (header : Header) (applied : Applied) (before after : List Chunk) (chunk : Chunk) (p : ℕ)
    → Extraction container reading (Some key) video audio (Ok contents) video_after audio_after
    → Extraction container reading (Some key') video audio (Ok contents') video_after' audio_after'
    → film_of container reading ≡ film header applied (before ++ chunk ∷ after) → p < length (audio_part chunk.kind (payload_of container chunk))
    → apart audio_after audio_after' (audio_size before + p)
    ≡ cond ((is_adx header.audio_codec && eqb chunk.data_type 0) && audio_differs p) (difference key key' (p % 0x20)) 0

-- Request 2, "one channel": of a film that is accepted with all audio, each channel's stream is the pieces of the joined stream whose chunks have that channel, in
-- order. The video stays. A film that is refused with all audio may be accepted with one channel: nothing is said of it here
abbrev pub OneChannelIsItsPieces : Type 0
OneChannelIsItsPieces =
    (container : List ℕ) (reading : Reading) (key : Option ℕ) (channel : ℕ) (header : Header) (applied : Applied) (chunks : List Chunk)
    → film_of container (with_audio Chosen reading) ≡ film header applied chunks
    → (video_of container key (film_of container (with_audio (Channel channel) reading)) ≡ video_stream container (unmasking_of key header.audio_codec) chunks)
    × (audio_of container key (film_of container (with_audio (Channel channel) reading)) ≡ audio_stream container (unmasking_of key header.audio_codec) (on_channel channel chunks))

-- what a film holds, but for its audio's size, which is 0
abbrev pub without_audio : Contents → Contents
without_audio contents =
    record { name = contents.name; audio = contents.audio; mpeg_codec = contents.mpeg_codec; audio_codec = contents.audio_codec; video_kind = contents.video_kind; audio_kind = contents.audio_kind; video_size = contents.video_size; audio_size = 0 }

-- and "none": what is extracted with some choice of audio is extracted with none too, into any audio output: the answer is the same but for the audio's size, the video output is
-- the same, and the audio output stays
abbrev pub NoAudioIsTheVideo : Type 0
NoAudioIsTheVideo =
    (container : List ℕ) (reading : Reading) (choice : AudioChoice) (key : Option ℕ) (video audio video_after audio_after : List ℕ) (contents : Contents)
    (audio' video_after' audio_after' : List ℕ) (r : Result Contents Refusal)
    → Extraction container (with_audio choice reading) key video audio (Ok contents) video_after audio_after
    → Extraction container (with_audio NotChosen reading) key video audio' r video_after' audio_after'
    → (r ≡ Ok (without_audio contents)) × (video_after' ≡ video_after) × (audio_after' ≡ audio')

-- f 0 + f 1 + .. + f (n - 1)
unfoldable pub sum_to : (ℕ → ℕ) → ℕ → ℕ
sum_to f zero = 0
sum_to f (suc n) = sum_to f n + f n

-- and the sizes of its 256 channels sum to the size of all
abbrev pub ChannelSizesSumToAll : Type 0
ChannelSizesSumToAll =
    (container : List ℕ) (reading : Reading) (key : Option ℕ) (header : Header) (applied : Applied) (chunks : List Chunk) → Bytes container
    → film_of container (with_audio Chosen reading) ≡ film header applied chunks
    → sum_to (λ channel. length (audio_of container key (film_of container (with_audio (Channel channel) reading)))) 256
    ≡ length (audio_of container key (film_of container (with_audio Chosen reading)))
