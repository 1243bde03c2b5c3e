-- What can be relied on about a film and two keys. Each is proved under the same name in proofs/Promises.antt.
use Rattle.std.specs.Prelude.{ℕ, ◌≡◌, false, ◌↔◌, List, Some, Ok}
use Rattle.std.specs.Int.Bits.{bit_and}
use Rattle.key.specs.LaneBits.{AgreeIn}
use Rattle.reading.specs.declared.Reading.{Reading}
use Rattle.film.specs.Films.{film_of}
use Rattle.extract.specs.declared.Contents.{Contents}
use Rattle.extract.specs.Extraction.{Extraction}
use Rattle.clip.specs.Clips.{clip_tells}
use Rattle.key_shown.specs.Shown.{shown_of}
use Rattle.key_shown.specs.KeyBits.{shown_bits}

-- Two extractions of one film under two keys, into the same outputs, leave the same two streams exactly when a clip that shows as much of a key as the film
-- does not tell the keys apart.
abbrev pub SameStreamsExactlyWhenNotTold : Type 0
SameStreamsExactlyWhenNotTold =
    (container : List ℕ) (reading : Reading) (key key' : ℕ) (video audio video_after audio_after video_after' audio_after' : List ℕ) (contents contents' : Contents)
    → Extraction container reading (Some key) video audio (Ok contents) video_after audio_after
    → Extraction container reading (Some key') video audio (Ok contents') video_after' audio_after'
    → (clip_tells (shown_of (film_of container reading)) key key' ≡ false) ↔ ((video_after ≡ video_after') × (audio_after ≡ audio_after'))

-- They leave the same two streams exactly when the keys agree in the bits that the film shows.
abbrev pub SameStreamsExactlyWhenBitsAgree : Type 0
SameStreamsExactlyWhenBitsAgree =
    (container : List ℕ) (reading : Reading) (key key' : ℕ) (video audio video_after audio_after video_after' audio_after' : List ℕ) (contents contents' : Contents)
    → Extraction container reading (Some key) video audio (Ok contents) video_after audio_after
    → Extraction container reading (Some key') video audio (Ok contents') video_after' audio_after'
    → AgreeIn (shown_bits (film_of container reading)) key key' ↔ ((video_after ≡ video_after') × (audio_after ≡ audio_after'))

-- No other bit of a key matters: with all others cleared it leaves the same two streams.
abbrev pub OtherBitsChangeNoStream : Type 0
OtherBitsChangeNoStream =
    (container : List ℕ) (reading : Reading) (key : ℕ) (video audio video_after audio_after video_after' audio_after' : List ℕ) (contents contents' : Contents)
    → Extraction container reading (Some key) video audio (Ok contents) video_after audio_after
    → Extraction container reading (Some (bit_and key (shown_bits (film_of container reading)))) video audio (Ok contents') video_after' audio_after'
    → (video_after ≡ video_after') × (audio_after ≡ audio_after')
