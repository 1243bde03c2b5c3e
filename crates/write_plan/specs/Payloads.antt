-- Rules W5 and W6: the payloads of a stream, and how they are stored.
use Rattle.std.specs.Prelude.{ℕ, zero, suc, ◌+◌, ◌/◌, List, [], ◌∷◌, cond, length, take, drop, leb}
use Rattle.mask.specs.Video.{masked_video}
use Rattle.mask.specs.Audio.{masked_audio}
use Rattle.unmasking.specs.declared.Unmasking.{Unmasking}
use Rattle.write_plan.specs.declared.Stream.{Stream}
use Rattle.write_plan.specs.declared.Stream.TheVariants.{Video, Audio}

-- n payloads
unfoldable pub cut : ℕ → List ℕ → List (List ℕ)
cut zero stream = []
cut (suc n) stream = take 0x10000 stream ∷ cut n (drop 0x10000 stream)

-- "payloads of 65,536 bytes (the last shorter)"; none for an empty stream
unfoldable pub payloads_of : List ℕ → List (List ℕ)
payloads_of stream = cut ((length stream + 0xFFFF) / 0x10000) stream

-- where in the stream the payload starts that begins at a byte: past the stream's end it is the empty part at byte 0. It serves the contract of `payload_from`
abbrev pub payload_start : List ℕ → ℕ → ℕ
payload_start stream from = cond (leb (length stream) from) 0 from

-- "payloads are masked as extraction unmasks": those of data type 0, in a stream that is masked
abbrev pub stored_as : Unmasking → Stream → List ℕ → List ℕ
stored_as by Video payload = cond by.video (masked_video by.keys payload) payload
stored_as by Audio payload = cond by.audio (masked_audio by.keys payload) payload

-- "video and audio by turns": the first video payload, the first of audio, the second of video ..; then what is left of the longer stream
unfoldable pub by_turns : {A : Type 0} → List A → List A → List A
by_turns [] others = others
by_turns (first ∷ rest) [] = first ∷ rest
by_turns (first ∷ rest) (other ∷ others) = first ∷ (other ∷ by_turns rest others)
