-- Request 13: "Decide it from keys, codec, data types and payload lengths". What a film shows of a key is said by the length of a sound clip that shows as
-- much; `clip` says which clips tell two keys apart.
use Rattle.std.specs.Prelude.{ℕ, max, Bool, cond, List, [], ◌∷◌, ltb, eqb}
use Rattle.chunk.specs.declared.Kind.{Kind}
use Rattle.chunk.specs.declared.Kind.TheVariants.{Video, Audio, Other, End}
use Rattle.chunk.specs.declared.Chunk.{Chunk}
use Rattle.unmasking.specs.Unmasking.{is_adx}
use Rattle.film.specs.Films.{Film, film, refused}

-- a picture of 0x240 bytes or more shows all that counts, as a clip of that length does; sound is a clip where it is ADX; nothing else shows a key
abbrev pub shown_as : Bool → Kind → ℕ → ℕ
shown_as adx Video n = cond (ltb n 0x240) 0 n
shown_as adx Audio n = cond adx n 0
shown_as adx Other n = 0
shown_as adx End n = 0

-- "short or plain payloads" show nothing: plain is what is not of data type 0
abbrev pub shown_in : Bool → Chunk → ℕ
shown_in adx chunk = cond (eqb chunk.data_type 0) (shown_as adx chunk.kind chunk.len) 0

-- the payload that shows most
unfoldable pub shown_by : Bool → List Chunk → ℕ
shown_by adx [] = 0
shown_by adx (chunk ∷ chunks) = max (shown_in adx chunk) (shown_by adx chunks)

abbrev pub shown_of : Film → ℕ
shown_of (film header applied chunks) = shown_by (is_adx header.audio_codec) chunks
shown_of (refused refusal) = 0
