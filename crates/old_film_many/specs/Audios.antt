-- Rules O3 to O7 for a film with any number of audios: how many there are, what is read of each, and whether that, written anew, is the container.
use Rattle.std.specs.Prelude.{ℕ, zero, suc, ◌+◌, ◌*◌, ◌/◌, ◌^◌, Bool, true, cond, ◌&&◌, length, drop, replicate, ltb}
use mathlib.Core.List.{List, [], ◌∷◌, ◌++◌, map, zip_with}
use Rattle.signature.specs.Signatures.{SFA, same_bytes, stands_at}
use Rattle.utf8.specs.Utf8.{is_utf8}
use Rattle.turns.specs.declared.Form.TheVariants.{Old}
use Rattle.turns.specs.declared.Track.TheVariants.{Video, Audio}
use Rattle.turns.specs.Chunks.{chunk_size, payload_in}
use Rattle.turns.specs.Turns.{goes_on}
use Rattle.old_film_many.specs.declared.Turn.{Turn}
use Rattle.old_film_many.specs.declared.Sizes.{Sizes}
use Rattle.old_film.specs.Blocks.{table_block}
use Rattle.old_film.specs.Tables.{old_audio}
use Rattle.old_film.specs.Films.{old_bytes}
use Rattle.old_film.specs.Finding.{name_in, name_size}

-- ---- how many audios there are

-- up to n blocks of audios, one after the other, from a number on
unfoldable pub count_from : ℕ → ℕ → List ℕ → ℕ
count_from zero number bytes = 0
count_from (suc n) number bytes = cond (stands_at (table_block SFA (old_audio number)) bytes 0) (suc (count_from n (number + 1) (drop 0x60 bytes))) 0

-- all of them: a number is a u32
abbrev pub count_in : List ℕ → ℕ
count_in bytes = count_from (2 ^ 32) 0 bytes

-- ---- a turn

-- a payload, and those that are read behind its chunk
abbrev pub with_next : (List ℕ → List (List ℕ)) → List ℕ → List ℕ → List (List ℕ)
with_next others payload bytes = payload ∷ others (drop (chunk_size Old (length payload)) bytes)

-- the payloads of a turn, one for each audio from a number on; it is empty where an audio does not go on
unfoldable pub payloads_in : ℕ → ℕ → List Bool → List ℕ → List (List ℕ)
payloads_in from number [] bytes = []
payloads_in from number (going ∷ goings) bytes = with_next (payloads_in from (number + 1) goings) (payload_in Old (Audio number) from going bytes) bytes

-- the size of their chunks
unfoldable pub sizes_of : List (List ℕ) → ℕ
sizes_of [] = 0
sizes_of (payload ∷ payloads) = chunk_size Old (length payload) + sizes_of payloads

-- the video's payload, and those of the audios behind its chunk
abbrev pub seen_from : ℕ → Bool → List ℕ → List ℕ
seen_from from seen bytes = payload_in Old Video from seen bytes

abbrev pub heard_from : ℕ → Bool → List Bool → List ℕ → List (List ℕ)
heard_from from seen goings bytes = payloads_in from 0 goings (drop (chunk_size Old (length (seen_from from seen bytes))) bytes)

-- ---- all turns

-- what is read: the streams, and how many bytes their chunks take
pub record Streams : Type 0 where
  pub video : List ℕ
  pub audios : List (List ℕ)
  pub end : ℕ

-- a turn's payloads, and what is read after them
abbrev pub with_turn : List ℕ → List (List ℕ) → Streams → Streams
with_turn v ps next = record { video = v ++ next.video; audios = zip_with ◌++◌ ps next.audios; end = chunk_size Old (length v) + sizes_of ps + next.end }

abbrev pub turn_read : (Bool → List Bool → List ℕ → Streams) → List ℕ → List (List ℕ) → List ℕ → Streams
turn_read go v ps bytes = with_turn v ps (go (goes_on v) (map goes_on ps) (drop (chunk_size Old (length v) + sizes_of ps) bytes))

-- n turns
unfoldable pub streams_from : ℕ → ℕ → Bool → List Bool → List ℕ → Streams
streams_from zero from seen goings bytes = record { video = []; audios = map (λ going. []) goings; end = 0 }
streams_from (suc n) from seen goings bytes = turn_read (streams_from n (from + 0x10000)) (seen_from from seen bytes) (heard_from from seen goings bytes) bytes

-- all turns that bytes begin with: a turn that another follows takes more than 65,536 bytes
abbrev pub streams_in : ℕ → List ℕ → Streams
streams_in count bytes = streams_from (suc (length bytes / 0x10000)) 0 true (replicate count true) bytes

-- ---- all of it

-- "any byte that differs"; "a film name that is not UTF-8 can't come from it". The blocks of audios begin at a place, and the chunks behind them
abbrev pub is_many_by : List ℕ → List ℕ → ℕ → Streams → Bool
is_many_by container name count streams = is_utf8 name && ltb 1 count && same_bytes container (old_bytes name streams.video streams.audios)

abbrev pub is_many_at : List ℕ → List ℕ → ℕ → ℕ → Bool
is_many_at container name place count = is_many_by container name count (streams_in count (drop (place + count * 0x60) container))

abbrev pub is_many_of : List ℕ → List ℕ → ℕ → Bool
is_many_of container name place = is_many_at container name place (count_in (drop place container))

-- a container is what the builder writes from its own parts, and has more than one audio
unfoldable pub is_many : List ℕ → Bool
is_many container = is_many_of container (name_in container) (name_size (length (name_in container)) + 0x80)

-- ---- as the code gives it

-- a turn that begins at a place: the length of the video's payload, and where the chunks of the audios begin and end
abbrev pub turn_by : ℕ → List ℕ → List (List ℕ) → Turn
turn_by place v ps = record { video = length v; start = place + chunk_size Old (length v); end = place + chunk_size Old (length v) + sizes_of ps }

unfoldable pub turn_at : ℕ → Bool → List Bool → List ℕ → ℕ → Turn
turn_at from seen goings bytes place = turn_by place (seen_from from seen (drop place bytes)) (heard_from from seen goings (drop place bytes))

-- all turns, which begin at a place: the length of the video, and where they end
abbrev pub sizes_by : ℕ → Streams → Sizes
sizes_by place streams = record { video = length streams.video; end = place + streams.end }
