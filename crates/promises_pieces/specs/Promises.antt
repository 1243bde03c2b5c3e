-- What is gathered over the chunks of a film that is read piece by piece is the answer on the whole film. Each is proved under the same name in proofs/Promises.antt.
use Rattle.std.specs.Prelude.{ℕ, ◌+◌, ◌≡◌, ◌↔◌, List, length, take, Some, Ok}
use Rattle.reading.specs.declared.Reading.{Reading}
use Rattle.reading.specs.declared.AudioChoice.TheVariants.{Chosen}
use Rattle.reading.specs.Choices.{as_original, applied_to}
use Rattle.header.specs.declared.Header.{Header}
use Rattle.chunk.specs.declared.Chunk.{Chunk}
use Rattle.walk.specs.Walks.{clean, video_size, audio_size}
use Rattle.film.specs.Films.{film_of}
use Rattle.list.specs.declared.ListReply.{ListReply}
use Rattle.list.specs.Listing.{counted_in, list_reply}
use Rattle.index.specs.Entries.{entries_of}
use Rattle.index.specs.Indexing.{silent, entered_by, Indexing}
use Rattle.profile.specs.Profiles.{heard, profile_of}
use Rattle.profile.specs.Steps.{begun, ended, gathered}
use Rattle.statement.specs.Statements.{Stated, StatedBy}
use Rattle.film_apart.specs.FilmsApart.{chunks_apart, film_apart}
use Rattle.pieces.specs.Pieces.{header_in, Learnt, Windows}
use Rattle.pieces_bits.specs.PayloadBits.{most_bits}

-- a film that was opened by a beginning, and whose chunks were learnt by windows from the first to the last
pub record ReadByPieces (container : List ℕ) (how : Reading) (header : Header) (chunks : List Chunk) : Type 0 where
  pub beginning : ℕ
  pub window : ℕ → List ℕ
  pub size : ℕ → ℕ
  pub windows : Windows container window size
  pub opened : header_in (take beginning container) (length container) how ≡ Some (Ok header)
  pub learnt : Learnt window (length container) (applied_to header.audio how) header.start chunks clean

-- `usm_statement_by`, asked with the largest number that `usm_payload_bits` says of a payload and with the sizes of both streams, answers as `usm_statement` does on
-- the whole film: the same reply, the same lines.
abbrev pub StatementByPieces : Type 0
StatementByPieces =
    (container : List ℕ) (header : Header) (chunks : List Chunk) (tenants lines lines' : List (List ℕ)) (r : ListReply)
    → ReadByPieces container (as_original Chosen) header chunks
    → StatedBy (most_bits header.audio_codec chunks) (video_size chunks + audio_size chunks) tenants lines r lines' ↔ Stated container tenants lines r lines'

-- The first chunk of which `usm_payload_apart` says a byte, of the video or else of the audio, is the one that `usm_apart` names on the whole film.
abbrev pub PartingByPieces : Type 0
PartingByPieces =
    (container : List ℕ) (how : Reading) (header : Header) (chunks : List Chunk) (key key' : ℕ)
    → ReadByPieces container how header chunks
    → Ok (chunks_apart header.audio_codec key key' chunks) ≡ film_apart key key' (film_of container how)

-- The entries of the video chunks, each with the lengths of those before it as its place, are the index that `usm_index` builds of the whole film.
abbrev pub IndexByPieces : Type 0
IndexByPieces =
    (container : List ℕ) (header : Header) (chunks : List Chunk) (list list' : List (List ℕ)) (r : ListReply)
    → ReadByPieces container silent header chunks → Indexing container list r list'
    → (r ≡ list_reply (counted_in (length list) (length (entries_of chunks)))) × (list' ≡ entered_by list (entries_of chunks) (counted_in (length list) (length (entries_of chunks))))

-- `usm_profile_begin`, `usm_profile_step` with the window of each chunk, and `usm_profile_end` answer as `usm_profile` does on the whole film.
abbrev pub ProfileByPieces : Type 0
ProfileByPieces =
    (container : List ℕ) (header : Header) (chunks : List Chunk) (read : ReadByPieces container heard header chunks)
    → Ok (ended (length container) (gathered read.window chunks (begun header.audio))) ≡ profile_of container
