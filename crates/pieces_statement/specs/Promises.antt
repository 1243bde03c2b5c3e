-- What is promised of what is gathered chunk by chunk. Each is proved under the same name in proofs/Promises.antt.
use Rattle.std.specs.Prelude.{ℕ, ◌≡◌, ◌↔◌, ◌⊎◌, List, length, take, Some, Result, Ok, Err}
use Rattle.refusal.specs.declared.Refusal.{Refusal}
use Rattle.reading.specs.declared.Reading.{Reading}
use Rattle.reading.specs.declared.AudioChoice.TheVariants.{Chosen}
use Rattle.reading.specs.Choices.{as_original, applied_to}
use Rattle.header.specs.declared.Header.{Header}
use Rattle.chunk.specs.declared.Chunk.{Chunk}
use Rattle.walk.specs.Walks.{stopped, video_size, audio_size}
use Rattle.film.specs.Films.{film_of}
use Rattle.list.specs.declared.ListReply.{ListReply}
use Rattle.key_shown.specs.KeyBits.{shown_bits}
use Rattle.statement.specs.Statements.{Stated}
use Rattle.pieces.specs.Pieces.{header_in, Learnt, Windows}
use Rattle.promises_pieces.specs.Promises.{ReadByPieces}
use Rattle.pieces_statement.specs.declared.Tally.{Tally}
use Rattle.pieces_statement.specs.Tallies.{nothing, with_chunks, some_masked}
use Rattle.pieces_statement.specs.Stating.{StatedAs}

-- The tally of all chunks of a film that is read piece by piece, from none on: the bits of a key that the whole film shows, whether one of its payloads is masked,
-- and the sizes of both streams.
abbrev pub TallyByPieces : Type 0
TallyByPieces =
    (container : List ℕ) (how : Reading) (header : Header) (chunks : List Chunk)
    → ReadByPieces container how header chunks
    → with_chunks header.audio_codec nothing chunks
    ≡ record { bits = shown_bits (film_of container how); masked = some_masked header.audio_codec chunks; video = video_size chunks; audio = audio_size chunks }

-- a film that is refused by a beginning of it, or by a chunk that was learnt by windows
pub record RefusedByPieces (container : List ℕ) (how : Reading) (refusal : Refusal) : Type 0 where
  pub beginning : ℕ
  pub window : ℕ → List ℕ
  pub size : ℕ → ℕ
  pub windows : Windows container window size
  pub refuses : (header_in (take beginning container) (length container) how ≡ Some (Err refusal))
      ⊎ ((header : Header) × (chunks : List Chunk) × (header_in (take beginning container) (length container) how ≡ Some (Ok header))
      × Learnt window (length container) (applied_to header.audio how) header.start chunks (stopped refusal))

-- what was gathered is of this film, audio chosen
abbrev pub GatheredOf : List ℕ → Result Tally Refusal → Type 0
GatheredOf container (Ok tally) =
    (header : Header) × (chunks : List Chunk) × ReadByPieces container (as_original Chosen) header chunks × (tally ≡ with_chunks header.audio_codec nothing chunks)
GatheredOf container (Err refusal) = RefusedByPieces container (as_original Chosen) refusal

-- The statement from what was gathered of a film is the statement of the whole film, its refusals too: the same reply, the same lines.
abbrev pub StatementAsGathered : Type 0
StatementAsGathered =
    (container : List ℕ) (gathered : Result Tally Refusal) (tenants lines lines' : List (List ℕ)) (r : ListReply)
    → GatheredOf container gathered
    → StatedAs (length container) gathered tenants lines r lines' ↔ Stated container tenants lines r lines'
