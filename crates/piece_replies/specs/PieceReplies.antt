-- The replies on a film that is read piece by piece, field by field. Ours, beyond the rules.
use Rattle.std.specs.Prelude.{ℕ, Option, Some, None, Result, Ok, Err}
use Rattle.extract.specs.declared.Contents.{Contents}
use Rattle.header.specs.declared.Header.{Header}
use Rattle.refusal.specs.declared.Refusal.{Refusal}
use Rattle.refusal.specs.Numbers.{number_of}
use Rattle.chunk.specs.declared.Chunk.{Chunk}
use Rattle.chunk.specs.Chunks.{kind_number}
use Rattle.unmasking.specs.Unmasking.{mask_number}
use Rattle.extract.specs.Extraction.{contents_of}
use Rattle.replies.specs.declared.FilmReply.{FilmReply}
use Rattle.replies.specs.FilmReplies.{film_reply}
use Rattle.chunk_mask.specs.ChunkMasks.{mask_of}
use Rattle.piece_replies.specs.declared.StepReply.{StepReply}
use Rattle.piece_replies.specs.declared.OpenReply.{OpenReply}

abbrev pub chunk_reply : Option ℕ → Chunk → StepReply
chunk_reply codec chunk = record {
  refused_at = 0;
  next = chunk.next;
  payload = chunk.payload;
  length = chunk.len;
  number = 0;
  unknown_type = 0;
  found = 1;
  kind = kind_number chunk.kind;
  data_type = chunk.data_type;
  channel = chunk.channel;
  mask = mask_number (mask_of codec chunk.kind chunk.data_type);
}

-- no chunk: all else is 0
abbrev pub found_reply : ℕ → ℕ → ℕ → StepReply
found_reply place number found = record {
  refused_at = place;
  next = 0;
  payload = 0;
  length = 0;
  number = number;
  unknown_type = 0;
  found = found;
  kind = 0;
  data_type = 0;
  channel = 0;
  mask = 0;
}

abbrev pub said_by : Option ℕ → Result (Option Chunk) Refusal → StepReply
said_by codec (Ok None) = found_reply 0 0 0
said_by codec (Ok (Some chunk)) = chunk_reply codec chunk
said_by codec (Err refusal) = found_reply refusal.place (number_of refusal.cause) 0

abbrev pub step_reply : Option ℕ → Option (Result (Option Chunk) Refusal) → StepReply
step_reply codec None = found_reply 0 0 2
step_reply codec (Some step) = said_by codec step

-- ---- an opening

-- a header as an answer on a film whose sizes are not known: both are 0
abbrev pub answer_as : Result Header Refusal → Result Contents Refusal
answer_as (Ok read) = Ok (contents_of read 0 0)
answer_as (Err refusal) = Err refusal

abbrev pub chunks_in : Result Header Refusal → ℕ
chunks_in (Ok read) = read.start
chunks_in (Err refusal) = 0

abbrev pub no_reply : FilmReply
no_reply = record {
  refused_at = 0;
  name_start = 0;
  name_length = 0;
  video_size = 0;
  audio_size = 0;
  video_codec = 0;
  audio_codec = 0;
  number = 0;
  unknown_type = 0;
  name_source = 0;
  has_audio = 0;
  has_video_codec = 0;
  has_audio_codec = 0;
  video_kind = 0;
  audio_kind = 0;
}

-- no fallback is given: a film without a name has a name of no bytes
abbrev pub open_reply : Option (Result Header Refusal) → OpenReply
open_reply None = record { film = no_reply; chunks = 0; more = 1 }
open_reply (Some answer) = record { film = film_reply 0 (answer_as answer); chunks = chunks_in answer; more = 0 }
