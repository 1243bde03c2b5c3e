-- Request 14: "a check with its own rules over a container accepted with audio chosen". The rules have the numbers 1 to 4, in their order.
use Rattle.std.specs.Prelude.{ℕ, ◌+◌, ◌%◌, List, [], ◌∷◌, cond, not, length, eqb, Result, Ok, Err}
use Rattle.refusal.specs.declared.Refusal.{Refusal}
use Rattle.word.specs.Numbers.{be16, be32}
use Rattle.refusal.specs.Numbers.{number_of, beside_of}
use Rattle.reading.specs.declared.Reading.{Reading}
use Rattle.reading.specs.declared.AudioChoice.TheVariants.{Chosen}
use Rattle.reading.specs.Choices.{as_original}
use Rattle.chunk.specs.declared.Chunk.{Chunk}
use Rattle.film.specs.Films.{Film, film, refused, film_of}
use Rattle.profile.specs.declared.Stream.{Stream}
use Rattle.profile.specs.declared.Streams.{Streams}
use Rattle.profile.specs.declared.Verdict.{Verdict}
use Rattle.profile.specs.declared.ProfileReply.{ProfileReply}
use Rattle.profile.specs.Streams.{is_open, is_closed, stream_of, stream_number, is_known, first_of, after_kind}

-- "The answer is yes"
abbrev pub plain : Verdict
plain = record { place = 0; rule = 0; stream = 0 }

-- or a place and a rule; of rule 3, the stream: 0 for video, 1 for audio
abbrev pub broken : ℕ → ℕ → ℕ → Verdict
broken place rule stream = record { place = place; rule = rule; stream = stream }

-- the first rule that the chunk at c breaks, "in the order just given"; its letters, and how their stream stands before it:
-- "chunk header size 0x18";
-- "every chunk's block size plus 8 a multiple of 0x20";
-- "closed by exactly one end chunk of its letters, and none of its payloads after that": where a stream is closed, no chunk of its letters follows;
-- "no signatures but `@SFV` and `@SFA`"
unfoldable pub broken_by : List ℕ → ℕ → ℕ → Stream → Verdict
broken_by container c letters stream =
    cond (not (eqb (be16 container (c + 8)) 0x18)) (broken c 1 0)
    (cond (not (eqb ((be32 container (c + 4) + 8) % 0x20) 0)) (broken c 2 0)
    (cond (is_closed stream) (broken c 3 (stream_number letters))
    (cond (not (is_known letters)) (broken c 4 0)
    plain)))

-- the same of a chunk at c by its numbers: its header size, its block size, its letters
unfoldable pub broken_in : ℕ → ℕ → ℕ → ℕ → Stream → Verdict
broken_in c header block letters stream =
    cond (not (eqb header 0x18)) (broken c 1 0)
    (cond (not (eqb ((block + 8) % 0x20) 0)) (broken c 2 0)
    (cond (is_closed stream) (broken c 3 (stream_number letters))
    (cond (not (is_known letters)) (broken c 4 0)
    plain)))

-- of a chunk at c that some bytes begin with, where both streams stand so
abbrev pub judged_in : List ℕ → ℕ → Streams → Verdict
judged_in bytes c streams = broken_in c (be16 bytes 8) (be32 bytes 4) (be32 bytes 0) (stream_of streams (be32 bytes 0))

-- "a missing end is reported at the container's length, video before audio"
abbrev pub missing : ℕ → Streams → Verdict
missing n streams = cond (is_open streams.video) (broken n 3 0) (cond (is_open streams.audio) (broken n 3 1) plain)

abbrev pub letters_at : List ℕ → Chunk → ℕ
letters_at container chunk = be32 container chunk.start

abbrev pub judged_at : List ℕ → Streams → Chunk → Verdict
judged_at container streams chunk = broken_by container chunk.start (letters_at container chunk) (stream_of streams (letters_at container chunk))

-- "the first offending chunk"
abbrev pub first_broken : Verdict → Verdict → Verdict
first_broken here later = cond (eqb here.rule 0) later here

unfoldable pub judged : List ℕ → Streams → List Chunk → Verdict
judged container streams [] = missing (length container) streams
judged container streams (chunk ∷ chunks) =
    first_broken (judged_at container streams chunk) (judged container (after_kind streams chunk.kind (letters_at container chunk)) chunks)

-- "accepted with audio chosen"; "Refusals: the walk's own, before any rule is tried"
abbrev pub heard : Reading
heard = as_original Chosen

abbrev pub profiled_as : List ℕ → Film → Result Verdict Refusal
profiled_as container (film header applied chunks) = Ok (judged container (first_of header.audio) chunks)
profiled_as container (refused refusal) = Err refusal

unfoldable pub profile_of : List ℕ → Result Verdict Refusal
profile_of container = profiled_as container (film_of container heard)

-- the answer as C reads it
abbrev pub profile_reply : Result Verdict Refusal → ProfileReply
profile_reply (Ok verdict) = record { refused_at = 0; place = verdict.place; number = 0; unknown_type = 0; rule = verdict.rule; stream = verdict.stream }
profile_reply (Err refusal) = record { refused_at = refusal.place; place = 0; number = number_of refusal.cause; unknown_type = (beside_of refusal.cause).unknown_type; rule = 0; stream = 0 }
