-- Rule O5: the chunks of both streams by turns, as they are written and as they are read.
use Rattle.std.specs.Prelude.{ℕ, zero, suc, ◌+◌, ◌*◌, ◌/◌, ◌%◌, List, [], ◌∷◌, ◌++◌, Bool, true, false, cond, ◌||◌, length, take, drop, eqb}
use Rattle.signature.specs.Signatures.{contents_end, stands_at}
use Rattle.turns.specs.declared.Track.{Track}
use Rattle.turns.specs.declared.Track.TheVariants.{Video, Audio}
use Rattle.turns.specs.declared.Form.{Form}
use Rattle.turns.specs.declared.Turns.{Turns}
use Rattle.turns.specs.Chunks.{chunk_of, chunk_size, payload_in}

-- the chunk of a stream's next payload of up to 65,536 bytes, if there is one
unfoldable pub next_of : Form → Track → ℕ → List ℕ → List ℕ
next_of form track from [] = []
next_of form track from (byte ∷ bytes) = chunk_of form track from (take 0x10000 (byte ∷ bytes))

-- n turns, from a byte of both streams on: the next chunk of the video, and the next of the audio
unfoldable pub turns_of : Form → ℕ → ℕ → List ℕ → List ℕ → List ℕ
turns_of form zero from video audio = []
turns_of form (suc n) from video audio =
    next_of form Video from video ++ (next_of form (Audio 0) from audio ++ turns_of form n (from + 0x10000) (drop 0x10000 video) (drop 0x10000 audio))

-- all turns: there are no more than bytes
abbrev pub chunks_of : Form → List ℕ → List ℕ → List ℕ
chunks_of form video audio = turns_of form (length video + length audio) 0 video audio

-- the size of the chunks of a stream of n bytes: a chunk with a whole payload has 0x10020 bytes in either container
unfoldable pub stream_size : Form → ℕ → ℕ
stream_size form n = n / 0x10000 * 0x10020 + chunk_size form (n % 0x10000)

-- ---- reading

-- what is read: both streams, how many bytes their chunks take, and whether a payload begins with the end marker
pub record Read : Type 0 where
  pub video : List ℕ
  pub audio : List ℕ
  pub end : ℕ
  pub marked : Bool

abbrev pub nothing : Read
nothing = record { video = []; audio = []; end = 0; marked = false }

-- a stream goes on after a payload of 65,536 bytes
abbrev pub goes_on : List ℕ → Bool
goes_on payload = eqb (length payload) 0x10000

-- a turn's payloads: that of the video, and behind its chunk that of the audio
abbrev pub seen_in : Form → ℕ → Bool → List ℕ → List ℕ
seen_in form from seen bytes = payload_in form Video from seen bytes

abbrev pub heard_in : Form → ℕ → Bool → Bool → List ℕ → List ℕ
heard_in form from seen heard bytes = payload_in form (Audio 0) from heard (drop (chunk_size form (length (seen_in form from seen bytes))) bytes)

-- the size of a turn's chunks
abbrev pub turn_size : Form → List ℕ → List ℕ → ℕ
turn_size form v a = chunk_size form (length v) + chunk_size form (length a)

-- a turn's payloads, and what is read after them
abbrev pub with_turn : Form → List ℕ → List ℕ → Read → Read
with_turn form v a next =
    record {
      video = v ++ next.video;
      audio = a ++ next.audio;
      end = turn_size form v a + next.end;
      marked = stands_at contents_end v 0 || stands_at contents_end a 0 || next.marked;
    }

abbrev pub turn_read : Form → (Bool → Bool → List ℕ → Read) → List ℕ → List ℕ → List ℕ → Read
turn_read form go v a bytes = with_turn form v a (go (goes_on v) (goes_on a) (drop (turn_size form v a) bytes))

-- up to n turns, as long as a stream goes on
unfoldable pub read_from : Form → ℕ → ℕ → Bool → Bool → List ℕ → Read
read_from form zero from seen heard bytes = nothing
read_from form (suc n) from seen heard bytes =
    cond (seen || heard) (turn_read form (read_from form n (from + 0x10000)) (seen_in form from seen bytes) (heard_in form from seen heard bytes) bytes) nothing

-- all turns that bytes begin with, with audio or without: each but the last takes a byte or more
abbrev pub read_in : Form → Bool → List ℕ → Read
read_in form audio bytes = read_from form (length bytes + 1) 0 true audio bytes

-- as the code gives it: a turn, and all of them
abbrev pub turn_by : Form → List ℕ → List ℕ → Turns
turn_by form v a = record { video = length v; audio = length a; end = turn_size form v a; marked = stands_at contents_end v 0 || stands_at contents_end a 0 }

abbrev pub turns_by : Read → Turns
turns_by read = record { video = length read.video; audio = length read.audio; end = read.end; marked = read.marked }
