-- Rules O4 and O5: a chunk with a payload, in both containers that a film is moved between: the builder's and request 1's.
use Rattle.std.specs.Prelude.{ℕ, ◌+◌, ◌-◌, List, [], ◌++◌, Bool, false, not, cond, ◌&&◌, length, ltb, eqb}
use Rattle.word.specs.Numbers.{be16, be32}
use Rattle.part.specs.Parts.{part_at}
use Rattle.signature.specs.Signatures.{SFV, SFA, contents_end, stands_at}
use Rattle.word.specs.Bytes.{bytes32, zeros, padding}
use Rattle.turns.specs.declared.Track.{Track}
use Rattle.turns.specs.declared.Track.TheVariants.{Video, Audio}
use Rattle.turns.specs.declared.Form.{Form}
use Rattle.turns.specs.declared.Form.TheVariants.{Old, New}
use Rattle.turns.specs.declared.Shape.{Shape}
use Rattle.turns.specs.declared.Seen.{Seen}

-- `@SBV` and `@SBA` of the builder; `@SFV` and `@SFA`
abbrev pub letters_in : Form → Track → ℕ
letters_in Old Video = 0x40534256
letters_in Old (Audio number) = 0x40534241
letters_in New Video = SFV
letters_in New (Audio number) = SFA

-- which audio it is, from 0 on; a video has 0 too
abbrev pub number_of : Track → ℕ
number_of Video = 0
number_of (Audio number) = number

-- what is particular to a chunk of n bytes that begins at a byte of its stream. In the builder's "the two u16 fields mean version and data offset; payload length is
-- block size less 0x18", the payload stands at 28, and padding stands outside the block size. Else header size and footer size, and the payload stands at 0x20
unfoldable pub shape_of : Form → Track → ℕ → ℕ → Shape
shape_of Old track from n =
    record { letters = letters_in Old track; size = 0x18 + n; sizes = 0x00010018; from = from; number = number_of track; gap = 0; pads = padding (28 + n) }
shape_of New track from n =
    record { letters = letters_in New track; size = 0x18 + n + padding n; sizes = 0x00180000 + padding n; from = 0; number = 0; gap = 4; pads = padding n }

-- a chunk's first 28 bytes
unfoldable pub head_by : Shape → List ℕ
head_by shape = bytes32 shape.letters ++ bytes32 shape.size ++ bytes32 shape.sizes ++ bytes32 shape.from ++ bytes32 shape.number ++ zeros 8

-- a chunk that holds a payload, by its shape
abbrev pub laid_by : Shape → List ℕ → List ℕ
laid_by shape payload = head_by shape ++ (zeros shape.gap ++ (payload ++ zeros shape.pads))

unfoldable pub chunk_of : Form → Track → ℕ → List ℕ → List ℕ
chunk_of form track from payload = laid_by (shape_of form track from (length payload)) payload

-- the size of a chunk of n bytes; there is none of 0
abbrev pub size_by : Shape → ℕ → ℕ
size_by shape n = 28 + shape.gap + n + shape.pads

unfoldable pub chunk_size : Form → ℕ → ℕ
chunk_size form n = cond (eqb n 0) 0 (size_by (shape_of form Video 0 n) n)

-- ---- reading

-- how long a chunk's payload is, by its own sizes
abbrev pub len_in : Form → List ℕ → ℕ
len_in Old bytes = be32 bytes 4 - 0x18
len_in New bytes = be32 bytes 4 - 0x18 - be16 bytes 10

-- zeros before a payload
abbrev pub gap_of : Form → ℕ
gap_of Old = 0
gap_of New = 4

-- its payload
abbrev pub inside_of : Form → List ℕ → List ℕ
inside_of form bytes = part_at bytes (28 + gap_of form) (len_in form bytes)

-- an end chunk of request 1 holds the end marker
abbrev pub is_end : Form → List ℕ → Bool
is_end Old payload = false
is_end New payload = stands_at contents_end payload 0

-- the payload of the chunk that bytes begin with, or none: it is there exactly when the chunk that is rebuilt from it is
abbrev pub held_by : Form → Track → ℕ → List ℕ → List ℕ → List ℕ
held_by form track from payload bytes =
    cond (not (ltb 0x10000 (length payload)) && stands_at (chunk_of form track from payload) bytes 0 && not (is_end form payload)) payload []

-- none either where its stream does not go on
unfoldable pub payload_in : Form → Track → ℕ → Bool → List ℕ → List ℕ
payload_in form track from going bytes = cond going (held_by form track from (inside_of form bytes) bytes) []

-- its length, and whether it begins with the end marker
abbrev pub seen_as : List ℕ → Seen
seen_as payload = record { len = length payload; marked = stands_at contents_end payload 0 }
