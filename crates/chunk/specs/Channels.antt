-- Request 2: the chunks of a film of which one channel of audio is taken, or none. "Audio of another channel is skipped like audio not chosen."
use Rattle.std.specs.Prelude.{ℕ, ◌+◌, Bool, false, cond, not, eqb}
use Rattle.chunk.specs.declared.Kind.{Kind}
use Rattle.chunk.specs.declared.Kind.TheVariants.{Video, Audio, Other, End}
use Rattle.chunk.specs.declared.Chunk.{Chunk}

-- audio of a channel
abbrev pub is_on : ℕ → Kind → ℕ → Bool
is_on chosen Video channel = false
is_on chosen Audio channel = eqb channel chosen
is_on chosen Other channel = false
is_on chosen End channel = false

-- audio of a channel that is not kept
abbrev pub is_left : (ℕ → Bool) → Kind → ℕ → Bool
is_left kept Video channel = false
is_left kept Audio channel = not (kept channel)
is_left kept Other channel = false
is_left kept End channel = false

-- a chunk with its payload skipped
abbrev pub skipped : Chunk → Chunk
skipped chunk =
    record { start = chunk.start; kind = chunk.kind; channel = chunk.channel; data_type = chunk.data_type; next = chunk.next; payload = chunk.start + 0x20; len = 0 }

-- a chunk that is found with more audio, as it is found where only some channels are kept
unfoldable pub keeping : (ℕ → Bool) → Chunk → Chunk
keeping kept chunk = cond (is_left kept chunk.kind chunk.channel) (skipped chunk) chunk

-- "is skipped like audio not chosen": with one channel
abbrev pub only : ℕ → Chunk → Chunk
only chosen = keeping (λ channel. eqb channel chosen)

-- and with no audio
abbrev pub silenced : Chunk → Chunk
silenced = keeping (λ channel. false)
