-- Request 14 of a film that is read piece by piece: what its chunks have shown so far, begun, stepped chunk by chunk, ended. Ours, beyond the rules.
use Rattle.std.specs.Prelude.{ℕ, Bool, cond, List, [], ◌∷◌, eqb}
use Rattle.word.specs.Numbers.{be32}
use Rattle.chunk.specs.declared.Chunk.{Chunk}
use Rattle.chunk.specs.Openings.{kind_at}
use Rattle.profile.specs.declared.Stream.{Stream}
use Rattle.profile.specs.declared.Stream.TheVariants.{Absent, Open, Closed}
use Rattle.profile.specs.declared.Streams.{Streams}
use Rattle.profile.specs.declared.Verdict.{Verdict}
use Rattle.profile.specs.declared.steps.Profiling.{Profiling}
use Rattle.profile.specs.Streams.{first_of, after_kind}
use Rattle.profile.specs.Profiles.{plain, judged_in, missing, first_broken}

-- a stream by a number, and its number
abbrev pub state_number : Stream → ℕ
state_number Absent = 0
state_number Open = 1
state_number Closed = 2

unfoldable pub state_by : ℕ → Stream
state_by number = cond (eqb number 0) Absent (cond (eqb number 1) Open Closed)

-- the first rule broken so far, and how both streams stand
abbrev pub verdict_in : Profiling → Verdict
verdict_in known = record { place = known.place; rule = known.rule; stream = known.stream }

abbrev pub streams_in : Profiling → Streams
streams_in known = record { video = state_by known.video; audio = state_by known.audio }

abbrev pub in_numbers : Verdict → Streams → Profiling
in_numbers verdict streams = record { place = verdict.place; rule = verdict.rule; stream = verdict.stream; video = state_number streams.video; audio = state_number streams.audio }

-- before the first chunk: no rule is broken, and both streams stand as the header says
abbrev pub begun : Bool → Profiling
begun audio = in_numbers plain (first_of audio)

-- after one chunk more, at c, which some bytes begin with
unfoldable pub stepped : List ℕ → ℕ → Profiling → Profiling
stepped bytes c known =
    in_numbers (first_broken (verdict_in known) (judged_in bytes c (streams_in known))) (after_kind (streams_in known) (kind_at bytes 0) (be32 bytes 0))

-- after the last chunk, in a film of n bytes
abbrev pub ended : ℕ → Profiling → Verdict
ended n known = first_broken (verdict_in known) (missing n (streams_in known))

-- over all chunks of a reader, who has a window for each place
unfoldable pub gathered : (ℕ → List ℕ) → List Chunk → Profiling → Profiling
gathered window [] known = known
gathered window (chunk ∷ chunks) known = gathered window chunks (stepped (window chunk.start) chunk.start known)
