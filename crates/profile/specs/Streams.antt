-- Request 14: which streams a film has, and which of them an end chunk has closed so far.
use Rattle.std.specs.Prelude.{ℕ, Bool, true, false, cond, ◌||◌, eqb}
use Rattle.signature.specs.Signatures.{SFV, SFA}
use Rattle.chunk.specs.declared.Kind.{Kind}
use Rattle.chunk.specs.declared.Kind.TheVariants.{Video, Audio, Other, End}
use Rattle.profile.specs.declared.Stream.{Stream}
use Rattle.profile.specs.declared.Stream.TheVariants.{Absent, Open, Closed}
use Rattle.profile.specs.declared.Streams.{Streams}

abbrev pub is_open : Stream → Bool
is_open Absent = false
is_open Open = true
is_open Closed = false

abbrev pub is_closed : Stream → Bool
is_closed Absent = false
is_closed Open = false
is_closed Closed = true

-- an end chunk of its letters closes a stream that is present
abbrev pub closing : Stream → Stream
closing Absent = Absent
closing Open = Closed
closing Closed = Closed

-- the stream of some letters; other letters have none
unfoldable pub stream_of : Streams → ℕ → Stream
stream_of streams letters = cond (eqb letters SFV) streams.video (cond (eqb letters SFA) streams.audio Absent)

-- "no signatures but `@SFV` and `@SFA`"
abbrev pub is_known : ℕ → Bool
is_known letters = eqb letters SFV || eqb letters SFA

-- the number of a stream's kind: 0 for video, 1 for audio
abbrev pub stream_number : ℕ → ℕ
stream_number letters = cond (eqb letters SFV) 0 1

-- "each present stream": video always, audio by the header
unfoldable pub first_of : Bool → Streams
first_of audio = record { video = Open; audio = cond audio Open Absent }

unfoldable pub after_end : Streams → ℕ → Streams
after_end streams letters =
    cond (eqb letters SFV) (record { video = closing streams.video; audio = streams.audio })
    (cond (eqb letters SFA) (record { video = streams.video; audio = closing streams.audio }) streams)

-- after a chunk of some kind and letters: an end chunk closes, another changes nothing
abbrev pub after_kind : Streams → Kind → ℕ → Streams
after_kind streams Video letters = streams
after_kind streams Audio letters = streams
after_kind streams Other letters = streams
after_kind streams End letters = after_end streams letters
