-- Rules R: the number of each cause, and what is "also returned". 15 to 23 are those of the requests that came after the base; 14 is struck.
use Rattle.std.specs.Prelude.{ℕ}
use Rattle.refusal.specs.declared.Beside.{Beside}
use Rattle.refusal.specs.declared.Cause.{Cause}
use Rattle.refusal.specs.declared.Cause.TheVariants.{RanOut, NoFilm, NoTable, NoVideo, NoAudio, NoHeaderEnd, NoMetadataEnd, UnknownType, TooSmall, TooMany, TooLong, ShortOutput, ShortList, MarkedPayload, ShortRoom, ShortHeader, UnknownStorage, Foreign, ManyAudios, NoBeginning, BadTenants, CodecAlone}

abbrev pub number_of : Cause → ℕ
number_of RanOut = 1
number_of NoFilm = 2
number_of NoTable = 3
number_of NoVideo = 4
number_of NoAudio = 5
number_of NoHeaderEnd = 6
number_of NoMetadataEnd = 7
number_of (UnknownType kind) = 8
number_of TooSmall = 9
number_of TooMany = 10
number_of TooLong = 11
number_of (ShortOutput video audio) = 12
number_of (ShortList count) = 13
number_of MarkedPayload = 15
number_of (ShortRoom size) = 16
number_of ShortHeader = 17
number_of UnknownStorage = 18
number_of Foreign = 19
number_of ManyAudios = 20
number_of NoBeginning = 21
number_of BadTenants = 22
number_of CodecAlone = 23

-- "Also returned": "the type, 7, 9 or 12 to 15" beside 8, "both sizes needed" beside 12, "chunk count" beside 13, the size needed beside 16. Nothing beside the others
abbrev pub nothing_beside : Beside
nothing_beside = record { video_size = 0; audio_size = 0; count = 0; unknown_type = 0; size = 0 }

abbrev pub beside_of : Cause → Beside
beside_of RanOut = nothing_beside
beside_of NoFilm = nothing_beside
beside_of NoTable = nothing_beside
beside_of NoVideo = nothing_beside
beside_of NoAudio = nothing_beside
beside_of NoHeaderEnd = nothing_beside
beside_of NoMetadataEnd = nothing_beside
beside_of (UnknownType kind) = record { video_size = 0; audio_size = 0; count = 0; unknown_type = kind; size = 0 }
beside_of TooSmall = nothing_beside
beside_of TooMany = nothing_beside
beside_of TooLong = nothing_beside
beside_of (ShortOutput video audio) = record { video_size = video; audio_size = audio; count = 0; unknown_type = 0; size = 0 }
beside_of (ShortList count) = record { video_size = 0; audio_size = 0; count = count; unknown_type = 0; size = 0 }
beside_of MarkedPayload = nothing_beside
beside_of (ShortRoom size) = record { video_size = 0; audio_size = 0; count = 0; unknown_type = 0; size = size }
beside_of ShortHeader = nothing_beside
beside_of UnknownStorage = nothing_beside
beside_of Foreign = nothing_beside
beside_of ManyAudios = nothing_beside
beside_of NoBeginning = nothing_beside
beside_of BadTenants = nothing_beside
beside_of CodecAlone = nothing_beside
