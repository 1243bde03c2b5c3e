-- A film moved for C: what is replied, and the output after it. Ours, beyond the rules.
use Rattle.std.specs.Prelude.{List, ℕ, length, Option}
use Rattle.codec.specs.Numbers.{codec_by}
use Rattle.lent.specs.declared.SizeReply.{SizeReply}
use Rattle.lent.specs.Written.{written_in}
use Rattle.old_film.specs.Finding as old
use Rattle.moved_film.specs.Finding as new
use Rattle.film_move.specs.FromOld.{new_bytes, from_old}
use Rattle.film_move.specs.ToOld.{old_of, to_old}
use Rattle.usm.specs.declared.moving.CodecBytes.{CodecBytes}
use Rattle.usm.specs.Writes.{WrittenAs}

-- the codecs that are asked for
abbrev pub video_codec : CodecBytes → Option ℕ
video_codec asked = codec_by asked.has_video_codec asked.video_codec

abbrev pub audio_codec : CodecBytes → Option ℕ
audio_codec asked = codec_by asked.has_audio_codec asked.audio_codec

-- from the old builder's container
abbrev pub FromOldFor : List ℕ → CodecBytes → List ℕ → SizeReply → List ℕ → Type 0
FromOldFor container asked out r out' =
    WrittenAs (written_in (length out) (from_old container (video_codec asked) (audio_codec asked))) (new_bytes (old.parts_of container) (video_codec asked) (audio_codec asked)) out r out'

-- and back
abbrev pub ToOldFor : List ℕ → List ℕ → SizeReply → List ℕ → Type 0
ToOldFor container out r out' = WrittenAs (written_in (length out) (to_old container)) (old_of (new.parts_of container)) out r out'
