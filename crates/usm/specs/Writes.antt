-- A film written for C: what is asked for, what is replied, and the output after it. Ours, beyond the rules.
use Rattle.std.specs.Prelude.{ℕ, ◌≡◌, List, not, length, eqb, Result}
use Rattle.refusal.specs.declared.Refusal.{Refusal}
use Rattle.codec.specs.Numbers.{codec_by}
use Rattle.unmasking.specs.Unmasking.{key_by}
use Rattle.lent.specs.declared.SizeReply.{SizeReply}
use Rattle.lent.specs.Written.{written_in, left_by, size_reply}
use Rattle.write_plan.specs.declared.Packing.{Packing}
use Rattle.write_plan.specs.Films.{audio_in, film_bytes}
use Rattle.write_plan.specs.Planning.{planned_of}
use Rattle.usm.specs.declared.writing.PackingBytes.{PackingBytes}

-- how a film is packed: 0 for `has_audio` means that there is none
abbrev pub packing_by : PackingBytes → Packing
packing_by asked = record {
  audio = not (eqb asked.has_audio 0);
  mpeg_codec = codec_by asked.has_video_codec asked.video_codec;
  audio_codec = codec_by asked.has_audio_codec asked.audio_codec;
  key = key_by asked.key.given asked.key.number;
}

-- what is replied where so many bytes are to be written into an output, or none are, and the output after it
abbrev pub WrittenAs : Result ℕ Refusal → List ℕ → List ℕ → SizeReply → List ℕ → Type 0
WrittenAs answer bytes out r out' = (r ≡ size_reply answer) × (out' ≡ left_by answer out bytes)

-- the same for a film. Where there is no audio, the slice that is given for it is not looked at
abbrev pub WrittenFor : List ℕ → List ℕ → List ℕ → Packing → List ℕ → SizeReply → List ℕ → Type 0
WrittenFor name video audio packing out r out' =
    WrittenAs (written_in (length out) (planned_of name video (audio_in packing audio) packing)) (film_bytes name video (audio_in packing audio) packing) out r out'
