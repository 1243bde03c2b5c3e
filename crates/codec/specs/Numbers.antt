-- A codec and a kind as numbers. Ours, beyond the rules: it says that a codec "may be absent", and has the kinds by name.
use Rattle.std.specs.Prelude.{ℕ, cond, eqb, Option, Some, None}
use Rattle.codec.specs.declared.VideoKind.{VideoKind}
use Rattle.codec.specs.declared.VideoKind.TheVariants.{Ivf, M2v}
use Rattle.codec.specs.declared.AudioKind.{AudioKind}
use Rattle.codec.specs.declared.AudioKind.TheVariants.{Hca, Adx}

-- the codec by two numbers: 0 for the first means that there is none
abbrev pub codec_by : ℕ → ℕ → Option ℕ
codec_by given number = cond (eqb given 0) None (Some number)

-- 1 where there is a codec, 0 where it is absent
abbrev pub presence_of : Option ℕ → ℕ
presence_of (Some n) = 1
presence_of None = 0

-- the codec's number, nothing beside absence
abbrev pub value_of : Option ℕ → ℕ
value_of (Some n) = n
value_of None = 0

-- the "else" of each kind is 0
abbrev pub video_number : VideoKind → ℕ
video_number M2v = 0
video_number Ivf = 1

abbrev pub audio_number : AudioKind → ℕ
audio_number Adx = 0
audio_number Hca = 1
