-- Rules R: the kinds that success returns.
use Rattle.std.specs.Prelude.{cond, eqb, ℕ, Option, Some, None}
use Rattle.codec.specs.declared.VideoKind.{VideoKind}
use Rattle.codec.specs.declared.VideoKind.TheVariants.{Ivf, M2v}
use Rattle.codec.specs.declared.AudioKind.{AudioKind}
use Rattle.codec.specs.declared.AudioKind.TheVariants.{Hca, Adx}

-- "`ivf` for video codec 9, else `m2v`"
abbrev pub video_kind : Option ℕ → VideoKind
video_kind (Some n) = cond (eqb n 9) Ivf M2v
video_kind None = M2v

-- "`hca` for audio codec 4, else `adx`"
abbrev pub audio_kind : Option ℕ → AudioKind
audio_kind (Some n) = cond (eqb n 4) Hca Adx
audio_kind None = Adx
