-- `mask::mask_audio` meets its contract: below 0x140 nothing changes, and from there on the rows are XORed. Assumes nothing.
use mathlib.Core.Path.{refl}
use native.Mathlib.Omega.{arith}
use Rattle.laws.proofs.TabLaws.{tab_ext}
use Rattle.mask.specs.Audio.{masked_audio}
use Rattle.mask.proofs.AudioLaws.{audio_before, audio_tail}
use Rattle.mask.proofs.mask_audio.Goals as goal

pub returns-then-payload-lt-TAIL : goal.returns-then-payload-lt-TAIL
unfolding masked_audio
returns-then-payload-lt-TAIL c = tab_ext _ _ _ refl (λ p l. audio_before _ _ p (omega arith))

pub returns : goal.returns
unfolding masked_audio
returns c = audio_tail _ _ _ (omega arith) c.xor_rows.ensures
