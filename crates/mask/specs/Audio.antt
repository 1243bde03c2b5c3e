-- Rules K and M: audio.
use Rattle.std.specs.Prelude.{ℕ, ◌%◌, List, cond, length, ltb}
use Rattle.std.specs.Int.Bits.{bit_xor}
use Rattle.laws.specs.Lists.{tab, at}
use Rattle.key.specs.declared.Keys.{Keys}

-- "bytes from 0x140 are XORed with A, repeating"
unfoldable pub audio_at : List ℕ → List ℕ → ℕ → ℕ
audio_at a payload p = cond (ltb p 0x140) (at payload p) (bit_xor (at payload p) (at a (p % 0x20)))

-- "Masking is the same act."
unfoldable pub masked_audio : Keys → List ℕ → List ℕ
masked_audio keys payload = tab (audio_at keys.a payload) (length payload)
