-- Rules D: the first byte of a payload that differs under two keys, by positions and lanes, and no byte of the payload.
use Rattle.std.specs.Prelude.{ℕ, zero, suc, ◌%◌, Bool, true, false, cond, not, ◌&&◌, List, leb, eqb}
use Rattle.laws.specs.Lists.{at}
use Rattle.key.specs.KeyTable.{table_t}
use Rattle.mask.specs.Positions.{video_differs, audio_differs}
use Rattle.unmasking.specs.declared.Mask.{Mask}
use Rattle.unmasking.specs.declared.Mask.TheVariants.{Clear, VideoMask, AudioMask}

-- "head rows 2, 3, 6, 7 and even tail rows differ by D"; "from 0x140, even lanes differ by D"
abbrev pub differs_in : Mask → ℕ → Bool
differs_in Clear p = false
differs_in VideoMask p = video_differs p
differs_in AudioMask p = audio_differs p

-- video is masked from 0x240 bytes on
abbrev pub is_masked_in : Mask → ℕ → Bool
is_masked_in Clear n = false
is_masked_in VideoMask n = leb 0x240 n
is_masked_in AudioMask n = true

-- a masked payload differs where it may, and where the two T do in the lane
abbrev pub parts_at : Mask → List ℕ → List ℕ → ℕ → Bool
parts_at mask t u p = differs_in mask p && not (eqb (at t (p % 0x20)) (at u (p % 0x20)))

-- the first of n positions, from p on, that a test picks; else the position after them
unfoldable pub first_by : (ℕ → Bool) → ℕ → ℕ → ℕ
first_by test p zero = p
first_by test p (suc n) = cond (test p) p (first_by test (suc p) n)

-- the first position of a payload of n bytes that differs under two keys, or n
unfoldable pub apart_in : Mask → ℕ → ℕ → ℕ → ℕ
apart_in mask key key' n = cond (is_masked_in mask n) (first_by (parts_at mask (table_t key) (table_t key')) 0 n) n
