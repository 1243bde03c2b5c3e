-- The promises of specs/Promises.antt, each under its name. Masking and unmasking undo each other, audio keys change places, and the XOR of
-- three goes through. That the order of two keys matters for video is computed. Assumes nothing.
use mathlib.Core.Path.{◌≡◌, sym, ap, ◌∙◌}
use mathlib.Core.List.Perm
use mathlib.Core.List.{List, ◌∷◌, ◌++◌, foldr-append, is_set}
use native.Mathlib.Nat.{ℕ_set}
use Prim.Native.Nat.{ℕ}
use native.Mathlib.Omega.{arith}
use Rattle.laws.specs.Lists.{tab, at}
use Rattle.key.specs.KeyTable.{table_by, table_t, table_v, keys_of}
use Rattle.mask.specs.Video.{clear, with_tail_at, with_tail, head_mask, xored_head_at, xored_head, unmasked_video}
use Rattle.mask.specs.Promises.{video, video_masked, audio}
use Rattle.mask.proofs.Promises.{VideoUndone, AudioUndone}
use Rattle.promises_keys.specs.Promises as promised
use Rattle.promises_keys.proofs.OrderLaws.{swap, past}
use Rattle.promises_keys.proofs.ThreeLaws.{video_three, audio_three}

pub VideoByTwoSteps : promised.VideoByTwoSteps
VideoByTwoSteps a b c payload = ap (video_masked c) (VideoUndone b (video a payload)).0

pub AudioByTwoSteps : promised.AudioByTwoSteps
AudioByTwoSteps a b c payload = ap (audio c) (AudioUndone b (audio a payload))

pub VideoToItsOwnKey : promised.VideoToItsOwnKey
VideoToItsOwnKey a payload = (VideoUndone a payload).1

pub AudioToItsOwnKey : promised.AudioToItsOwnKey
AudioToItsOwnKey = AudioUndone

pub VideoOfThree : promised.VideoOfThree
VideoOfThree key = video_three (keys_of key)

pub AudioOfThree : promised.AudioOfThree
AudioOfThree key x y z ey ez = audio_three x y z ey ez (keys_of key)

pub AudioInAnyOrder : promised.AudioInAnyOrder
AudioInAnyOrder keys keys' payload p = Perm.foldr-eq (is_set ℕ_set) audio swap p payload

pub AudioTwiceCancels : promised.AudioTwiceCancels
AudioTwiceCancels key before between after payload =
    let q = promised.audio_under after payload in
    foldr-append audio payload (before ++ key ∷ between) (key ∷ after) ∙ foldr-append audio (audio key q) before (key ∷ between)
    ∙ ap (promised.audio_under before) (ap (audio key) (past key between q) ∙ AudioUndone key (promised.audio_under between q))
    ∙ sym (foldr-append audio payload (before ++ between) after ∙ foldr-append audio q before between)

pub VideoOrderMatters : promised.VideoOrderMatters
unfolding tab table_by table_t table_v keys_of clear with_tail_at with_tail head_mask xored_head_at xored_head unmasked_video
VideoOrderMatters e =
    -- byte 0x160, the tail's second row
    let differ : ◌≡◌ {A = ℕ} 0xFE 0xFF = ap (λ (s : List ℕ). at s 0x160) e in absurd (omega arith)
