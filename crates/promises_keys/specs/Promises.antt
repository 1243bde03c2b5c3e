-- Request 11, "Changing keys over and over": one statement each. Each is proved under the same name in proofs/Promises.antt.
use Rattle.std.specs.Prelude.{ℕ, ◌≡◌, length}
use mathlib.Core.List.{List, ◌∷◌, ◌++◌, foldr, Perm}
use Rattle.laws.specs.Lists.{tab}
use Rattle.mask.specs.Rows.{xored}
use Rattle.mask.specs.Promises.{video, video_masked, audio}

-- a payload goes from one key to the next: "we unmask under one and mask under the next"
abbrev pub video_from_to : ℕ → ℕ → List ℕ → List ℕ
video_from_to old new payload = video_masked new (video old payload)

abbrev pub audio_from_to : ℕ → ℕ → List ℕ → List ℕ
audio_from_to old new payload = audio new (audio old payload)

-- "going from key A to B and then B to C equals A to C"
abbrev pub VideoByTwoSteps : Type 0
VideoByTwoSteps = (a b c : ℕ) (payload : List ℕ) → video_from_to b c (video_from_to a b payload) ≡ video_from_to a c payload

abbrev pub AudioByTwoSteps : Type 0
AudioByTwoSteps = (a b c : ℕ) (payload : List ℕ) → audio_from_to b c (audio_from_to a b payload) ≡ audio_from_to a c payload

-- "A to A changes nothing"
abbrev pub VideoToItsOwnKey : Type 0
VideoToItsOwnKey = (a : ℕ) (payload : List ℕ) → video_from_to a a payload ≡ payload

abbrev pub AudioToItsOwnKey : Type 0
AudioToItsOwnKey = (a : ℕ) (payload : List ℕ) → audio_from_to a a payload ≡ payload

-- audio under each key of a list, one after the other, from its last to its first
abbrev pub audio_under : List ℕ → List ℕ → List ℕ
audio_under keys payload = foldr audio payload keys

-- "for audio, applying several keys in any order gives the same": `Perm` says that two lists have the same elements, in any order
abbrev pub AudioInAnyOrder : Type 0
AudioInAnyOrder = (keys keys' payload : List ℕ) → Perm keys keys' → audio_under keys payload ≡ audio_under keys' payload

-- "and a key applied twice cancels", wherever its two turns come
abbrev pub AudioTwiceCancels : Type 0
AudioTwiceCancels =
    (key : ℕ) (before between after payload : List ℕ)
    → audio_under (before ++ key ∷ between ++ key ∷ after) payload ≡ audio_under (before ++ between ++ after) payload

-- the XOR of three payloads
abbrev pub three : List ℕ → List ℕ → List ℕ → List ℕ
three x y z = xored (xored x y) z

-- "for three equally long payloads, unmasking their XOR under one key equals the XOR of the three unmasked"
abbrev pub VideoOfThree : Type 0
VideoOfThree =
    (key : ℕ) (x y z : List ℕ) → length x ≡ length y → length x ≡ length z
    → video key (three x y z) ≡ three (video key x) (video key y) (video key z)

abbrev pub AudioOfThree : Type 0
AudioOfThree =
    (key : ℕ) (x y z : List ℕ) → length x ≡ length y → length x ≡ length z
    → audio key (three x y z) ≡ three (audio key x) (audio key y) (audio key z)

-- "No claim is made that video unmasking under two keys can be reordered: in general it can't." Here are a payload and two keys:
abbrev pub zeros : List ℕ
zeros = tab (λ _. 0) 0x240

abbrev pub VideoOrderMatters : Type 0
VideoOrderMatters = video 0 (video 1 zeros) ≡ video 1 (video 0 zeros) → ⊥
