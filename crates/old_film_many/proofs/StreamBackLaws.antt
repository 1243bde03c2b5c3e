-- The turns of a video and any number of audios, as they are written, are read back: each chunk is found where it stands, and none where another does. Assumes nothing.
use Prim.Native.Nat.{ℕ, zero, suc, ◌+◌, ◌-◌, ◌*◌, ◌^◌, ◌≤◌, ◌<◌}
use mathlib.Core.Path.{◌≡◌, refl, sym, ap, ap₂, ◌∙◌}
use mathlib.Core.List.{List, [], ◌∷◌, ◌++◌, append_assoc, map, zip_with}
use mathlib.Core.Bool.{Bool, true, false}
use native.Mathlib.Omega.{arith}
use lib.ListN.{length, get_or, take, drop, length-append, length-take, length-drop, length-map, take-append-drop, get_or-map}
use lib.Seq.{drop-drop, drop_at}
use Rattle.turns.specs.declared.Form.TheVariants.{Old}
use Rattle.turns.specs.declared.Track.TheVariants.{Video, Audio}
use Rattle.turns.specs.Chunks.{chunk_of, chunk_size, payload_in}
use Rattle.turns.specs.Turns.{next_of, goes_on}
use Rattle.turns.proofs.TurnLaws.{size_holds}
use Rattle.turns.proofs.ReadLaws.{empty}
use Rattle.turns.proofs.BackLaws.{NoChunk, other_letters, video_letters, audio_letters, next_back, next_size, over_later}
use Rattle.turns.proofs.AudioLaws.{other_number}
use Rattle.old_film.specs.Films.{old_audios, old_turns}
use Rattle.old_film_many.specs.Audios.{payloads_in, sizes_of, seen_from, heard_from, Streams, with_turn, streams_from}
use Rattle.old_film_many.proofs.HeardLaws.{Closed, UpTo, upto_more, upto_later}

abbrev firsts : List (List ℕ) → List (List ℕ)
firsts audios = map (take 0x10000) audios

abbrev laters : List (List ℕ) → List (List ℕ)
laters audios = map (drop 0x10000) audios

-- ---- where a stream is over, no chunk of it stands

module _ (at : ℕ) where
  no_video_audios : (from number : ℕ) (audios : List (List ℕ)) (more : List ℕ) → payload_in Old Video at true more ≡ [] → payload_in Old Video at true (old_audios from number audios ++ more) ≡ []
  unfolding old_audios next_of
  no_video_audios from number [] more none = none
  no_video_audios from number ([] ∷ audios) more none = no_video_audios from (number + 1) audios more none
  no_video_audios from number ((byte ∷ audio) ∷ audios) more none =
      let payload = take 0x10000 (byte ∷ audio) in
      let others = old_audios from (number + 1) audios in
      ap (payload_in Old Video at true) (append_assoc (chunk_of Old (Audio number) from payload) others more)
      ∙ other_letters Old Video at (chunk_of Old (Audio number) from payload ++ (others ++ more)) (audio_letters Old number from payload (others ++ more))

  no_video_turns : (n from : ℕ) (audios : List (List ℕ)) (rest : List ℕ) → NoChunk Old rest → payload_in Old Video at true (old_turns n from [] audios ++ rest) ≡ []
  unfolding old_turns next_of
  no_video_turns zero from audios rest none = none Video at
  no_video_turns (suc n) from audios rest none =
      let later = old_turns n (from + 0x10000) [] (laters audios) in
      ap (payload_in Old Video at true) (append_assoc (old_audios from 0 audios) later rest)
      ∙ no_video_audios from 0 audios (later ++ rest) (no_video_turns n (from + 0x10000) (laters audios) rest none)

  module _ (m : ℕ) (fits : m < 2 ^ 32) where
    -- the audio of this number is over, if it is one of these
    no_audio_audios : (from number : ℕ) (audios : List (List ℕ)) (more : List ℕ) → number + length audios ≤ 2 ^ 32 → (number ≤ m → get_or audios (m - number) [] ≡ [])
        → payload_in Old (Audio m) at true more ≡ [] → payload_in Old (Audio m) at true (old_audios from number audios ++ more) ≡ []
    unfolding old_audios next_of
    no_audio_audios from number [] more few over none = none
    no_audio_audios from number ([] ∷ audios) more few over none =
        no_audio_audios from (number + 1) audios more (omega arith)
        (λ h.
        let s : m - number ≡ suc (m - (number + 1)) = omega arith in
        sym (ap (λ (i : ℕ). get_or ([] ∷ audios) i []) s) ∙ over (omega arith)) none
    no_audio_audios from number ((byte ∷ audio) ∷ audios) more few over none =
        let payload = take 0x10000 (byte ∷ audio) in
        let others = old_audios from (number + 1) audios in
        ap (payload_in Old (Audio m) at true) (append_assoc (chunk_of Old (Audio number) from payload) others more)
        ∙ other_number m number at from payload (others ++ more) fits (omega arith)
        (λ e.
        let s : m - number ≡ 0 = omega arith in
        let f : byte ∷ audio ≡ [] = sym (ap (λ (i : ℕ). get_or ((byte ∷ audio) ∷ audios) i []) s) ∙ over (omega arith) in
        let z : ◌≡◌ {A = ℕ} 0 1 = cc in
        absurd (omega arith))

    no_audio_turns : (n from : ℕ) (video : List ℕ) (audios : List (List ℕ)) (rest : List ℕ) → length audios ≤ 2 ^ 32 → get_or audios m [] ≡ [] → NoChunk Old rest
        → payload_in Old (Audio m) at true (old_turns n from video audios ++ rest) ≡ []
    unfolding old_turns next_of
    no_audio_turns zero from video audios rest few over none = none (Audio m) at
    no_audio_turns (suc n) from (byte ∷ video) audios rest few over none =
        let payload = take 0x10000 (byte ∷ video) in
        let others = old_audios from 0 audios ++ old_turns n (from + 0x10000) (drop 0x10000 (byte ∷ video)) (laters audios) in
        ap (payload_in Old (Audio m) at true) (append_assoc (chunk_of Old Video from payload) others rest)
        ∙ other_letters Old (Audio m) at (chunk_of Old Video from payload ++ (others ++ rest)) (video_letters Old m from payload (others ++ rest))
    no_audio_turns (suc n) from [] audios rest few over none =
        let later = old_turns n (from + 0x10000) [] (laters audios) in
        let all : m - 0 ≡ m = omega arith in
        ap (payload_in Old (Audio m) at true) (append_assoc (old_audios from 0 audios) later rest)
        ∙ no_audio_audios from 0 audios (later ++ rest) (omega arith) (λ h. ap (λ (i : ℕ). get_or audios i []) all ∙ over)
        (no_audio_turns n (from + 0x10000) [] (laters audios) rest (rw (length-map audios (drop 0x10000)) few) (get_or-map (drop 0x10000) audios m [] ∙ ap (drop 0x10000) over) none)

-- ---- a turn

audios_size : (from number : ℕ) (audios : List (List ℕ)) → length (old_audios from number audios) ≡ sizes_of (firsts audios)
unfolding old_audios sizes_of
audios_size from number [] = refl
audios_size from number (audio ∷ audios) =
    length-append (next_of Old (Audio number) from audio) (old_audios from (number + 1) audios) ∙ ap₂ (λ (m n : ℕ). m + n) (next_size Old (Audio number) from audio) (audios_size from (number + 1) audios)

payloads_back : (from number : ℕ) (goings : List Bool) (audios : List (List ℕ)) (more : List ℕ) → Closed goings audios → number + length audios ≤ 2 ^ 32
    → ((m : ℕ) → number ≤ m → m < number + length audios → get_or audios (m - number) [] ≡ [] → payload_in Old (Audio m) from true more ≡ [])
    → payloads_in from number goings (old_audios from number audios ++ more) ≡ firsts audios
unfolding payloads_in old_audios
payloads_back from number [] [] more c few none = refl
payloads_back from number [] (audio ∷ audios) more c few none = absurd c
payloads_back from number (going ∷ goings) [] more c few none = absurd c
payloads_back from number (going ∷ goings) (audio ∷ audios) more c few none =
    let chunk = next_of Old (Audio number) from audio in
    let others = old_audios from (number + 1) audios in
    let first = take 0x10000 audio in
    let here : number - number ≡ 0 = omega arith in
    let is : payload_in Old (Audio number) from going (chunk ++ (others ++ more)) ≡ first =
    next_back Old (Audio number) from going audio (others ++ more) c.0 refl
    (λ e.
    no_audio_audios from number (omega arith) from (number + 1) audios more (omega arith) (λ h. absurd (omega arith))
    (none number (omega arith) (omega arith) (ap (λ (i : ℕ). get_or (audio ∷ audios) i []) here ∙ e))) in
    let behind : drop (chunk_size Old (length first)) (chunk ++ (others ++ more)) ≡ others ++ more =
    drop_at chunk (others ++ more) (chunk_size Old (length first)) (next_size Old (Audio number) from audio) in
    let rest : payloads_in from (number + 1) goings (others ++ more) ≡ firsts audios =
    payloads_back from (number + 1) goings audios more c.1 (omega arith)
    (λ m h k e.
    let s : m - number ≡ suc (m - (number + 1)) = omega arith in
    none m (omega arith) (omega arith) (ap (λ (i : ℕ). get_or (audio ∷ audios) i []) s ∙ e)) in
    rw (append_assoc chunk others more, is, behind, rest)

-- ---- all turns

none_back : (goings : List Bool) (audios : List (List ℕ)) → Closed goings audios → UpTo 0 audios → map (λ going. []) goings ≡ audios
none_back [] [] c u = refl
none_back [] (audio ∷ audios) c u = absurd c
none_back (going ∷ goings) [] c u = absurd c
none_back (going ∷ goings) (audio ∷ audios) c u = ap₂ (λ (l : List ℕ) (m : List (List ℕ)). l ∷ m) (sym (empty audio u.0)) (none_back goings audios c.1 u.1)

-- what is read are these streams
abbrev pub Gives : List ℕ → List (List ℕ) → Streams → Type 0
Gives video audios streams = (streams.video ≡ video) × (streams.audios ≡ audios)

no_turns : (from : ℕ) (seen : Bool) (goings : List Bool) (video : List ℕ) (audios : List (List ℕ)) (rest : List ℕ) → Closed goings audios → length video ≤ 0 * 0x10000
    → UpTo (0 * 0x10000) audios → Gives video audios (streams_from 0 from seen goings (old_turns 0 from video audios ++ rest))
unfolding streams_from
no_turns from seen goings video audios rest closed short shorts = (sym (empty video short), none_back goings audios closed shorts)

both_back : (audios : List (List ℕ)) → zip_with ◌++◌ (firsts audios) (laters audios) ≡ audios
unfolding zip_with
both_back [] = refl
both_back (audio ∷ audios) = ap₂ (λ (l : List ℕ) (m : List (List ℕ)). l ∷ m) (take-append-drop 0x10000 audio) (both_back audios)

later_closed : (audios : List (List ℕ)) → Closed (map goes_on (firsts audios)) (laters audios)
later_closed [] = tt
later_closed (audio ∷ audios) = (over_later audio, later_closed audios)

module _ (n from : ℕ) (seen : Bool) (goings : List Bool) (video : List ℕ) (audios : List (List ℕ)) (rest : List ℕ) (sees : seen ≡ false → video ≡ [])
    (closed : Closed goings audios) (few : length audios ≤ 2 ^ 32) (none : NoChunk Old rest) where
  abbrev first : List ℕ
  first = next_of Old Video from video

  abbrev second : List ℕ
  second = old_audios from 0 audios

  abbrev later : List ℕ
  later = old_turns n (from + 0x10000) (drop 0x10000 video) (laters audios)

  abbrev turns : List ℕ
  turns = first ++ (second ++ (later ++ rest))

  abbrev v : List ℕ
  v = take 0x10000 video

  seen_back : seen_from from seen turns ≡ v
  seen_back =
      next_back Old Video from seen video (second ++ (later ++ rest)) sees refl
      (λ e.
      no_video_audios from from 0 audios (later ++ rest)
      (ap (λ (l : List ℕ). payload_in Old Video from true (old_turns n (from + 0x10000) (drop 0x10000 l) (laters audios) ++ rest)) e
      ∙ no_video_turns from n (from + 0x10000) (laters audios) rest none))

  behind_video : drop (chunk_size Old (length v)) turns ≡ second ++ (later ++ rest)
  behind_video = drop_at first (second ++ (later ++ rest)) (chunk_size Old (length v)) (next_size Old Video from video)

  over : (m : ℕ) → m < 2 ^ 32 → get_or audios (m - 0) [] ≡ [] → payload_in Old (Audio m) from true (later ++ rest) ≡ []
  over m fits e =
      let all : m - 0 ≡ m = omega arith in
      no_audio_turns from m fits n (from + 0x10000) (drop 0x10000 video) (laters audios) rest (rw (length-map audios (drop 0x10000)) few)
      (get_or-map (drop 0x10000) audios m [] ∙ ap (λ (i : ℕ). drop 0x10000 (get_or audios i [])) (sym all) ∙ ap (drop 0x10000) e) none

  heard_back : heard_from from seen goings turns ≡ firsts audios
  heard_back =
      ap (λ (l : List ℕ). payloads_in from 0 goings (drop (chunk_size Old (length l)) turns)) seen_back ∙ ap (payloads_in from 0 goings) behind_video
      ∙ payloads_back from 0 goings audios (later ++ rest) closed (omega arith) (λ m h k e. over m (omega arith) e)

  behind_turn : drop (chunk_size Old (length v) + sizes_of (firsts audios)) turns ≡ later ++ rest
  behind_turn =
      sym (drop-drop (sizes_of (firsts audios)) (chunk_size Old (length v)) turns) ∙ ap (drop (sizes_of (firsts audios))) behind_video
      ∙ drop_at second (later ++ rest) (sizes_of (firsts audios)) (audios_size from 0 audios)

  turn_back : streams_from (suc n) from seen goings turns
      ≡ with_turn v (firsts audios) (streams_from n (from + 0x10000) (goes_on v) (map goes_on (firsts audios)) (later ++ rest))
  unfolding streams_from
  turn_back = rw (heard_back, seen_back, behind_turn)

  turn_gives : Gives (drop 0x10000 video) (laters audios) (streams_from n (from + 0x10000) (goes_on v) (map goes_on (firsts audios)) (later ++ rest))
      → Gives video audios (streams_from (suc n) from seen goings (old_turns (suc n) from video audios ++ rest))
  unfolding old_turns
  turn_gives after =
      let grouped : (first ++ (second ++ later)) ++ rest ≡ turns = simp append_assoc in
      rw (grouped, turn_back) (
        ap (λ (l : List ℕ). v ++ l) after.0 ∙ take-append-drop 0x10000 video,
        ap (zip_with ◌++◌ (firsts audios)) after.1 ∙ both_back audios,
      )

pub streams_back : (n from : ℕ) (seen : Bool) (goings : List Bool) (video : List ℕ) (audios : List (List ℕ)) (rest : List ℕ) → (seen ≡ false → video ≡ []) → Closed goings audios
    → length audios ≤ 2 ^ 32 → length video ≤ n * 0x10000 → UpTo (n * 0x10000) audios → NoChunk Old rest
    → Gives video audios (streams_from n from seen goings (old_turns n from video audios ++ rest))
streams_back zero from seen goings video audios rest sees closed few short shorts none = no_turns from seen goings video audios rest closed short shorts
streams_back (suc n) from seen goings video audios rest sees closed few short shorts none =
    turn_gives n from seen goings video audios rest sees closed few none
    (streams_back n (from + 0x10000) (goes_on (take 0x10000 video)) (map goes_on (firsts audios)) (drop 0x10000 video) (laters audios) rest (over_later video) (later_closed audios)
    (rw (length-map audios (drop 0x10000)) few) (rw length-drop (omega arith)) (upto_later n audios shorts) none)

-- ---- streams are no longer than their chunks

first_fits : (from : ℕ) (video : List ℕ) → length (take 0x10000 video) ≤ length (next_of Old Video from video)
first_fits from video = omega (arith, next_size Old Video from video, size_holds Old (length (take 0x10000 video)))

audios_fit : (n from number : ℕ) (audios : List (List ℕ)) → UpTo n (laters audios) → UpTo (length (old_audios from number audios) + n) audios
unfolding old_audios
audios_fit n from number [] u = tt
audios_fit n from number (audio ∷ audios) u =
    let chunk = next_of Old (Audio number) from audio in
    let others = old_audios from (number + 1) audios in
    let sum = length-append chunk others in
    (omega (arith, sum, next_size Old (Audio number) from audio, size_holds Old (length (take 0x10000 audio)), length-take 0x10000 audio, length-drop 0x10000 audio, u.0), upto_more (length others + n) (length (chunk ++ others) + n) audios (omega (arith, sum)) (audios_fit n from (number + 1) audios u.1))

pub turns_fit : (n from : ℕ) (video : List ℕ) (audios : List (List ℕ)) → length video ≤ n * 0x10000 → UpTo (n * 0x10000) audios
    → (length video ≤ length (old_turns n from video audios)) × UpTo (length (old_turns n from video audios)) audios
unfolding old_turns
turns_fit zero from video audios short shorts = (omega arith, shorts)
turns_fit (suc n) from video audios short shorts =
    let chunk = next_of Old Video from video in
    let others = old_audios from 0 audios in
    let later = old_turns n (from + 0x10000) (drop 0x10000 video) (laters audios) in
    let ih = turns_fit n (from + 0x10000) (drop 0x10000 video) (laters audios) (rw length-drop (omega arith)) (upto_later n audios shorts) in
    let sum = length-append chunk (others ++ later) in
    let sum' = length-append others later in
    (omega (arith, sum, sum', first_fits from video, length-take 0x10000 video, length-drop 0x10000 video, ih.0), upto_more (length others + length later) (length (chunk ++ (others ++ later))) audios (omega (arith, sum, sum')) (audios_fit (length later) from 0 audios ih.1))
