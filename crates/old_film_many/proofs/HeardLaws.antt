-- What is read of a video and any number of audios stands there: bytes begin with the turns of those streams. Assumes nothing.
use Prim.Native.Nat.{ℕ, zero, suc, ◌+◌, ◌*◌, ◌/◌, ◌≤◌}
use mathlib.Core.Path.{◌≡◌, refl, sym, ap, ap₂, ◌∙◌}
use mathlib.Core.List.{List, [], ◌∷◌, ◌++◌, append_assoc, map, zip_with}
use mathlib.Core.Bool.{Bool, true, false}
use mathlib.Core.Logic.{inl, inr}
use native.Mathlib.Omega.{arith}
use lib.ListN.{length, drop, length-append, length-drop, length-replicate, replicate}
use lib.Seq.{drop-drop}
use Rattle.turns.specs.declared.Form.TheVariants.{Old}
use Rattle.turns.specs.declared.Track.TheVariants.{Video, Audio}
use Rattle.turns.specs.Chunks.{chunk_size, payload_in}
use Rattle.turns.specs.Turns.{next_of, goes_on}
use Rattle.turns.proofs.ReadLaws.{held, closed, Joins, later_part, next_first, empty}
use Rattle.old_film.specs.Films.{old_audios, old_turns, bytes_in}
use Rattle.old_film_many.specs.Audios.{payloads_in, sizes_of, seen_from, heard_from, Streams, streams_from, streams_in}

-- ---- the chunks of a turn

pub payloads_stand : (from number : ℕ) (goings : List Bool) (bytes : List ℕ)
    → bytes ≡ old_audios from number (payloads_in from number goings bytes) ++ drop (sizes_of (payloads_in from number goings bytes)) bytes
unfolding payloads_in old_audios sizes_of
payloads_stand from number [] bytes = refl
payloads_stand from number (going ∷ goings) bytes =
    let payload = payload_in Old (Audio number) from going bytes in
    let size = chunk_size Old (length payload) in
    let others = payloads_in from (number + 1) goings (drop size bytes) in
    (held Old (Audio number) from bytes going).stands
    ∙ ap (λ (l : List ℕ). next_of Old (Audio number) from payload ++ l)
    (payloads_stand from (number + 1) goings (drop size bytes) ∙ ap (λ (l : List ℕ). old_audios from (number + 1) others ++ l) (drop-drop (sizes_of others) size bytes))
    ∙ sym (append_assoc (next_of Old (Audio number) from payload) (old_audios from (number + 1) others) (drop (size + sizes_of others) bytes))

-- ---- each payload, and what its stream goes on with

-- an audio that does not go on has no bytes
abbrev pub Closed : List Bool → List (List ℕ) → Type 0
Closed [] [] = Unit
Closed [] (audio ∷ audios) = ⊥
Closed (going ∷ goings) [] = ⊥
Closed (going ∷ goings) (audio ∷ audios) = (going ≡ false → audio ≡ []) × Closed goings audios

abbrev Joined : List (List ℕ) → List (List ℕ) → Type 0
Joined [] [] = Unit
Joined [] (more ∷ others) = ⊥
Joined (payload ∷ payloads) [] = ⊥
Joined (payload ∷ payloads) (more ∷ others) = (length payload ≤ 0x10000) × Joins payload more × Joined payloads others

closed_length : (goings : List Bool) (audios : List (List ℕ)) → Closed goings audios → length audios ≡ length goings
closed_length [] [] c = refl
closed_length [] (audio ∷ audios) c = absurd c
closed_length (going ∷ goings) [] c = absurd c
closed_length (going ∷ goings) (audio ∷ audios) c = ap suc (closed_length goings audios c.1)

none_closed : (goings : List Bool) → Closed goings (map (λ going. []) goings)
none_closed [] = tt
none_closed (going ∷ goings) = (λ e. refl, none_closed goings)

module _ (from : ℕ) where
  both_closed : (number : ℕ) (goings : List Bool) (bytes : List ℕ) (others : List (List ℕ)) → Closed (map goes_on (payloads_in from number goings bytes)) others
      → Closed goings (zip_with ◌++◌ (payloads_in from number goings bytes) others)
  unfolding payloads_in zip_with
  both_closed number [] bytes [] c = tt
  both_closed number [] bytes (more ∷ others) c = absurd c
  both_closed number (going ∷ goings) bytes [] c = absurd c
  both_closed number (going ∷ goings) bytes (more ∷ others) c =
      let none : going ≡ false → payload_in Old (Audio number) from going bytes ≡ [] = closed Old (Audio number) from bytes going in
      (λ e. ap₂ (λ (l m : List ℕ). l ++ m) (none e) (c.0 (ap goes_on (none e))), both_closed (number + 1) goings (drop (chunk_size Old (length (payload_in Old (Audio number) from going bytes))) bytes) others c.1)

  joins_by : (payload more : List ℕ) (going : Bool) → goes_on payload ≡ going → (goes_on payload ≡ false → more ≡ []) → Joins payload more
  joins_by payload more true e c = inl e
  joins_by payload more false e c = inr (c e)

  joined : (number : ℕ) (goings : List Bool) (bytes : List ℕ) (others : List (List ℕ)) → Closed (map goes_on (payloads_in from number goings bytes)) others
      → Joined (payloads_in from number goings bytes) others
  unfolding payloads_in
  joined number [] bytes [] c = tt
  joined number [] bytes (more ∷ others) c = absurd c
  joined number (going ∷ goings) bytes [] c = absurd c
  joined number (going ∷ goings) bytes (more ∷ others) c =
      let payload = payload_in Old (Audio number) from going bytes in
      ((held Old (Audio number) from bytes going).few, joins_by payload more (goes_on payload) refl c.0, joined (number + 1) goings (drop (chunk_size Old (length payload)) bytes) others c.1)

  audios_first : (number : ℕ) (payloads others : List (List ℕ)) → Joined payloads others → old_audios from number (zip_with ◌++◌ payloads others) ≡ old_audios from number payloads
  unfolding old_audios zip_with
  audios_first number [] [] j = refl
  audios_first number [] (more ∷ others) j = absurd j
  audios_first number (payload ∷ payloads) [] j = absurd j
  audios_first number (payload ∷ payloads) (more ∷ others) j =
      ap₂ (λ (l m : List ℕ). l ++ m) (next_first Old (Audio number) from payload more j.0 j.1) (audios_first (number + 1) payloads others j.2)

audios_later : (payloads others : List (List ℕ)) → Joined payloads others → map (drop 0x10000) (zip_with ◌++◌ payloads others) ≡ others
unfolding zip_with
audios_later [] [] j = refl
audios_later [] (more ∷ others) j = absurd j
audios_later (payload ∷ payloads) [] j = absurd j
audios_later (payload ∷ payloads) (more ∷ others) j = ap₂ (λ (l : List ℕ) (m : List (List ℕ)). l ∷ m) (later_part payload more j.0 j.1) (audios_later payloads others j.2)

-- ---- streams that do not go on

audios_closed : (n from : ℕ) (seen : Bool) (goings : List Bool) (bytes : List ℕ) → Closed goings (streams_from n from seen goings bytes).audios
unfolding streams_from
audios_closed zero from seen goings bytes = none_closed goings
audios_closed (suc n) from seen goings bytes =
    let v = seen_from from seen bytes in
    let payloads = heard_from from seen goings bytes in
    both_closed from 0 goings (drop (chunk_size Old (length v)) bytes) (streams_from n (from + 0x10000) (goes_on v) (map goes_on payloads) (drop (chunk_size Old (length v) + sizes_of payloads) bytes)).audios
    (audios_closed n (from + 0x10000) (goes_on v) (map goes_on payloads) (drop (chunk_size Old (length v) + sizes_of payloads) bytes))

video_closed : (n from : ℕ) (seen : Bool) (goings : List Bool) (bytes : List ℕ) → seen ≡ false → (streams_from n from seen goings bytes).video ≡ []
unfolding streams_from
video_closed zero from seen goings bytes e = refl
video_closed (suc n) from seen goings bytes e =
    let v = seen_from from seen bytes in
    let payloads = heard_from from seen goings bytes in
    let z : v ≡ [] = closed Old Video from bytes seen e in
    ap₂ (λ (l m : List ℕ). l ++ m) z
    (video_closed n (from + 0x10000) (goes_on v) (map goes_on payloads) (drop (chunk_size Old (length v) + sizes_of payloads) bytes) (ap goes_on z))

-- ---- all turns

turns_more : (n from : ℕ) (v more : List ℕ) (payloads others : List (List ℕ)) → length v ≤ 0x10000 → Joins v more → Joined payloads others
    → old_turns (suc n) from (v ++ more) (zip_with ◌++◌ payloads others)
    ≡ next_of Old Video from v ++ (old_audios from 0 payloads ++ old_turns n (from + 0x10000) more others)
unfolding old_turns
turns_more n from v more payloads others few j js =
    rw (next_first Old Video from v more few j, audios_first from 0 payloads others js, later_part v more few j, audios_later payloads others js)

regroup : (x y z r : List ℕ) → x ++ (y ++ (z ++ r)) ≡ (x ++ (y ++ z)) ++ r
regroup x y z r = simp append_assoc

no_turns : (from : ℕ) (video : List ℕ) (audios : List (List ℕ)) → old_turns 0 from video audios ≡ []
unfolding old_turns
no_turns from video audios = refl

streams_stand : (n from : ℕ) (seen : Bool) (goings : List Bool) (bytes : List ℕ)
    → bytes ≡ old_turns n from (streams_from n from seen goings bytes).video (streams_from n from seen goings bytes).audios ++ drop (streams_from n from seen goings bytes).end bytes
unfolding streams_from
streams_stand zero from seen goings bytes = ap (λ (l : List ℕ). l ++ bytes) (sym (no_turns from [] (map (λ going. []) goings)))
streams_stand (suc n) from seen goings bytes =
    let v = seen_from from seen bytes in
    let size = chunk_size Old (length v) in
    let rest = drop size bytes in
    let payloads = heard_from from seen goings bytes in
    let sizes = size + sizes_of payloads in
    let last = drop sizes bytes in
    let next = streams_from n (from + 0x10000) (goes_on v) (map goes_on payloads) last in
    let later = old_turns n (from + 0x10000) next.video next.audios in
    (held Old Video from bytes seen).stands
    ∙ ap (λ (l : List ℕ). next_of Old Video from v ++ l)
    (payloads_stand from 0 goings rest
    ∙ ap (λ (l : List ℕ). old_audios from 0 payloads ++ l)
    (drop-drop (sizes_of payloads) size bytes ∙ streams_stand n (from + 0x10000) (goes_on v) (map goes_on payloads) last ∙ ap (λ (l : List ℕ). later ++ l) (drop-drop next.end sizes bytes)))
    ∙ regroup (next_of Old Video from v) (old_audios from 0 payloads) later (drop (sizes + next.end) bytes)
    ∙ ap (λ (l : List ℕ). l ++ drop (sizes + next.end) bytes)
    (sym (turns_more n from v next.video payloads next.audios (held Old Video from bytes seen).few
    (joins_by from v next.video (goes_on v) refl (video_closed n (from + 0x10000) (goes_on v) (map goes_on payloads) last))
    (joined from 0 goings rest next.audios (audios_closed n (from + 0x10000) (goes_on v) (map goes_on payloads) last))))

-- ---- as many turns as there are, or more

-- no audio is longer
abbrev pub UpTo : ℕ → List (List ℕ) → Type 0
UpTo n [] = Unit
UpTo n (audio ∷ audios) = (length audio ≤ n) × UpTo n audios

pub upto_more : (n m : ℕ) (audios : List (List ℕ)) → n ≤ m → UpTo n audios → UpTo m audios
upto_more n m [] h u = tt
upto_more n m (audio ∷ audios) h u = (omega (arith, u.0), upto_more n m audios h u.1)

pub upto_all : (audios : List (List ℕ)) → UpTo (bytes_in audios) audios
unfolding bytes_in
upto_all [] = tt
upto_all (audio ∷ audios) = (omega arith, upto_more (bytes_in audios) (length audio + bytes_in audios) audios (omega arith) (upto_all audios))

pub upto_later : (n : ℕ) (audios : List (List ℕ)) → UpTo (suc n * 0x10000) audios → UpTo (n * 0x10000) (map (drop 0x10000) audios)
upto_later n [] u = tt
upto_later n (audio ∷ audios) u = (rw length-drop (omega (arith, u.0)), upto_later n audios u.1)

no_audios : (from number : ℕ) (audios : List (List ℕ)) → UpTo 0 audios → old_audios from number audios ≡ []
unfolding old_audios next_of
no_audios from number [] u = refl
no_audios from number ([] ∷ audios) u = no_audios from (number + 1) audios u.1
no_audios from number ((byte ∷ audio) ∷ audios) u = absurd (omega (arith, u.0))

pub turns_none : (n from : ℕ) (audios : List (List ℕ)) → UpTo 0 audios → old_turns n from [] audios ≡ []
unfolding old_turns next_of
turns_none zero from audios u = refl
turns_none (suc n) from audios u = rw (no_audios from 0 audios u) (turns_none n (from + 0x10000) (map (drop 0x10000) audios) (upto_later 0 audios (upto_more 0 0x10000 audios (omega arith) u)))

pub turns_same : (n m from : ℕ) (video : List ℕ) (audios : List (List ℕ)) → length video ≤ n * 0x10000 → UpTo (n * 0x10000) audios → length video ≤ m * 0x10000
    → UpTo (m * 0x10000) audios → old_turns n from video audios ≡ old_turns m from video audios
unfolding old_turns
turns_same zero m from video audios h u k w = rw (empty video (omega arith)) (sym (turns_none m from audios u))
turns_same (suc n) zero from video audios h u k w = rw (empty video (omega arith)) (turns_none (suc n) from audios w)
turns_same (suc n) (suc m) from video audios h u k w =
    ap (λ (l : List ℕ). next_of Old Video from video ++ (old_audios from 0 audios ++ l))
    (turns_same n m (from + 0x10000) (drop 0x10000 video) (map (drop 0x10000) audios) (rw length-drop (omega arith)) (upto_later n audios u) (rw length-drop (omega arith)) (upto_later m audios w))

none_upto : (n : ℕ) (goings : List Bool) → UpTo n (map (λ going. []) goings)
none_upto n [] = tt
none_upto n (going ∷ goings) = (omega arith, none_upto n goings)

both_upto : (n : ℕ) (payloads others : List (List ℕ)) → Joined payloads others → UpTo n others → UpTo (0x10000 + n) (zip_with ◌++◌ payloads others)
unfolding zip_with
both_upto n [] others j u = tt
both_upto n (payload ∷ payloads) [] j u = absurd j
both_upto n (payload ∷ payloads) (more ∷ others) j u = (omega (arith, length-append payload more, j.0, u.0), both_upto n payloads others j.2 u.1)

streams_few : (n from : ℕ) (seen : Bool) (goings : List Bool) (bytes : List ℕ)
    → (length (streams_from n from seen goings bytes).video ≤ n * 0x10000) × UpTo (n * 0x10000) (streams_from n from seen goings bytes).audios
unfolding streams_from
streams_few zero from seen goings bytes = (omega arith, none_upto (0 * 0x10000) goings)
streams_few (suc n) from seen goings bytes =
    let v = seen_from from seen bytes in
    let size = chunk_size Old (length v) in
    let payloads = heard_from from seen goings bytes in
    let last = drop (size + sizes_of payloads) bytes in
    let next = streams_from n (from + 0x10000) (goes_on v) (map goes_on payloads) last in
    let few = streams_few n (from + 0x10000) (goes_on v) (map goes_on payloads) last in
    let sum : 0x10000 + n * 0x10000 ≡ suc n * 0x10000 = omega arith in
    let audios : UpTo (0x10000 + n * 0x10000) (zip_with ◌++◌ payloads next.audios) =
    both_upto (n * 0x10000) payloads next.audios (joined from 0 goings (drop size bytes) next.audios (audios_closed n (from + 0x10000) (goes_on v) (map goes_on payloads) last)) few.1 in
    (omega (arith, length-append v next.video, (held Old Video from bytes seen).few, few.0), rw sum at audios)

-- ---- what is read, whole

module _ (count : ℕ) (bytes : List ℕ) where
  abbrev S : Streams
  S = streams_in count bytes

  pub audios_count : length S.audios ≡ count
  audios_count =
      closed_length (replicate count true) S.audios (audios_closed (suc (length bytes / 0x10000)) 0 true (replicate count true) bytes) ∙ length-replicate count true

  pub streams_whole : bytes ≡ old_turns (length S.video + bytes_in S.audios) 0 S.video S.audios ++ drop S.end bytes
  streams_whole =
      let n = suc (length bytes / 0x10000) in
      let m = length S.video + bytes_in S.audios in
      let few = streams_few n 0 true (replicate count true) bytes in
      streams_stand n 0 true (replicate count true) bytes
      ∙ ap (λ (l : List ℕ). l ++ drop S.end bytes)
      (turns_same n m 0 S.video S.audios few.0 few.1 (omega arith) (upto_more (bytes_in S.audios) (m * 0x10000) S.audios (omega arith) (upto_all S.audios)))
