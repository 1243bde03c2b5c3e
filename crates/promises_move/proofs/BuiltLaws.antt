-- Which containers are films of the builder, and with how many audios. Assumes nothing.
use Prim.Native.Nat.{ℕ, ◌+◌, ◌*◌, ◌^◌, ◌≤◌, ◌<◌}
use mathlib.Core.Path.{◌≡◌, refl, sym, ap, ◌∙◌}
use mathlib.Core.List.{List, [], ◌∷◌, ◌++◌, append_assoc}
use mathlib.Core.Bool.{Bool, true, false, ◌&&◌}
use native.Mathlib.Omega.{arith}
use lib.ListN.{length, drop, length-append}
use lib.Seq.{drop-drop, drop_at}
use lib.Dec.{ltb}
use Rattle.signature.specs.Signatures.{CRID, SFV, SFA, same_bytes, stands_at}
use Rattle.utf8.specs.Utf8.{is_utf8}
use Rattle.word.specs.Bytes.{bytes32}
use Rattle.turns.specs.declared.Track.{Track}
use Rattle.turns.specs.declared.Track.TheVariants.{Video, Audio}
use Rattle.turns.specs.declared.Form.TheVariants.{Old}
use Rattle.turns.specs.Chunks.{letters_in}
use Rattle.turns.specs.Turns.{turns_of, read_in}
use Rattle.turns.proofs.FrontLaws.{front, stands_front, front_self, both_true, same_true}
use Rattle.turns.proofs.BackLaws.{NoChunk, Gives, other_letters, read_back}
use Rattle.old_film.specs.Blocks.{old_head, table_block}
use Rattle.old_film.specs.Tables.{old_names, old_video, old_audio}
use Rattle.old_film.specs.Films.{audio_blocks, old_turns, bytes_in, old_ends, old_bytes}
use Rattle.old_film.specs.Finding.{name_in, name_size, parts_from, parts_of, rebuilt, is_old}
use Rattle.old_film.proofs.FindLaws.{name_block_length}
use Rattle.old_film.proofs.BackLaws.{name_there, behind_head}
use Rattle.old_film_many.specs.Audios.{is_many, count_in, streams_in}
use Rattle.promises_move.specs.Promises.{Built}

-- ---- how long a film is: longer than its name, and than it has audios

abbrev block : ℕ → List ℕ
block number = table_block SFA (old_audio number)

block_length : (number : ℕ) → length (block number) ≡ 0x60
unfolding table_block old_audio old_head
block_length number = refl

blocks_length : (number : ℕ) (audios : List (List ℕ)) → length (audio_blocks number audios) ≡ length audios * 0x60
unfolding audio_blocks
blocks_length number [] = refl
blocks_length number (audio ∷ audios) = length-append (block number) (audio_blocks (number + 1) audios) ∙ omega (arith, block_length number, blocks_length (number + 1) audios)

module _ (name video : List ℕ) (audios : List (List ℕ)) where
  abbrev names : List ℕ
  names = table_block CRID (old_names name)

  abbrev videos : List ℕ
  videos = table_block SFV (old_video (length video))

  abbrev behind : List ℕ
  behind = old_turns (length video + bytes_in audios) 0 video audios ++ old_ends audios

  pub film_longer : 97 + length name + length audios * 0x60 ≤ length (old_bytes name video audios)
  unfolding old_bytes
  film_longer =
      omega (
        arith,
        length-append names (videos ++ (audio_blocks 0 audios ++ behind)),
        length-append videos (audio_blocks 0 audios ++ behind),
        length-append (audio_blocks 0 audios) behind,
        name_block_length name,
        blocks_length 0 audios,
      )

-- ---- a film with several audios is none with one: where the second's block stands, an end would

block_letters : (track : Track) (rest : List ℕ) → front (bytes32 (letters_in Old track)) (block 1 ++ rest) ≡ false
unfolding table_block old_head same_bytes
block_letters Video rest = refl
block_letters (Audio number) rest = refl

no_chunk : (rest : List ℕ) → NoChunk Old (block 1 ++ rest)
no_chunk rest track from = other_letters Old track from (block 1 ++ rest) (block_letters track rest)

none_read : (rest : List ℕ) → Gives [] [] 0 (read_in Old true (block 1 ++ rest))
unfolding turns_of
none_read rest = read_back Old true [] [] (block 1 ++ rest) (λ e. refl) (λ n. refl) (λ n. refl) (no_chunk rest)

second_stands : (rest : List ℕ) → front (bytes32 SFA) (block 1 ++ rest) ≡ true
unfolding table_block old_head same_bytes
second_stands rest = refl

end_stands : front (bytes32 SFA) (old_ends ([] ∷ [])) ≡ false
unfolding old_ends old_head same_bytes
end_stands = refl

-- a film whose one audio and whose video are empty, behind the audio's block
empty_behind : (name : List ℕ) → drop (name_size (length name) + 0x80 + 0x60) (old_bytes name [] ([] ∷ [])) ≡ old_ends ([] ∷ [])
unfolding old_bytes audio_blocks old_turns bytes_in
empty_behind name =
    sym (drop-drop 0x60 (name_size (length name) + 0x80) (old_bytes name [] ([] ∷ []))) ∙ ap (drop 0x60) (behind_head name 0 ((block 0 ++ []) ++ ([] ++ old_ends ([] ∷ []))))
    ∙ ap (drop 0x60) (append_assoc (block 0) [] (old_ends ([] ∷ []))) ∙ drop_at (block 0) (old_ends ([] ∷ [])) 0x60 (block_length 0)

module _ (name video some other : List ℕ) (audios : List (List ℕ)) (fits : 89 + length name < 2 ^ 32) where
  abbrev film : List ℕ
  film = old_bytes name video (some ∷ (other ∷ audios))

  abbrev rest : List ℕ
  rest = audio_blocks 2 audios ++ behind name video (some ∷ (other ∷ audios))

  laid : film ≡ names name video (some ∷ (other ∷ audios)) ++ (videos name video (some ∷ (other ∷ audios)) ++ (block 0 ++ (block 1 ++ rest)))
  unfolding old_bytes audio_blocks
  laid = simp append_assoc

  abbrev place : ℕ
  place = name_size (length name) + 0x80

  name_back : name_in film ≡ name
  name_back = ap name_in laid ∙ name_there name (videos name video (some ∷ (other ∷ audios)) ++ (block 0 ++ (block 1 ++ rest))) fits

  first_behind : drop place film ≡ block 0 ++ (block 1 ++ rest)
  first_behind = ap (drop place) laid ∙ behind_head name (length video) (block 0 ++ (block 1 ++ rest))

  first_there : stands_at (block 0) film place ≡ true
  first_there = stands_front (block 0) film place ∙ ap (front (block 0)) first_behind ∙ front_self (block 0) (block 1 ++ rest)

  second_behind : drop (place + 0x60) film ≡ block 1 ++ rest
  second_behind = sym (drop-drop 0x60 place film) ∙ ap (drop 0x60) first_behind ∙ drop_at (block 0) (block 1 ++ rest) 0x60 (block_length 0)

  parts_are : parts_of film ≡ parts_from film name true (place + 0x60)
  unfolding parts_of
  parts_are = rw (name_back, first_there)

  read_is : Gives [] [] 0 (read_in Old true (drop (place + 0x60) film))
  read_is = rw second_behind (none_read rest)

  rebuilt_is : rebuilt (parts_of film) ≡ old_bytes name [] ([] ∷ [])
  rebuilt_is = rw parts_are (rw (read_is.0, read_is.1))

  other_film : (t : Bool) → same_bytes film (old_bytes name [] ([] ∷ [])) ≡ t → t ≡ false
  other_film true e =
      let same : old_ends ([] ∷ []) ≡ block 1 ++ rest = sym (empty_behind name) ∙ ap (drop (place + 0x60)) (sym (same_true film (old_bytes name [] ([] ∷ [])) e)) ∙ second_behind in
      sym (second_stands rest) ∙ ap (front (bytes32 SFA)) (sym same) ∙ end_stands
  other_film false e = refl

  and_not : (t u : Bool) → u ≡ false → (t && u) ≡ false
  and_not true u e = e
  and_not false u e = refl

  pub several_not_one : is_old film ≡ false
  several_not_one =
      and_not (is_utf8 (parts_of film).name) (same_bytes film (rebuilt (parts_of film)))
      (ap (same_bytes film) rebuilt_is ∙ other_film (same_bytes film (old_bytes name [] ([] ∷ []))) refl)

-- ---- what is taken for a film of the builder is one

pub one_built : (c : List ℕ) → is_old c ≡ true → Built c
one_built c e =
    let b = both_true (is_utf8 (parts_of c).name) (same_bytes c (rebuilt (parts_of c))) e in
    ((parts_of c).name, ((parts_of c).read.video, (_, (b.0, same_true c (rebuilt (parts_of c)) b.1))))

pub many_built : (c : List ℕ) → is_many c ≡ true → Built c
unfolding is_many
many_built c e =
    let name = name_in c in
    let place = name_size (length name) + 0x80 in
    let count = count_in (drop place c) in
    let streams = streams_in count (drop (place + count * 0x60) c) in
    let b = both_true (is_utf8 name && ltb 1 count) (same_bytes c (old_bytes name streams.video streams.audios)) e in
    (name, (streams.video, (streams.audios, ((both_true (is_utf8 name) (ltb 1 count) b.0).0, same_true c (old_bytes name streams.video streams.audios) b.1))))
