-- A film of the builder with several audios, as it is read: each part stands where it is looked for. Assumes nothing.
use Prim.Native.Nat.{ℕ, zero, suc, ◌+◌, ◌*◌, ◌/◌, ◌^◌, ◌≤◌, ◌<◌}
use mathlib.Core.Path.{◌≡◌, refl, sym, ap, ap₂, ◌∙◌}
use mathlib.Core.List.{List, [], ◌∷◌, ◌++◌, append_assoc, map}
use mathlib.Core.Bool.{true, false, ◌&&◌}
use native.Mathlib.Omega.{arith}
use lib.ListN.{length, drop, length-append, replicate}
use lib.Seq.{drop-drop, drop_at}
use lib.Dec.{ltb}
use borrow.Author.Tests.{lt-ltb}
use Rattle.signature.specs.Signatures.{CRID, SFV, SFA, same_bytes}
use Rattle.utf8.specs.Utf8.{is_utf8}
use Rattle.word.specs.Bytes.{bytes32}
use Rattle.turns.specs.Chunks.{shape_of, head_by, chunk_of}
use Rattle.turns.specs.Turns.{next_of}
use Rattle.turns.proofs.FrontLaws.{front, same_self}
use Rattle.old_film.specs.Blocks.{old_head, table_block}
use Rattle.old_film.specs.Tables.{old_names, old_video}
use Rattle.old_film.specs.Films.{audio_blocks, old_audios, old_turns, bytes_in, old_ends, old_bytes}
use Rattle.old_film.specs.Finding.{name_in, name_size}
use Rattle.old_film.proofs.BackLaws.{ends_none, name_there, behind_head}
use Rattle.old_film_many.specs.Audios.{count_in, streams_from, streams_in, is_many_by, is_many_at, is_many_of, is_many}
use Rattle.old_film_many.proofs.CountLaws.{blocks_length, NoBlock, no_letters, count_back}
use Rattle.old_film_many.proofs.HeardLaws.{Closed, UpTo, upto_more, upto_all, turns_same}
use Rattle.old_film_many.proofs.StreamBackLaws.{Gives, streams_back, turns_fit}

-- ---- no block of an audio stands behind the last: there a chunk stands, or an end

letters_audios : (from number : ℕ) (audios : List (List ℕ)) (more : List ℕ) → front (bytes32 SFA) more ≡ false → front (bytes32 SFA) (old_audios from number audios ++ more) ≡ false
unfolding old_audios next_of chunk_of shape_of head_by same_bytes
letters_audios from number [] more e = e
letters_audios from number ([] ∷ audios) more e = letters_audios from (number + 1) audios more e
letters_audios from number ((byte ∷ audio) ∷ audios) more e = refl

letters_turns : (n from : ℕ) (video : List ℕ) (audios : List (List ℕ)) (rest : List ℕ) → front (bytes32 SFA) rest ≡ false
    → front (bytes32 SFA) (old_turns n from video audios ++ rest) ≡ false
unfolding old_turns next_of chunk_of shape_of head_by same_bytes
letters_turns zero from video audios rest e = e
letters_turns (suc n) from (byte ∷ video) audios rest e = refl
letters_turns (suc n) from [] audios rest e =
    let later = old_turns n (from + 0x10000) [] (map (drop 0x10000) audios) in
    ap (front (bytes32 SFA)) (append_assoc (old_audios from 0 audios) later rest)
    ∙ letters_audios from 0 audios (later ++ rest) (letters_turns n (from + 0x10000) [] (map (drop 0x10000) audios) rest e)

letters_ends : (audios : List (List ℕ)) → front (bytes32 SFA) (old_ends audios) ≡ false
unfolding old_ends old_head same_bytes
letters_ends [] = refl
letters_ends (audio ∷ audios) = refl

-- ---- the parts

all_go_on : (audios : List (List ℕ)) → Closed (replicate (length audios) true) audios
all_go_on [] = tt
all_go_on (audio ∷ audios) = (λ e. let z : ◌≡◌ {A = ℕ} 0 1 = cc in absurd (omega arith), all_go_on audios)

module _ (name video : List ℕ) (audios : List (List ℕ)) (fits : 89 + length name < 2 ^ 32) (few : length audios ≤ 2 ^ 32) where
  abbrev container : List ℕ
  container = old_bytes name video audios

  abbrev blocks : List ℕ
  blocks = audio_blocks 0 audios

  abbrev k : ℕ
  k = length video + bytes_in audios

  abbrev turns : List ℕ
  turns = old_turns k 0 video audios

  abbrev chunks : List ℕ
  chunks = turns ++ old_ends audios

  laid : container ≡ table_block CRID (old_names name) ++ (table_block SFV (old_video (length video)) ++ (blocks ++ chunks))
  unfolding old_bytes
  laid = refl

  name_back : name_in container ≡ name
  name_back = ap name_in laid ∙ name_there name (table_block SFV (old_video (length video)) ++ (blocks ++ chunks)) fits

  abbrev place : ℕ
  place = name_size (length name) + 0x80

  behind_video : drop place container ≡ blocks ++ chunks
  behind_video = ap (drop place) laid ∙ behind_head name (length video) (blocks ++ chunks)

  no_block : NoBlock chunks
  no_block = no_letters chunks (letters_turns k 0 video audios (old_ends audios) (letters_ends audios))

  count_is : count_in (drop place container) ≡ length audios
  count_is = ap count_in behind_video ∙ count_back 0x100000000 0 audios chunks few no_block

  behind_blocks : drop (place + length audios * 0x60) container ≡ chunks
  behind_blocks =
      sym (drop-drop (length audios * 0x60) place container) ∙ ap (drop (length audios * 0x60)) behind_video
      ∙ drop_at blocks chunks (length audios * 0x60) (blocks_length 0 audios)

  short : length video ≤ k * 0x10000
  short = omega arith

  shorts : UpTo (k * 0x10000) audios
  shorts = upto_more (bytes_in audios) (k * 0x10000) audios (omega arith) (upto_all audios)

  -- as many turns as are looked for
  read_by : (n : ℕ) → length video ≤ n * 0x10000 → UpTo (n * 0x10000) audios → Gives video audios (streams_from n 0 true (replicate (length audios) true) chunks)
  read_by n h u =
      let over : true ≡ false → video ≡ [] = λ e. let z : ◌≡◌ {A = ℕ} 0 1 = cc in absurd (omega arith) in
      rw (turns_same k n 0 video audios short shorts h u) (streams_back n 0 true (replicate (length audios) true) video audios (old_ends audios) over (all_go_on audios) few h u (ends_none audios))

  read_back : Gives video audios (streams_in (length audios) chunks)
  read_back =
      let n = suc (length chunks / 0x10000) in
      let fit = turns_fit k 0 video audios short shorts in
      let sum = length-append turns (old_ends audios) in
      read_by n (omega (arith, fit.0, sum)) (upto_more (length turns) (n * 0x10000) audios (omega (arith, sum)) fit.1)

  pub told : is_utf8 name ≡ true → 1 < length audios → is_many container ≡ true
  unfolding is_many
  told utf8 several =
      ap (λ (l : List ℕ). is_many_of container l (name_size (length l) + 0x80)) name_back ∙ ap (is_many_at container name place) count_is
      ∙ ap (λ (l : List ℕ). is_many_by container name (length audios) (streams_in (length audios) l)) behind_blocks
      ∙ ap₂ (λ (l : List ℕ) (m : List (List ℕ)). is_utf8 name && ltb 1 (length audios) && same_bytes container (old_bytes name l m)) read_back.0 read_back.1
      ∙ rw (utf8, lt-ltb 1 (length audios) several, same_self container)
