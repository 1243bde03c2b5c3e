-- A film of the builder, as it is read: each part stands where it is looked for. Assumes nothing.
use Prim.Native.Nat.{ℕ, zero, suc, ◌+◌, ◌-◌, ◌^◌, ◌<◌}
use mathlib.Core.Path.{◌≡◌, refl, sym, ap, ◌∙◌}
use mathlib.Core.List.{List, [], ◌∷◌, ◌++◌, append_assoc}
use mathlib.Core.Bool.{Bool, true, false}
use native.Mathlib.Omega.{arith}
use lib.ListN.{length, drop}
use lib.Seq.{drop-drop, drop_at}
use Rattle.word.specs.Numbers.{be32}
use Rattle.part.specs.Parts.{part_at}
use Rattle.signature.specs.Signatures.{CRID, SFV, SFA, same_bytes, stands_at}
use Rattle.word.specs.Bytes.{bytes32}
use Rattle.word.proofs.NumberLaws.{whole32}
use Rattle.turns.specs.declared.Track.{Track}
use Rattle.turns.specs.declared.Track.TheVariants.{Video, Audio}
use Rattle.turns.specs.declared.Form.TheVariants.{Old}
use Rattle.turns.specs.Chunks.{letters_in, shape_of, head_by, chunk_of}
use Rattle.turns.specs.Turns.{next_of, turns_of, chunks_of, read_in}
use Rattle.turns.proofs.FrontLaws.{front, stands_front, front_self}
use Rattle.turns.proofs.ReadLaws.{turns_none}
use Rattle.turns.proofs.PayloadLaws.{part_between}
use Rattle.turns.proofs.BackLaws.{NoChunk, Gives, other_letters, read_back}
use Rattle.old_film.specs.Blocks.{old_head, table_block}
use Rattle.old_film.specs.Tables.{old_names, old_video, old_audio}
use Rattle.old_film.specs.Films.{audio_blocks, old_ends, old_bytes}
use Rattle.old_film.specs.Finding.{name_in, name_size, audio_size, parts_from, parts_of, audios_of}
use Rattle.old_film.proofs.FindLaws.{name_head, name_tail, name_head_length, name_block_lem, name_block_length, video_block_length, audio_blocks_length, turns_same_old}

-- ---- the ends

ends_letters : (track : Track) (audios : List (List ℕ)) → front (bytes32 (letters_in Old track)) (old_ends audios) ≡ false
unfolding old_ends old_head same_bytes
ends_letters Video [] = refl
ends_letters Video (audio ∷ audios) = refl
ends_letters (Audio number) [] = refl
ends_letters (Audio number) (audio ∷ audios) = refl

-- they are no chunks
pub ends_none : (audios : List (List ℕ)) → NoChunk Old (old_ends audios)
ends_none audios track from = other_letters Old track from (old_ends audios) (ends_letters track audios)

-- ---- the audio's block: where there is none, a chunk of the video stands, or an end

no_block : (n : ℕ) (video : List ℕ) → front (table_block SFA (old_audio 0)) (turns_of Old n 0 video [] ++ old_ends []) ≡ false
unfolding table_block old_audio old_head old_ends turns_of next_of chunk_of shape_of head_by same_bytes
no_block zero video = refl
no_block (suc n) [] = ap (λ (l : List ℕ). front (table_block SFA (old_audio 0)) (l ++ old_ends [])) (turns_none Old (suc n) 0)
no_block (suc n) (byte ∷ video) = refl

block_front : (audio : Bool) (video sound : List ℕ) → (audio ≡ false → sound ≡ [])
    → front (table_block SFA (old_audio 0)) (audio_blocks 0 (audios_of audio sound) ++ (chunks_of Old video sound ++ old_ends (audios_of audio sound))) ≡ audio
unfolding audio_blocks
block_front true video sound silent =
    let block = table_block SFA (old_audio 0) in
    let more = chunks_of Old video sound ++ old_ends (sound ∷ []) in
    ap (front block) (append_assoc block [] more) ∙ front_self block more
block_front false video sound silent = rw (silent refl) (no_block (length video + 0) video)

-- ---- the name

module _ (name rest : List ℕ) (fits : 89 + length name < 2 ^ 32) where
  abbrev named : List ℕ
  named = table_block CRID (old_names name) ++ rest

  name_laid : named ≡ name_head name ++ (name ++ (name_tail name ++ rest))
  name_laid =
      ap (λ (l : List ℕ). l ++ rest) (name_block_lem name) ∙ append_assoc (name_head name) (name ++ name_tail name) rest
      ∙ ap (λ (l : List ℕ). name_head name ++ l) (append_assoc name (name_tail name) rest)

  size_back : be32 named 4 ≡ 89 + length name
  unfolding old_head
  size_back = ap (λ (l : List ℕ). be32 l 4) name_laid ∙ whole32 (89 + length name) fits

  pub name_there : name_in named ≡ name
  name_there =
      let e : be32 named 4 - 89 ≡ length name = omega (arith, size_back) in
      ap (part_at named 96) e ∙ ap (λ (l : List ℕ). part_at l 96 (length name)) name_laid
      ∙ part_between (name_head name) name (name_tail name ++ rest) 96 (length name) (name_head_length name) refl

-- ---- behind the blocks of the name and the video

pub behind_head : (name : List ℕ) (v : ℕ) (rest : List ℕ)
    → drop (name_size (length name) + 0x80) (table_block CRID (old_names name) ++ (table_block SFV (old_video v) ++ rest)) ≡ rest
behind_head name v rest =
    let names = table_block CRID (old_names name) in
    let videos = table_block SFV (old_video v) in
    sym (drop-drop 0x80 (name_size (length name)) (names ++ (videos ++ rest)))
    ∙ ap (drop 0x80) (drop_at names (videos ++ rest) (name_size (length name)) (name_block_length name)) ∙ drop_at videos rest 0x80 (video_block_length v)

-- ---- the parts

module _ (name video : List ℕ) (audio : Bool) (sound : List ℕ) (fits : 89 + length name < 2 ^ 32) (silent : audio ≡ false → sound ≡ []) where
  abbrev container : List ℕ
  container = old_bytes name video (audios_of audio sound)

  abbrev names : List ℕ
  names = table_block CRID (old_names name)

  abbrev videos : List ℕ
  videos = table_block SFV (old_video (length video))

  abbrev audios : List ℕ
  audios = audio_blocks 0 (audios_of audio sound)

  abbrev chunks : List ℕ
  chunks = chunks_of Old video sound ++ old_ends (audios_of audio sound)

  laid : container ≡ names ++ (videos ++ (audios ++ chunks))
  unfolding old_bytes
  laid = ap (λ (l : List ℕ). names ++ (videos ++ (audios ++ (l ++ old_ends (audios_of audio sound))))) (turns_same_old audio video sound silent)

  name_back : name_in container ≡ name
  name_back = ap name_in laid ∙ name_there name (videos ++ (audios ++ chunks)) fits

  abbrev place : ℕ
  place = name_size (length name) + 0x80

  behind_video : drop place container ≡ audios ++ chunks
  behind_video = ap (drop place) laid ∙ behind_head name (length video) (audios ++ chunks)

  audio_back : stands_at (table_block SFA (old_audio 0)) container place ≡ audio
  audio_back =
      stands_front (table_block SFA (old_audio 0)) container place ∙ ap (front (table_block SFA (old_audio 0))) behind_video ∙ block_front audio video sound silent

  behind_blocks : drop (place + audio_size audio) container ≡ chunks
  behind_blocks =
      sym (drop-drop (audio_size audio) place container) ∙ ap (drop (audio_size audio)) behind_video
      ∙ drop_at audios chunks (audio_size audio) (audio_blocks_length audio sound)

  pub parts_back : parts_of container ≡ parts_from container name audio (place + audio_size audio)
  unfolding parts_of
  parts_back = rw (name_back, audio_back)

  pub streams_back : Gives video sound (length (chunks_of Old video sound)) (read_in Old audio (drop (place + audio_size audio) container))
  streams_back = rw behind_blocks (read_back Old audio video sound (old_ends (audios_of audio sound)) silent (λ n. refl) (λ n. refl) (ends_none (audios_of audio sound)))
