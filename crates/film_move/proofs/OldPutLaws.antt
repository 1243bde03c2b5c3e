-- The builder's blocks and ends are put piece by piece: each has room where the whole has, and together they are the whole. Assumes nothing.
use Prim.Native.Nat.{ℕ, ◌+◌, ◌≤◌}
use mathlib.Core.Path.{◌≡◌, refl, sym, ap, ◌∙◌, subst}
use mathlib.Core.List.{List, [], ◌++◌, append-nil}
use mathlib.Core.Bool.{Bool, true, false, cond}
use native.Mathlib.Omega.{arith}
use lib.ListN.{length, length-replicate}
use Rattle.laws.specs.Outputs.{Put}
use Rattle.laws.proofs.PutLaws.{Left, all_left, less_left, left_fits, next_fits, put_then, put_as}
use Rattle.signature.specs.Signatures.{CRID, SFV, SFA}
use Rattle.word.specs.Bytes.{padding}
use Rattle.old_film.specs.Blocks.{old_head, table_block, end_block}
use Rattle.old_film.specs.Tables.{old_names, old_video, old_audio}
use Rattle.old_film.specs.Films.{audio_blocks, old_ends}
use Rattle.old_film.specs.Finding.{audios_of}
use Rattle.old_film.proofs.FindLaws.{name_head, name_tail, name_block_lem, audio_blocks_length}

-- ---- the first block

module _ (name out : List ℕ) (at : ℕ) (room : at + length (table_block CRID (old_names name)) ≤ length out) where
  named : Left (name_head name ++ (name ++ name_tail name)) out at (table_block CRID (old_names name)) out at
  named = subst (λ (l : List ℕ). Left l out at (table_block CRID (old_names name)) out at) (name_block_lem name) (all_left (table_block CRID (old_names name)) out at)

  pub head_fits : at + length (name_head name) ≤ length out
  head_fits = next_fits (name_head name) (name ++ name_tail name) named room

  module _ {out₁ : List ℕ} {at₁ : ℕ} (head : Put (name_head name) out at out₁ at₁) where
    pub name_fits : at₁ + length name ≤ length out₁
    name_fits = next_fits name (name_tail name) (less_left named head) room

    module _ {out₂ : List ℕ} {at₂ : ℕ} (inside : Put name out₁ at₁ out₂ at₂) where
      pub zeros-fit : at₂ + (1 + padding (97 + length name)) ≤ length out₂
      zeros-fit = rw (length-replicate {A = ℕ} (1 + padding (97 + length name)) 0) at (left_fits (less_left (less_left named head) inside) room)

      pub name-put : {out₃ : List ℕ} {at₃ : ℕ} → Put (name_tail name) out₂ at₂ out₃ at₃ → Put (table_block CRID (old_names name)) out at out₃ at₃
      name-put zeros = put_as (put_then head (put_then inside zeros)) (sym (name_block_lem name))

-- ---- a piece, and with audio a second

module _ (first second whole : List ℕ) (audio : Bool) (is : whole ≡ first ++ cond audio second []) (out : List ℕ) (at : ℕ) (room : at + length whole ≤ length out) where
  all : Left (first ++ cond audio second []) out at whole out at
  all = subst (λ (l : List ℕ). Left l out at whole out at) is (all_left whole out at)

  first_fits : at + length first ≤ length out
  first_fits = next_fits first (cond audio second []) all room

  module _ {after : List ℕ} {end : ℕ} (put : Put first out at after end) where
    second_fits : audio ≡ true → end + length second ≤ length after
    second_fits e = subst (λ (t : Bool). end + length (cond t second []) ≤ length after) e (left_fits (less_left all put) room)

    both_put : audio ≡ true → {last : List ℕ} {ends : ℕ} → Put second after end last ends → Put whole out at last ends
    both_put e next = put_as (put_then put next) (sym (is ∙ ap (λ (t : Bool). first ++ cond t second []) e))

    one_put : audio ≡ false → Put whole out at after end
    one_put e = put_as put (sym (is ∙ ap (λ (t : Bool). first ++ cond t second []) e ∙ append-nil first))

-- ---- the blocks of the streams

module _ (video : ℕ) (audio : Bool) where
  abbrev pub blocks : List ℕ
  blocks = table_block SFV (old_video video) ++ audio_blocks 0 (audios_of audio [])

  blocks_are : blocks ≡ table_block SFV (old_video video) ++ cond audio (table_block SFA (old_audio 0)) []
  unfolding audio_blocks
  blocks_are = ap (λ (l : List ℕ). table_block SFV (old_video video) ++ l) (audios audio) where
    audios : (t : Bool) → audio_blocks 0 (audios_of t []) ≡ cond t (table_block SFA (old_audio 0)) []
    audios true = append-nil (table_block SFA (old_audio 0))
    audios false = refl

  module _ (out : List ℕ) (at : ℕ) (room : at + length blocks ≤ length out) where
    pub video_block_fits : at + length (table_block SFV (old_video video)) ≤ length out
    video_block_fits = first_fits (table_block SFV (old_video video)) (table_block SFA (old_audio 0)) blocks audio blocks_are out at room

    module _ {after : List ℕ} {end : ℕ} (put : Put (table_block SFV (old_video video)) out at after end) where
      pub audio-block-fits : audio ≡ true → end + length (table_block SFA (old_audio 0)) ≤ length after
      audio-block-fits = second_fits (table_block SFV (old_video video)) (table_block SFA (old_audio 0)) blocks audio blocks_are out at room put

      pub both-blocks : audio ≡ true → {last : List ℕ} {ends : ℕ} → Put (table_block SFA (old_audio 0)) after end last ends → Put blocks out at last ends
      both-blocks = both_put (table_block SFV (old_video video)) (table_block SFA (old_audio 0)) blocks audio blocks_are out at room put

      pub one_block : audio ≡ false → Put blocks out at after end
      one_block = one_put (table_block SFV (old_video video)) (table_block SFA (old_audio 0)) blocks audio blocks_are out at room put

-- ---- the ends

module _ (audio : Bool) where
  abbrev ends : List ℕ
  ends = old_ends (audios_of audio [])

  ends_are : ends ≡ end_block ++ cond audio end_block []
  unfolding old_ends
  ends_are = both audio where
    both : (t : Bool) → old_ends (audios_of t []) ≡ end_block ++ cond t end_block []
    both true = refl
    both false = sym (append-nil end_block)

  module _ (out : List ℕ) (at : ℕ) (room : at + length ends ≤ length out) where
    pub video_end_fits : at + length end_block ≤ length out
    video_end_fits = first_fits end_block end_block ends audio ends_are out at room

    module _ {after : List ℕ} {end : ℕ} (put : Put end_block out at after end) where
      pub audio_end_fits : audio ≡ true → end + length end_block ≤ length after
      audio_end_fits = second_fits end_block end_block ends audio ends_are out at room put

      pub both_ends : audio ≡ true → {last : List ℕ} {after_last : ℕ} → Put end_block after end last after_last → Put ends out at last after_last
      both_ends = both_put end_block end_block ends audio ends_are out at room put

      pub one_end : audio ≡ false → Put ends out at after end
      one_end = one_put end_block end_block ends audio ends_are out at room put

-- ---- how many bytes they take

pub ends_length : (audio : Bool) → length (old_ends (audios_of audio [])) ≡ cond audio 56 28
unfolding old_ends old_head
ends_length true = refl
ends_length false = refl

abbrev blocks_size : Bool → ℕ
blocks_size audio = 0x80 + (length (audio_blocks 0 (audios_of audio [])) + length (old_ends (audios_of audio [])))

pub both_size : (audio : Bool) → audio ≡ true → 0x118 ≡ blocks_size audio
both_size true e = rw (audio_blocks_length true [], ends_length true)
both_size false e = let z : ◌≡◌ {A = ℕ} 0 1 = cc in absurd (omega arith)

pub one_size : (audio : Bool) → audio ≡ false → 0x9C ≡ blocks_size audio
one_size true e = let z : ◌≡◌ {A = ℕ} 0 1 = cc in absurd (omega arith)
one_size false e = rw (audio_blocks_length false [], ends_length false)

pub blocks_few : (audio : Bool) (n : ℕ) → n ≡ blocks_size audio → n ≤ 0x118
blocks_few true n e = omega (arith, both_size true refl)
blocks_few false n e = omega (arith, one_size false refl)
