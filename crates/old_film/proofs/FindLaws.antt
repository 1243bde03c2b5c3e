-- What the builder writes around the chunks, piece by piece, and that a container is its film exactly when all pieces stand there. Assumes nothing.
use Rattle.std.specs.Prelude.{Some, None}
use Prim.Native.Nat.{ℕ, zero, suc, ◌+◌, ◌-◌, ◌*◌, ◌^◌, ◌≤◌, ◌<◌}
use mathlib.Core.Path.{◌≡◌, refl, sym, ap, ap₂, ◌∙◌}
use mathlib.Core.List.{List, [], ◌∷◌, ◌++◌, append-nil, append_assoc}
use mathlib.Core.Bool.{Bool, true, false, cond, ◌&&◌}
use mathlib.Core.Logic.{⊎_elim}
use native.Mathlib.Omega.{arith}
use lib.ListN.{length, drop, length-append, length-take, length-drop, length-replicate, replicate}
use lib.Dec.{eqb}
use borrow.Author.Tests.{eq-eqb, ne_eqb, le-leb, lt-leb}
use Rattle.laws.proofs.Side.{side}
use Rattle.word.specs.Numbers.{be32}
use Rattle.part.specs.Parts.{part_at}
use Rattle.signature.specs.Signatures.{CRID, SFV, SFA, same_bytes, stands_at}
use Rattle.word.specs.Bytes.{zeros, padding}
use Rattle.utf8.specs.Utf8.{is_utf8}
use Rattle.turns.specs.declared.Track.TheVariants.{Video, Audio}
use Rattle.turns.specs.declared.Form.TheVariants.{Old}
use Rattle.turns.specs.declared.Turns.{Turns}
use Rattle.turns.specs.Turns.{next_of, turns_of, chunks_of, Read, read_in, turns_by}
use Rattle.turns.proofs.FrontLaws.{front, stands_front, front_self, stands_then, part_stands, same_front}
use Rattle.turns.proofs.ReadLaws.{no_audio, read_whole}
use Rattle.old_film.specs.Blocks.{old_head, table_block, end_block}
use Rattle.old_film.specs.Tables.{name_start, old_names, old_video, old_audio}
use Rattle.old_film.specs.Films.{audio_blocks, old_audios, old_turns, bytes_in, old_ends, old_bytes}
use Rattle.old_film.specs.Finding.{Parts, name_in, name_size, audio_count, audio_size, parts_from, parts_of, audios_of, rebuilt, found_in, stands_around}

-- ---- the first block

head_length : (letters size : ℕ) → length (old_head letters size) ≡ 28
unfolding old_head
head_length letters size = refl

zeros_more : (p : ℕ) → zeros (1 + p) ≡ 0 ∷ zeros p
zeros_more p = let e : 1 + p ≡ suc p = omega arith in ap zeros e

module _ (name : List ℕ) where
  abbrev n : ℕ
  n = length name

  abbrev pub name_head : List ℕ
  name_head = old_head CRID (89 + n) ++ name_start n

  abbrev pub name_tail : List ℕ
  name_tail = zeros (1 + padding (97 + n))

  names_length : length (old_names name) ≡ 69 + n
  unfolding old_names
  names_length = length-append (name_start n) (name ++ (0 ∷ [])) ∙ ap (λ (m : ℕ). 68 + m) (length-append name (0 ∷ [])) ∙ omega arith

  pub name_head_length : length name_head ≡ 96
  name_head_length = length-append (old_head CRID (89 + n)) (name_start n) ∙ ap (λ (m : ℕ). m + 68) (head_length CRID (89 + n))

  sized : (size m : ℕ) → size ≡ 89 + n → m ≡ 97 + n → (old_head CRID size ++ old_names name) ++ zeros (padding m) ≡ name_head ++ (name ++ name_tail)
  unfolding old_names
  sized size m e f = rw (e, f, zeros_more (padding (97 + n))) (simp append_assoc)

  pub name_block_lem : table_block CRID (old_names name) ≡ name_head ++ (name ++ name_tail)
  unfolding table_block
  name_block_lem =
      sized (20 + length (old_names name)) (length (old_head CRID (20 + length (old_names name)) ++ old_names name)) (omega (arith, names_length))
      (length-append (old_head CRID (20 + length (old_names name))) (old_names name)
      ∙ omega (arith, names_length, head_length CRID (20 + length (old_names name))))

  pub name_block_length : length (table_block CRID (old_names name)) ≡ name_size n
  name_block_length =
      ap length name_block_lem ∙ length-append name_head (name ++ name_tail)
      ∙ omega (arith, name_head_length, length-append name name_tail, length-replicate {A = ℕ} (1 + padding (97 + n)) 0)

  -- a name stands where it is read
  pub name_stands : (container : List ℕ) (k : ℕ) → name ≡ part_at container 96 k
      → stands_at (table_block CRID (old_names name)) container 0 ≡ (stands_at name_head container 0 && stands_at name_tail container (96 + n))
  name_stands container k e =
      ap (λ (l : List ℕ). stands_at l container 0) name_block_lem ∙ stands_then name_head (name ++ name_tail) container 0
      ∙ ap (λ (t : Bool). stands_at name_head container 0 && t)
      (ap (λ (m : ℕ). stands_at (name ++ name_tail) container (0 + m)) name_head_length ∙ stands_then name name_tail container 96
      ∙ ap (λ (t : Bool). t && stands_at name_tail container (96 + n)) (ap (λ (l : List ℕ). stands_at l container 96) e ∙ part_stands container 96 k))

-- ---- the other blocks

pub video_block_length : (v : ℕ) → length (table_block SFV (old_video v)) ≡ 0x80
unfolding table_block old_video old_head
video_block_length v = refl

pub audio_blocks_length : (audio : Bool) (bytes : List ℕ) → length (audio_blocks 0 (audios_of audio bytes)) ≡ audio_size audio
unfolding audio_blocks table_block old_audio old_head
audio_blocks_length true bytes = refl
audio_blocks_length false bytes = refl

audio_blocks_stand : (container : List ℕ) (place : ℕ) (audio : Bool) (bytes : List ℕ) → audio ≡ stands_at (table_block SFA (old_audio 0)) container place
    → stands_at (audio_blocks 0 (audios_of audio bytes)) container place ≡ true
unfolding audio_blocks same_bytes
audio_blocks_stand container place true bytes e = ap (λ (l : List ℕ). stands_at l container place) (append-nil (table_block SFA (old_audio 0))) ∙ sym e
audio_blocks_stand container place false bytes e = stands_front [] container place

pub ends_same : (audios : List (List ℕ)) → old_ends audios ≡ old_ends (replicate (length audios) [])
unfolding old_ends
ends_same [] = refl
ends_same (audio ∷ audios) = ap (λ (l : List ℕ). end_block ++ l) (ends_same audios)

pub ends_some : (audios : List (List ℕ)) → 0 < length (old_ends audios)
unfolding old_ends old_head
ends_some [] = omega arith
ends_some (audio ∷ audios) = rw (length-append end_block (old_ends audios)) (omega (arith, ends_some audios))

-- ---- the chunks

one_same : (k from : ℕ) (video audio : List ℕ) → old_turns k from video (audio ∷ []) ≡ turns_of Old k from video audio
unfolding old_turns old_audios turns_of
one_same zero from video audio = refl
one_same (suc k) from video audio =
    ap (λ (y : List ℕ). next_of Old Video from video ++ y)
    (ap₂ (λ (x y : List ℕ). x ++ y) (append-nil (next_of Old (Audio 0) from audio)) (one_same k (from + 0x10000) (drop 0x10000 video) (drop 0x10000 audio)))

none_same : (k from : ℕ) (video : List ℕ) → old_turns k from video [] ≡ turns_of Old k from video []
unfolding old_turns old_audios turns_of next_of
none_same zero from video = refl
none_same (suc k) from video = ap (λ (y : List ℕ). next_of Old Video from video ++ y) (none_same k (from + 0x10000) (drop 0x10000 video))

pub turns_same_old : (audio : Bool) (video sound : List ℕ) → (audio ≡ false → sound ≡ [])
    → old_turns (length video + bytes_in (audios_of audio sound)) 0 video (audios_of audio sound) ≡ chunks_of Old video sound
unfolding bytes_in
turns_same_old true video sound e = one_same (length video + (length sound + 0)) 0 video sound ∙ ap (λ (k : ℕ). turns_of Old k 0 video sound) (omega arith)
turns_same_old false video sound e = none_same (length video + 0) 0 video ∙ rw (e refl)

-- ---- sizes

-- a part is no longer than it was asked for
pub short : (c part : List ℕ) (n : ℕ) → part ≡ part_at c 96 n → n < 2 ^ 32 → length part < 2 ^ 32
short c part n e h =
    ⊎_elim (λ (k : length c < 96 + n). rw (e, lt-leb (96 + n) (length c) k) (omega arith))
    (λ (k : 96 + n ≤ length c). rw (e, le-leb (96 + n) (length c) k) (omega (arith, length-take n (drop 96 c)))) (side (length c) (96 + n))

pub count_is : (audio : Bool) → audio_count audio * 0x60 ≡ audio_size audio
count_is true = refl
count_is false = refl

pub count_fits : (audio : Bool) → audio_count audio ≤ 1
count_fits true = omega arith
count_fits false = omega arith

audios_count : (audio : Bool) (bytes : List ℕ) → length (audios_of audio bytes) ≡ audio_count audio
audios_count true bytes = refl
audios_count false bytes = refl

-- ---- all of it

shuffle : (h v s l : Bool) → ((h && (v && s)) && l) ≡ (h && v && (s && l))
shuffle true true s l = refl
shuffle true false s l = refl
shuffle false v s l = refl

pub closing : (a p e : ℕ) → 0 < e → eqb a (p + e) ≡ eqb (a - p) e
closing a p e h =
    ⊎_elim (λ (k : a < p + e). rw (ne_eqb a (p + e) (λ z. omega arith)) (sym (ne_eqb (a - p) e (λ z. omega arith))))
    (λ (k : p + e ≤ a).
    ⊎_elim (λ (l : p + e < a). rw (ne_eqb a (p + e) (λ z. omega arith)) (sym (ne_eqb (a - p) e (λ z. omega arith))))
    (λ (l : a ≤ p + e). rw (eq-eqb a (p + e) (omega arith)) (sym (eq-eqb (a - p) e (omega arith)))) (side (p + e) a)) (side a (p + e))

-- where the blocks of audios stand, and behind them the turns, no more is to be compared
module _ (c name : List ℕ) (e : name ≡ name_in c) (video : List ℕ) (audios : List (List ℕ)) (start end : ℕ)
    (blocks : stands_at (audio_blocks 0 audios) c (name_size (length name) + 0x80) ≡ true)
    (s : name_size (length name) + 0x80 + length (audio_blocks 0 audios) ≡ start)
    (turns : drop start c ≡ old_turns (length video + bytes_in audios) 0 video audios ++ drop end (drop start c))
    (within : end ≤ length (drop start c)) where
  abbrev X : List ℕ
  X = table_block CRID (old_names name)

  abbrev Y : List ℕ
  Y = table_block SFV (old_video (length video))

  abbrev Z : List ℕ
  Z = audio_blocks 0 audios

  abbrev T : List ℕ
  T = old_turns (length video + bytes_in audios) 0 video audios

  abbrev E : List ℕ
  E = old_ends audios

  T-stands : stands_at T c start ≡ true
  T-stands = stands_front T c start ∙ ap (front T) turns ∙ front_self T (drop end (drop start c))

  T-length : length T ≡ end
  T-length = omega (arith, ap length turns, length-append T (drop end (drop start c)), length-drop end (drop start c), within)

  first_is : 0 + length X ≡ name_size (length name)
  first_is = omega (arith, name_block_length name)

  second_is : name_size (length name) + length Y ≡ name_size (length name) + 0x80
  second_is = ap (λ (m : ℕ). name_size (length name) + m) (video_block_length (length video))

  fourth_is : start + length T ≡ start + end
  fourth_is = ap (λ (m : ℕ). start + m) T-length

  abbrev whole : List ℕ
  whole = X ++ (Y ++ (Z ++ (T ++ E)))

  abbrev shown : Bool
  shown = stands_at Y c (name_size (length name))

  pieces : stands_at whole c 0 ≡ (stands_at X c 0 && (shown && stands_at E c (start + end)))
  pieces =
      stands_then X (Y ++ (Z ++ (T ++ E))) c 0
      ∙ ap (λ (u : Bool). stands_at X c 0 && u)
      (ap (stands_at (Y ++ (Z ++ (T ++ E))) c) first_is ∙ stands_then Y (Z ++ (T ++ E)) c (name_size (length name))
      ∙ ap (λ (u : Bool). shown && u)
      (ap (stands_at (Z ++ (T ++ E)) c) second_is ∙ stands_then Z (T ++ E) c (name_size (length name) + 0x80)
      ∙ ap₂ (λ (u w : Bool). u && w) blocks
      (ap (stands_at (T ++ E) c) s ∙ stands_then T E c start ∙ ap₂ (λ (u w : Bool). u && w) T-stands (ap (stands_at E c) fourth_is))))

  whole_length : length whole ≡ start + end + length E
  whole_length =
      length-append X (Y ++ (Z ++ (T ++ E)))
      ∙ omega (arith, length-append Y (Z ++ (T ++ E)), length-append Z (T ++ E), length-append T E, name_block_length name, video_block_length (length video), s, T-length)

  pub rebuilt_is : same_bytes c (old_bytes name video audios) ≡ stands_around c (length name) (length video) (start + end) (length audios)
  unfolding old_bytes
  rebuilt_is =
      same_front c whole
      ∙ ap₂ (λ (u w : Bool). u && w) (pieces ∙ ap (λ (u : Bool). u && (shown && stands_at E c (start + end))) (name_stands name c (be32 c 4 - 89) e))
      (ap (eqb (length c)) whole_length ∙ closing (length c) (start + end) (length E) (ends_some audios))
      ∙ shuffle (stands_at (name_head name) c 0 && stands_at (name_tail name) c (96 + length name)) shown (stands_at E c (start + end)) (eqb (length c - (start + end)) (length E))
      ∙ rw (ends_same audios)

module _ (c name : List ℕ) (e : name ≡ name_in c) (audio : Bool) (g : audio ≡ stands_at (table_block SFA (old_audio 0)) c (name_size (length name) + 0x80)) (start : ℕ)
    (s : start ≡ name_size (length name) + 0x80 + audio_size audio) (turns : Turns) (t : turns ≡ turns_by (read_in Old audio (drop start c)))
    (within : turns.end ≤ length (drop start c)) where
  abbrev R : Read
  R = read_in Old audio (drop start c)

  parts_are : parts_of c ≡ parts_from c name audio start
  unfolding parts_of
  parts_are = rw (s, g, e)

  video_is : turns.video ≡ length R.video
  video_is = ap (λ (u : Turns). u.video) t

  end_is : turns.end ≡ R.end
  end_is = ap (λ (u : Turns). u.end) t

  turns_there : drop start c ≡ old_turns (length R.video + bytes_in (audios_of audio R.audio)) 0 R.video (audios_of audio R.audio) ++ drop turns.end (drop start c)
  turns_there =
      read_whole Old audio (drop start c)
      ∙ ap₂ (λ (l : List ℕ) (n : ℕ). l ++ drop n (drop start c))
      (sym (turns_same_old audio R.video R.audio (λ z. no_audio Old (length (drop start c) + 1) 0 true audio (drop start c) z))) (sym end_is)

  same_is : same_bytes c (rebuilt (parts_from c name audio start)) ≡ stands_around c (length name) turns.video (start + turns.end) (audio_count audio)
  same_is =
      rebuilt_is c name e R.video (audios_of audio R.audio) start turns.end (audio_blocks_stand c (name_size (length name) + 0x80) audio R.audio g)
      (ap (λ (m : ℕ). name_size (length name) + 0x80 + m) (audio_blocks_length audio R.audio) ∙ sym s) turns_there within
      ∙ ap₂ (λ (v n : ℕ). stands_around c (length name) v (start + turns.end) n) (sym video_is) (audios_count audio R.audio)

  pub found : (count : ℕ) → count ≡ audio_count audio → (u : Bool)
      → (is_utf8 name && stands_around c (length name) turns.video (start + turns.end) count) ≡ u
      → cond u (Some (record { name = length name; audio = audio; start = start; turns = turns })) None ≡ found_in c
  unfolding found_in
  found count k u f =
      ap₂ (λ (w : Bool) (m : Turns). cond w (Some (record { name = length name; audio = audio; start = start; turns = m })) None)
      (sym f ∙ ap (λ (n : ℕ). is_utf8 name && stands_around c (length name) turns.video (start + turns.end) n) k ∙ ap (λ (w : Bool). is_utf8 name && w) (sym same_is)) t
      ∙ ap (λ (p : Parts). cond (is_utf8 p.name && same_bytes c (rebuilt p)) (Some (record { name = length p.name; audio = p.audio; start = p.start; turns = turns_by p.read })) None)
      (sym parts_are)

  pub not_utf8 : (count : ℕ) → count ≡ audio_count audio → is_utf8 name ≡ false → None ≡ found_in c
  not_utf8 count k e = found count k false (ap (λ (w : Bool). w && stands_around c (length name) turns.video (start + turns.end) count) e)
