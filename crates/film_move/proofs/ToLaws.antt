-- A film that the move writes as the builder's: block by block, its chunks, and its ends. Assumes nothing.
use Rattle.std.specs.Prelude.{Some, None, Result, Ok, Err}
use Rattle.header.specs.declared.Header.{Header}
use Rattle.refusal.specs.declared.Refusal.{Refusal}
use Prim.Native.Nat.{ℕ, ◌+◌, ◌-◌, ◌≤◌, ◌<◌}
use mathlib.Core.Path.{◌≡◌, refl, sym, ap, ap₂, ◌∙◌, subst}
use mathlib.Core.List.{List, [], ◌++◌, append_assoc}
use mathlib.Core.Bool.{Bool, true, false, cond}
use native.Mathlib.Omega.{arith}
use lib.ListN.{length, drop, length-append, length-drop}
use lib.Seq.{sets}
use borrow.Author.Tests.{lt-ltb, le-ltb}
use Rattle.laws.specs.Outputs.{Put}
use Rattle.laws.proofs.PutLaws.{Left, all_left, less_left, left_fits, next_fits, put_then, put_as, put_first}
use Rattle.part.specs.Parts.{part_at}
use Rattle.signature.specs.Signatures.{CRID, SFV, same_bytes}
use Rattle.refusal.specs.declared.Cause.TheVariants.{TooLong}
use Rattle.refusal.specs.declared.Cause.TheVariants as cause
use Rattle.utf8.specs.Utf8.{is_utf8}
use Rattle.write_blocks.specs.Blocks.{block_of}
use Rattle.write_blocks.specs.Tables.{name_table}
use Rattle.write_plan.specs.Films.{bytes_of, header_blocks, film_bytes}
use Rattle.write_plan.specs.Planning.{refused_by}
use Rattle.write_plan.proofs.BlockLaws.{header_bytes}
use Rattle.promises_write.proofs.FilmBackLaws.{part_held}
use Rattle.turns.specs.declared.Form.TheVariants.{Old, New}
use Rattle.turns.specs.Turns.{chunks_of, stream_size, Read, read_in}
use Rattle.turns.proofs.FrontLaws.{both_true, same_true}
use Rattle.turns.proofs.ReadLaws.{no_audio}
use Rattle.turns.proofs.SizeLaws.{chunks_length, read_fits}
use Rattle.old_film.specs.Blocks.{table_block}
use Rattle.old_film.specs.Tables.{old_names, old_video}
use Rattle.old_film.specs.Films.{audio_blocks, old_ends, old_bytes}
use Rattle.old_film.specs.Finding.{name_size, audios_of}
use Rattle.old_film.proofs.FindLaws.{name_block_length, video_block_length, turns_same_old}
use Rattle.moved_film.specs.declared.NewFilm.{NewFilm}
use Rattle.moved_film.specs.Finding.{Parts, answer_in, header_by, parts_by, parts_of, rebuilt, is_new_by, is_new, film_by, found_in}
use Rattle.moved_film.proofs.FindLaws.{rest_part}
use Rattle.moved_film.proofs.HeaderLaws as read
use Rattle.film_move.specs.Moving.{moved_from}
use Rattle.film_move.specs.ToOld.{old_of, to_old, ToOld}
use Rattle.film_move.proofs.OldPutLaws.{blocks}

-- ---- the builder's film

blocks_same : (t : Bool) (sound : List ℕ) → audio_blocks 0 (audios_of t sound) ≡ audio_blocks 0 (audios_of t [])
unfolding audio_blocks
blocks_same true sound = refl
blocks_same false sound = refl

ends_same : (t : Bool) (sound : List ℕ) → old_ends (audios_of t sound) ≡ old_ends (audios_of t [])
unfolding old_ends
ends_same true sound = refl
ends_same false sound = refl

module _ (name video : List ℕ) (audio : Bool) (sound : List ℕ) (silent : audio ≡ false → sound ≡ []) where
  abbrev first : List ℕ
  first = table_block CRID (old_names name)

  abbrev ends : List ℕ
  ends = old_ends (audios_of audio [])

  abbrev laid : List ℕ
  laid = first ++ (blocks (length video) audio ++ (chunks_of Old video sound ++ ends))

  old_laid : old_bytes name video (audios_of audio sound) ≡ laid
  unfolding old_bytes
  old_laid =
      rw (blocks_same audio sound, ends_same audio sound, turns_same_old audio video sound silent)
      (ap (λ (l : List ℕ). first ++ l) (sym (append_assoc (table_block SFV (old_video (length video))) (audio_blocks 0 (audios_of audio [])) (chunks_of Old video sound ++ ends))))

  pub old_length : length (old_bytes name video (audios_of audio sound))
      ≡ name_size (length name) + (0x80 + (length (audio_blocks 0 (audios_of audio [])) + length ends)) + (stream_size Old (length video) + stream_size Old (length sound))
  old_length =
      ap length old_laid ∙ length-append first (blocks (length video) audio ++ (chunks_of Old video sound ++ ends))
      ∙ omega (arith, length-append (blocks (length video) audio) (chunks_of Old video sound ++ ends), length-append (table_block SFV (old_video (length video))) (audio_blocks 0 (audios_of audio [])), length-append (chunks_of Old video sound) ends, name_block_length name, video_block_length (length video), chunks_length Old video sound)

-- ---- a film that was found

film_told : (t : Bool) (film other : NewFilm) → cond t (Some other) None ≡ Some film → (t ≡ true) × (film ≡ other)
film_told true film other e = (refl, cc)
film_told false film other e = let z : ◌≡◌ {A = ℕ} 0 1 = cc in absurd (omega arith)

none_told : (t : Bool) (other : NewFilm) → cond t (Some other) None ≡ None → t ≡ false
none_told true other e = let z : ◌≡◌ {A = ℕ} 0 1 = cc in absurd (omega arith)
none_told false other e = refl

by_answer : (c : List ℕ) (answer : Result Header Refusal) → is_new_by c answer ≡ true
    → (is_utf8 (parts_by c (header_by answer)).name ≡ true) × (c ≡ rebuilt (parts_by c (header_by answer)))
by_answer c (Ok head) e =
    let parts = parts_by c head in
    let b = both_true (is_utf8 parts.name) (same_bytes c (rebuilt parts)) e in
    (b.0, same_true c (rebuilt parts) b.1)
by_answer c (Err refusal) e = let z : ◌≡◌ {A = ℕ} 0 1 = cc in absurd (omega arith)

named_at : (name header behind rest : List ℕ) → header ≡ block_of CRID (name_table name) ++ behind → part_at (header ++ rest) 86 (length name) ≡ name
named_at name header behind rest e =
    ap (λ (l : List ℕ). part_at l 86 (length name)) (ap (λ (l : List ℕ). l ++ rest) e ∙ append_assoc (block_of CRID (name_table name)) behind rest) ∙ part_held name (behind ++ rest)

module _ (c : List ℕ) where
  pub is_film_lem : (film : NewFilm) → found_in c ≡ Some film → (is_new c ≡ true) × (film ≡ film_by (parts_of c))
  unfolding found_in
  is_film_lem film e = film_told (is_new c) film (film_by (parts_of c)) e

  is_foreign : found_in c ≡ None → is_new c ≡ false
  unfolding found_in
  is_foreign e = none_told (is_new c) (film_by (parts_of c)) e

  abbrev P : Parts
  P = parts_of c

  pub read_is : P.read ≡ read_in New P.packing.audio (drop P.start c)
  unfolding parts_of
  read_is = refl

  pub name_few : length P.name ≤ length c
  unfolding parts_of
  name_few = read.name_few c (header_by (answer_in c)).name

  pub silent : P.packing.audio ≡ false → P.read.audio ≡ []
  silent e = ap (λ (r : Read). r.audio) read_is ∙ no_audio New (length (drop P.start c) + 1) 0 true P.packing.audio (drop P.start c) e

  module _ (t : is_new c ≡ true) where
    pub is_rebuilt_lem : (is_utf8 P.name ≡ true) × (c ≡ rebuilt P)
    unfolding is_new parts_of
    is_rebuilt_lem = by_answer c (answer_in c) t

    name_is : part_at c 86 (length P.name) ≡ P.name
    unfolding film_bytes
    name_is =
        ap (λ (l : List ℕ). part_at l 86 (length P.name)) is_rebuilt_lem.1
        ∙ named_at P.name (bytes_of (header_blocks P.name P.packing)) _ _ (header_bytes P.name P.packing)

    module _ (film : NewFilm) (e : film ≡ film_by P) where
      name_part : part_at c 86 film.name ≡ P.name
      name_part = ap (λ (f : NewFilm). part_at c 86 f.name) e ∙ name_is

      pub lengths-few : length c ≤ 0x40000000 → (film.name ≤ 0x40000000) × (film.turns.video ≤ 0x40000000) × (film.turns.audio ≤ 0x40000000)
      lengths-few h =
          let f : length P.read.video + length P.read.audio ≤ length (drop P.start c) =
          subst (λ (r : Read). length r.video + length r.audio ≤ length (drop P.start c)) (sym read_is) (read_fits New P.packing.audio (drop P.start c)) in
          let l = length-drop P.start c in (
            omega (arith, name_few, h, ap (λ (f : NewFilm). f.name) e),
            omega (arith, f, l, h, ap (λ (f : NewFilm). f.turns.video) e),
            omega (arith, f, l, h, ap (λ (f : NewFilm). f.turns.audio) e),
          )

      moved_is : (chunks : List ℕ) → chunks ≡ part_at c film.start (length c - film.start)
          → moved_from New Old film.packing.audio chunks ≡ chunks_of Old P.read.video P.read.audio
      unfolding moved_from
      moved_is chunks h =
          ap₂ (λ (f : NewFilm) (l : List ℕ). chunks_of Old (read_in New f.packing.audio l).video (read_in New f.packing.audio l).audio) e
          (h ∙ rest_part c film.start ∙ ap (λ (f : NewFilm). drop f.start c) e)
          ∙ ap (λ (r : Read). chunks_of Old r.video r.audio) (sym read_is)

      -- ---- its size

      abbrev size_by : NewFilm → ℕ
      size_by f =
          name_size f.name + (0x80 + (length (audio_blocks 0 (audios_of f.packing.audio [])) + length (old_ends (audios_of f.packing.audio []))))
          + (stream_size Old f.turns.video + stream_size Old f.turns.audio)

      pub size_is : (n : ℕ) → n ≡ size_by film → n ≡ length (old_of P)
      size_is n h = h ∙ ap size_by e ∙ sym (old_length P.name P.read.video P.packing.audio P.read.audio silent)

      -- where an output has room for a size that is answered, it has room for the film
      pub fits-is : (n : ℕ) → n ≡ size_by film → (size : ℕ) {room : ℕ} → (◌≡◌ {A = Result ℕ Refusal} (Ok n) (Ok size)) × (size ≤ room) → length (old_of P) ≤ room
      fits-is n h size so = let s : n ≡ size = cc so.0 in omega (arith, s, so.1, size_is n h)

      -- ---- the film moved

      abbrev first_of : List ℕ
      first_of = table_block CRID (old_names P.name)

      abbrev blocks_by : NewFilm → List ℕ
      blocks_by f = blocks f.turns.video f.packing.audio

      abbrev ends_by : NewFilm → List ℕ
      ends_by f = old_ends (audios_of f.packing.audio [])

      abbrev turns_of_it : List ℕ
      turns_of_it = chunks_of Old P.read.video P.read.audio

      film_laid : old_of P ≡ first_of ++ (blocks_by film ++ (turns_of_it ++ ends_by film))
      film_laid =
          old_laid P.name P.read.video P.packing.audio P.read.audio silent
          ∙ ap (λ (f : NewFilm). first_of ++ (blocks_by f ++ (turns_of_it ++ ends_by f))) (sym e)

      module _ (out : List ℕ) (room : length (old_of P) ≤ length out) {name : List ℕ} (g : name ≡ part_at c 86 film.name) where
        name-same : name ≡ P.name
        name-same = g ∙ name_part

        pub named-few : length c ≤ 0x40000000 → length name ≤ 0x40000000
        named-few h = omega (arith, ap length name-same, name_few, h)

        all : Left (first_of ++ (blocks_by film ++ (turns_of_it ++ ends_by film))) out 0 (old_of P) out 0
        all = subst (λ (l : List ℕ). Left l out 0 (old_of P) out 0) film_laid (all_left (old_of P) out 0)

        has_room : 0 + length (old_of P) ≤ length out
        has_room = omega arith

        pub first_fits : 0 + length (table_block CRID (old_names name)) ≤ length out
        first_fits = subst (λ (l : List ℕ). 0 + length (table_block CRID (old_names l)) ≤ length out) (sym name-same) (next_fits first_of _ all has_room)

        module _ {out₁ : List ℕ} {at₁ : ℕ} (named : Put (table_block CRID (old_names name)) out 0 out₁ at₁) where
          first-put : Put first_of out 0 out₁ at₁
          first-put = put_as named (ap (λ (l : List ℕ). table_block CRID (old_names l)) name-same)

          pub blocks-fit : at₁ + length (blocks_by film) ≤ length out₁
          blocks-fit = next_fits (blocks_by film) _ (less_left all first-put) has_room

          module _ {out₂ : List ℕ} {at₂ : ℕ} (blocked : Put (blocks_by film) out₁ at₁ out₂ at₂) {left : ℕ} (l : left ≡ length c - film.start) {chunks : List ℕ}
              (h : chunks ≡ part_at c film.start left) where
            abbrev moved : List ℕ
            moved = moved_from New Old film.packing.audio chunks

            same : moved ≡ turns_of_it
            same = moved_is chunks (h ∙ ap (part_at c film.start) l)

            pub turns_fit : at₂ + length moved ≤ length out₂
            turns_fit = subst (λ (l : List ℕ). at₂ + length l ≤ length out₂) (sym same) (next_fits turns_of_it _ (less_left (less_left all first-put) blocked) has_room)

            module _ {out₃ : List ℕ} {at₃ : ℕ} (turned : Put moved out₂ at₂ out₃ at₃) where
              turns-put : Put turns_of_it out₂ at₂ out₃ at₃
              turns-put = put_as turned same

              pub ends_fit : at₃ + length (ends_by film) ≤ length out₃
              ends_fit = left_fits (less_left (less_left (less_left all first-put) blocked) turns-put) has_room

              pub film-put : {out₄ : List ℕ} {at₄ : ℕ} → Put (ends_by film) out₃ at₃ out₄ at₄ → out₄ ≡ sets out 0 (old_of P)
              film-put ended = (put_first (put_then first-put (put_then blocked (put_then turns-put ended))) (sym film_laid)).1

  -- ---- what is answered

  -- what is answered for a film, by its size
  pub planned_is : length c ≤ 0x40000000 → is_new c ≡ true → (n : ℕ) → n ≡ length (old_of P) → Ok n ≡ to_old c
  unfolding to_old
  planned_is h t n e = rw (le-ltb 0x40000000 (length c) h, t) (ap Ok e)

  module _ (out : List ℕ) (r : Result ℕ Refusal) where
    pub to_long : 0x40000000 < length c → r ≡ refused_by TooLong → ToOld c out r out
    unfolding to_old
    to_long h e = rw (e, lt-ltb 0x40000000 (length c) h) (refl, refl)

    pub to_foreign : length c ≤ 0x40000000 → found_in c ≡ None → r ≡ refused_by cause.Foreign → ToOld c out r out
    unfolding to_old
    to_foreign h f e = rw (e, le-ltb 0x40000000 (length c) h, is_foreign f) (refl, refl)
