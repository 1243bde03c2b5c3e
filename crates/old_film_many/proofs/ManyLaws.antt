-- A container is a film of the builder with several audios exactly when all that the builder writes around the chunks stands there. Assumes nothing.
use Prim.Native.Nat.{ℕ, ◌+◌, ◌*◌, ◌≤◌, ◌<◌}
use mathlib.Core.Path.{◌≡◌, sym, ap, ap₂, ◌∙◌}
use mathlib.Core.List.{List}
use mathlib.Core.Bool.{Bool, true, false, ◌&&◌, and-false}
use native.Mathlib.Omega.{arith}
use lib.ListN.{length, drop, length-drop}
use borrow.Author.Tests.{lt-ltb, le-ltb}
use Rattle.utf8.specs.Utf8.{is_utf8}
use Rattle.signature.specs.Signatures.{same_bytes, stands_at}
use Rattle.old_film_many.specs.declared.Sizes.{Sizes}
use Rattle.old_film.specs.Films.{audio_blocks, old_bytes}
use Rattle.old_film_many.specs.Audios.{count_in, Streams, streams_in, sizes_by, is_many_at, is_many}
use Rattle.old_film.specs.Finding.{name_in, name_size, stands_around}
use Rattle.old_film.proofs.FindLaws.{rebuilt_is}
use Rattle.old_film_many.proofs.CountLaws.{stands_here, blocks_length, blocks_stand}
use Rattle.old_film_many.proofs.HeardLaws.{audios_count, streams_whole}

module _ (c name : List ℕ) (e : name ≡ name_in c) (place : ℕ) (f : place ≡ name_size (length name) + 0x80) (count : ℕ) (k : count ≡ count_in (drop place c)) where
  many_by : is_many c ≡ is_many_at c name place count
  unfolding is_many
  many_by = rw (k, f, e)

  pub too_few : count < 2 → false ≡ is_many c
  too_few h =
      let S = streams_in count (drop (place + count * 0x60) c) in
      sym (many_by ∙ ap (λ (t : Bool). is_utf8 name && t && same_bytes c (old_bytes name S.video S.audios)) (le-ltb 1 count (omega arith)) ∙ ap (λ (t : Bool). t && same_bytes c (old_bytes name S.video S.audios)) (and-false (is_utf8 name)))

  module _ (several : 2 ≤ count) (start : ℕ) (s : start ≡ place + count * 0x60) (there : start ≤ length c) (sizes : Sizes) (t : sizes ≡ sizes_by start (streams_in count (drop start c)))
      (within : sizes.end ≤ length c) where
    abbrev S : Streams
    S = streams_in count (drop start c)

    many_is : is_many c ≡ (is_utf8 name && true && same_bytes c (old_bytes name S.video S.audios))
    many_is =
        many_by
        ∙ ap₂ (λ (u : Bool) (n : ℕ). is_utf8 name && u && same_bytes c (old_bytes name (streams_in count (drop n c)).video (streams_in count (drop n c)).audios)) (lt-ltb 1 count (omega arith)) (sym s)

    end_is : sizes.end ≡ start + S.end
    end_is = ap (λ (z : Sizes). z.end) t

    blocks : stands_at (audio_blocks 0 S.audios) c (name_size (length name) + 0x80) ≡ true
    blocks =
        ap (stands_at (audio_blocks 0 S.audios) c) (sym f) ∙ stands_here (audio_blocks 0 S.audios) c place
        ∙ blocks_stand 0x100000000 0 (drop place c) S.audios (audios_count count (drop start c) ∙ k)

    start_is : name_size (length name) + 0x80 + length (audio_blocks 0 S.audios) ≡ start
    start_is = omega (arith, blocks_length 0 S.audios, audios_count count (drop start c), s, f)

    rebuilt : same_bytes c (old_bytes name S.video S.audios) ≡ stands_around c (length name) sizes.video sizes.end count
    rebuilt =
        rebuilt_is c name e S.video S.audios start S.end blocks start_is (streams_whole count (drop start c)) (omega (arith, end_is, within, length-drop start c))
        ∙ ap₂ (λ (v n : ℕ). stands_around c (length name) v n (length S.audios)) (sym (ap (λ (z : Sizes). z.video) t)) (sym end_is)
        ∙ ap (stands_around c (length name) sizes.video sizes.end) (audios_count count (drop start c))

    pub are_many : (r : Bool) → is_utf8 name ≡ true → r ≡ stands_around c (length name) sizes.video sizes.end count → r ≡ is_many c
    are_many r g h = h ∙ sym (many_is ∙ ap₂ (λ (u w : Bool). u && true && w) g rebuilt)

    pub no_name : is_utf8 name ≡ false → false ≡ is_many c
    no_name g = sym (many_is ∙ ap (λ (u : Bool). u && true && same_bytes c (old_bytes name S.video S.audios)) g)
