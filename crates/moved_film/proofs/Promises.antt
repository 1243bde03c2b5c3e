-- The promise of specs/Promises.antt, under its name: the header walk reads back what the header was written from, and the turns behind it are read back. Assumes nothing.
use Rattle.std.specs.Prelude.{Option, None, Ok}
use Prim.Native.Nat.{ℕ}
use mathlib.Core.Path.{◌≡◌, refl, sym, ap, ap₂, ◌∙◌}
use mathlib.Core.List.{List, [], ◌++◌}
use mathlib.Core.Bool.{Bool, true, false, ◌&&◌}
use lib.ListN.{length, drop}
use lib.Seq.{drop_at}
use Rattle.signature.specs.Signatures.{same_bytes}
use Rattle.reading.specs.declared.AudioChoice.TheVariants.{Chosen}
use Rattle.reading.specs.Choices.{as_original}
use Rattle.utf8.specs.Utf8.{is_utf8}
use Rattle.write_plan.specs.declared.Packing.{Packing}
use Rattle.write_plan.specs.Payloads.{payloads_of}
use Rattle.write_plan.specs.Films.{film_bytes}
use Rattle.write_plan.specs.Planning.{any_marked, planned_of}
use Rattle.write_plan.proofs.PlanLaws.{Accepted, accepted}
use Rattle.promises_write.specs.Promises.{CodecFits, header_back}
use Rattle.promises_write.proofs.FilmBackLaws.{header_is, name_is}
use Rattle.turns.specs.declared.Form.TheVariants.{New}
use Rattle.turns.specs.Turns.{chunks_of}
use Rattle.turns.specs.Turns as turns
use Rattle.turns.proofs.FrontLaws.{same_self}
use Rattle.turns.proofs.BackLaws.{Gives, read_back}
use Rattle.moved_film.specs.Finding.{answer_in, packing_by, parts_from, parts_of, is_rebuilt, is_new}
use Rattle.moved_film.specs.Finding as finding
use Rattle.moved_film.specs.Promises as promised
use Rattle.moved_film.proofs.FilmLaws.{header, ends, film_laid}
use Rattle.moved_film.proofs.BackLaws.{neither, no_ends, ends_no_chunk}

module _ (name video audio : List ℕ) (packing : Packing) (size : ℕ) (u : is_utf8 name ≡ true) (k : packing.key ≡ None) (mpeg : CodecFits packing.mpeg_codec)
    (other : CodecFits packing.audio_codec) (silent : packing.audio ≡ false → audio ≡ []) (planned : planned_of name video audio packing ≡ Ok size) where
  abbrev c : List ℕ
  c = film_bytes name video audio packing

  abbrev start : ℕ
  start = length (header name packing)

  sound : Accepted name video audio packing size
  sound = accepted name video audio packing size planned

  -- ---- the header

  answer : answer_in c ≡ Ok (header_back name packing start)
  answer = header_is name video audio packing size sound mpeg other silent (as_original Chosen) refl

  packing_back : packing_by (header_back name packing start) ≡ packing
  packing_back = ap (λ (key : Option ℕ). record { audio = packing.audio; mpeg_codec = packing.mpeg_codec; audio_codec = packing.audio_codec; key = key }) (sym k)

  parts_back : finding.parts_by c (header_back name packing start) ≡ parts_from c name packing
  parts_back = ap₂ (parts_from c) (name_is name video audio packing size sound mpeg other silent (as_original Chosen) refl) packing_back

  -- ---- the turns

  chunks_there : drop start c ≡ chunks_of New video audio ++ ends packing
  chunks_there = ap (drop start) (film_laid name packing k video audio) ∙ drop_at (header name packing) (chunks_of New video audio ++ ends packing) start refl

  read : Gives video audio (length (chunks_of New video audio)) (turns.read_in New packing.audio (drop start c))
  read =
      let unmarked = neither (any_marked (payloads_of video)) (any_marked (payloads_of audio)) sound.unmarked in
      rw chunks_there (read_back New packing.audio video audio (ends packing) silent (no_ends video unmarked.0) (no_ends audio unmarked.1) (ends_no_chunk packing.audio))

  -- ---- all of it

  again : is_rebuilt c (parts_from c name packing) ≡ true
  again =
      ap₂ (λ (x y : Bool). x && y) u
      (ap₂ (λ (v a : List ℕ). same_bytes c (film_bytes name v a packing)) read.0 read.1 ∙ same_self c)

  is_new_lem : is_new c ≡ true
  unfolding is_new
  is_new_lem = rw answer (ap (is_rebuilt c) parts_back ∙ again)

  parts_are : parts_of c ≡ parts_from c name packing
  unfolding parts_of
  parts_are = rw answer parts_back

  found : (is_new c ≡ true) × promised.WrittenFrom name video audio packing (parts_of c)
  found = (is_new_lem, rw parts_are (refl, refl, refl, read.0, read.1))

pub FoundAgain : promised.FoundAgain
FoundAgain = found
