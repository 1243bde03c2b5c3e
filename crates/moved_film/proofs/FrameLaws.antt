-- What is written without a name and without a payload holds all blocks of a film but its first and its chunks. Assumes nothing.
use Rattle.std.specs.Prelude.{None, Result, Ok, Err}
use Prim.Native.Nat.{ℕ, ◌+◌, ◌-◌, ◌≤◌}
use mathlib.Core.Path.{◌≡◌, refl, sym, ap, ◌∙◌}
use mathlib.Core.List.{List, [], ◌++◌, append_assoc}
use mathlib.Core.Bool.{Bool, true, false, not, cond, ◌&&◌}
use native.Mathlib.Omega.{arith}
use lib.ListN.{length, take, drop, length-append, length-replicate}
use lib.Seq.{sets-eq}
use borrow.Author.Tests.{le-ltb}
use Rattle.part.specs.Parts.{part_at}
use Rattle.signature.specs.Signatures.{header_end, metadata_end, same_bytes}
use Rattle.refusal.specs.declared.Refusal.{Refusal}
use Rattle.lent.specs.Written.{written_in, left_by}
use Rattle.word.specs.Bytes.{zeros}
use Rattle.write_blocks.specs.Tables.{marker_of, empty_table}
use Rattle.write_plan.specs.declared.Packing.{Packing}
use Rattle.write_plan.specs.Payloads.{payloads_of}
use Rattle.write_plan.specs.Films.{bytes_of, in_each, codec_in, film_bytes}
use Rattle.write_plan.specs.Sizes.{stream_size, film_size}
use Rattle.write_plan.specs.Planning.{is_given, any_marked, planned_of}
use Rattle.write_plan.proofs.BlockLaws.{header_bytes}
use Rattle.write_plan.proofs.LengthLaws.{film_length}
use Rattle.write_plan.proofs.SizeLaws.{frame_fits}
use Rattle.write_plan.proofs.PlanLaws.{unmarked_none}
use Rattle.write.specs.Writing.{WritingOf, Writing}
use Rattle.turns.proofs.PayloadLaws.{part_between}
use Rattle.moved_film.proofs.FilmLaws.{ends, frame_laid}
use Rattle.moved_film.proofs.FindLaws.{name_block, name_length_lem}

pub none_either : (t : Bool) → cond {A = List ℕ} t [] [] ≡ []
none_either true = refl
none_either false = refl

-- the header behind its first block
abbrev pub behind : Packing → List ℕ
behind packing =
    bytes_of (in_each packing.audio (codec_in packing))
    ++ (bytes_of (in_each packing.audio (λ stream. marker_of header_end))
    ++ (bytes_of (in_each packing.audio (λ stream. empty_table)) ++ bytes_of (in_each packing.audio (λ stream. marker_of metadata_end))))

-- what it is written over
abbrev blank : List ℕ
blank = zeros 800

blank_length : length blank ≡ 800
blank_length = length-replicate {A = ℕ} 800 0

module _ (packing : Packing) where
  abbrev frame : List ℕ
  frame = film_bytes [] [] [] packing

  frame_few : length frame ≤ 800
  unfolding film_size stream_size
  frame_few = rw (film_length [] [] [] packing) (omega (arith, frame_fits packing))

  none_marked : any_marked (payloads_of []) ≡ false
  unfolding same_bytes
  none_marked = unmarked_none [] refl

  module _ (k : packing.key ≡ None) (given : (not packing.audio && is_given packing.audio_codec) ≡ false) where
    planned : planned_of [] [] [] packing ≡ Ok (length frame)
    unfolding planned_of
    planned = rw (given, le-ltb 0x40000000 (length frame) (omega (arith, frame_few)), none_marked)

    laid : frame ≡ name_block [] ++ (behind packing ++ ends packing)
    laid = frame_laid [] packing k ∙ ap (λ (l : List ℕ). l ++ ends packing) (header_bytes [] packing) ∙ append_assoc (name_block []) (behind packing) (ends packing)

    module _ {out' : List ℕ} {r : Result ℕ Refusal} (w : Writing [] [] [] packing blank r out') where
      written_as : WritingOf [] [] [] packing blank r out'
      written_as = rw (none_either packing.audio) at w

      pub is-size : r ≡ Ok (length frame)
      is-size = written_as.0 ∙ ap (written_in (length blank)) planned ∙ rw (le-ltb (length blank) (length frame) (omega (arith, frame_few, blank_length)))

      abbrev after : List ℕ
      after = drop (0 + length frame) blank

      holds : out' ≡ name_block [] ++ (behind packing ++ (ends packing ++ after))
      holds =
          written_as.1 ∙ ap (λ (t : Result ℕ Refusal). left_by t blank frame) is-size ∙ sets-eq frame blank 0 (omega (arith, frame_few, blank_length))
          ∙ ap (λ (l : List ℕ). take 0 blank ++ l ++ after) laid ∙ simp append_assoc

      module _ {size last : ℕ} (e : r ≡ Ok size) (f : last ≡ length (ends packing)) where
        sizes : size ≡ 0x60 + length (behind packing) + length (ends packing)
        sizes =
            let s : size ≡ length frame = cc (sym e ∙ is-size) in
            omega (arith, s, ap length laid, length-append (name_block []) (behind packing ++ ends packing), length-append (behind packing) (ends packing), name_length_lem [])

        pub cut_fits : (last ≤ size) × (0x60 ≤ size - last)
        cut_fits = (omega (arith, sizes, f), omega (arith, sizes, f))

        pub rest_is : part_at out' 0x60 (size - last - 0x60) ≡ behind packing
        rest_is =
            ap (λ (l : List ℕ). part_at l 0x60 (size - last - 0x60)) holds
            ∙ part_between (name_block []) (behind packing) (ends packing ++ after) 0x60 (size - last - 0x60) (name_length_lem []) (omega (arith, sizes, f))

        pub ends_are : part_at out' (size - last) last ≡ ends packing
        ends_are =
            ap (λ (l : List ℕ). part_at l (size - last) last) (holds ∙ sym (append_assoc (name_block []) (behind packing) (ends packing ++ after)))
            ∙ part_between (name_block [] ++ behind packing) (ends packing) after (size - last) last (omega (arith, sizes, f, length-append (name_block []) (behind packing), name_length_lem [])) (sym f)

      pub not_refused : (refusal : Refusal) → r ≡ Err refusal → ⊥
      not_refused refusal e = let z : ◌≡◌ {A = ℕ} 0 1 = cc (sym e ∙ is-size) in omega arith
