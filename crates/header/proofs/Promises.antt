-- The promise of specs/Promises.antt, under its name: the name comes from a look-up, whose parts lie within, and no later step changes it. Assumes nothing.
use Rattle.std.specs.Prelude.{Option, Some, None, Result, Ok, Err}
use Rattle.header.specs.declared.Header.{Header}
use Rattle.refusal.specs.declared.Refusal.{Refusal}
use mathlib.Core.Path.{◌≡◌, refl, ap}
use mathlib.Core.List.{List}
use mathlib.Core.Bool.{Bool, true, false, cond}
use Prim.Native.Nat.{ℕ, ◌+◌, ◌≤◌}
use native.Mathlib.Omega.{arith}
use lib.ListN.{length}
use lib.Dec.{ltb}
use Rattle.refusal.specs.declared.Cause.TheVariants as cause
use Rattle.reading.specs.declared.Reading.{Reading}
use Rattle.signature.specs.Signatures.{CRID, SFA, SFV, filename, mpeg_codec, audio_codec}
use Rattle.cell.specs.declared.Cell.{Cell}
use Rattle.cell.specs.declared.Cell.TheVariants.{Nothing, Unsigned, Signed, Float, NotANumber, Text, Data}
use Rattle.film_name.specs.declared.Name.{Name}
use Rattle.film_name.specs.Names.{name_in}
use Rattle.table.specs.Tables.{table_at}
use Rattle.lookup.specs.Lookups.{end_of_part, last_row, last_cell_of}
use Rattle.lookup.proofs.Promises.{PartsLieWithin}
use Rattle.block.specs.declared.CodecBlock.{CodecBlock}
use Rattle.block.specs.declared.Ahead.{Ahead}
use Rattle.block.specs.declared.Ahead.TheVariants.{Sound, Other, Cut}
use Rattle.block.specs.Blocks.{head_at, codec_block, named, then_name, name_block, ahead_at}
use Rattle.header.specs.Headers.{by_ahead, step4, refused, finish, after_codec, after_name, step3_audio, step3, step2, step1, header_of}
use Rattle.header.specs.Promises as promised

-- where a name ends, 0 where it is no part of the container
abbrev end_of : Option Name → ℕ
end_of (Some part) = part.start + part.len
end_of None = 0

-- where the name of an answer ends, 0 where there is none
abbrev name_end : Result Header Refusal → ℕ
name_end (Ok header) = end_of header.name
name_end (Err refusal) = 0

-- ---- steps 2 to 8 keep the name

module _ (s : List ℕ) (how : Reading) (name : Option Name) where
  finish_keeps : (video : Option ℕ) (audio : Bool) (sound : Option ℕ) (x : Result ℕ Refusal) → name_end (finish name video audio sound x) ≤ end_of name
  finish_keeps video audio sound (Ok chunks) = omega arith
  finish_keeps video audio sound (Err refusal) = omega arith

  codec_keeps : (k : Option ℕ → ℕ → Result Header Refusal) → ((codec : Option ℕ) (next : ℕ) → name_end (k codec next) ≤ end_of name)
      → (x : Result CodecBlock Refusal) → name_end (after_codec k x) ≤ end_of name
  codec_keeps k h (Ok block) = h block.codec block.next
  codec_keeps k h (Err refusal) = omega arith

  module _ (video : Option ℕ) (p : ℕ) where
    step3_audio_keeps : name_end (step3_audio s how name video p) ≤ end_of name
    unfolding step3_audio
    step3_audio_keeps =
        codec_keeps (λ sound next. finish name video true sound (step4 s how true next)) (λ sound next. finish_keeps video true sound (step4 s how true next))
        (codec_block s how SFA cause.NoAudio audio_codec p)

    ahead_keeps : (x : Ahead)
        → name_end (by_ahead (step3_audio s how name video p) (finish name video false None (step4 s how false p)) (refused p cause.RanOut) x) ≤ end_of name
    ahead_keeps Sound = step3_audio_keeps
    ahead_keeps Other = finish_keeps video false None (step4 s how false p)
    ahead_keeps Cut = omega arith

    step3_keeps : name_end (step3 s how name video p) ≤ end_of name
    unfolding step3
    step3_keeps = ahead_keeps (ahead_at s p)

  step2_keeps : (p : ℕ) → name_end (step2 s how name p) ≤ end_of name
  unfolding step2
  step2_keeps p = codec_keeps (step3 s how name) step3_keeps (codec_block s how SFV cause.NoVideo mpeg_codec p)

-- ---- step 1 gives it

same_end : (cell : Cell) → end_of (name_in cell) ≡ end_of_part cell
same_end Nothing = refl
same_end (Unsigned n) = refl
same_end (Signed z) = refl
same_end (Float x) = refl
same_end (NotANumber n) = refl
same_end (Text start len) = refl
same_end (Data start len) = refl

module _ (s : List ℕ) (how : Reading) where
  by_lookup : (next : ℕ) (x : Result Cell Refusal) → last_cell_of s 0x20 how.tables filename ≡ x → name_end (after_name (step2 s how) (named 0 next x)) ≤ length s
  by_lookup next (Ok cell) e =
      omega (arith, step2_keeps s how (name_in cell) next, same_end cell, PartsLieWithin s 0x20 how.tables filename (last_row (table_at s 0x20 how.tables)) cell e)
  by_lookup next (Err refusal) e = omega arith

  by_head : (x : Result ℕ Refusal) → name_end (after_name (step2 s how) (then_name (λ next. named 0 next (last_cell_of s 0x20 how.tables filename)) x)) ≤ length s
  by_head (Ok next) = by_lookup next (last_cell_of s 0x20 how.tables filename) refl
  by_head (Err refusal) = omega arith

  by_length : (t : Bool) → name_end (cond t (refused 0 cause.TooLong) (step1 s how)) ≤ length s
  unfolding step1 name_block
  by_length true = omega arith
  by_length false = by_head (head_at s CRID cause.NoFilm 0)

  within : name_end (header_of s how) ≤ length s
  unfolding header_of
  within = by_length (ltb 0x40000000 (length s))

pub NameLiesWithin : promised.NameLiesWithin
NameLiesWithin container how header start len e f = omega (arith, within container how, ap name_end e, ap end_of f)
