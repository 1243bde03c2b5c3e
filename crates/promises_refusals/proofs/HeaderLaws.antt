-- Which causes the header walk can be refused for: block by block, and step by step from the last to the first. Assumes nothing.
use Rattle.std.specs.Prelude.{Option, None, Result, Ok, Err}
use Rattle.header.specs.declared.Header.{Header}
use Rattle.cell.specs.declared.Cell.{Cell}
use Rattle.refusal.specs.declared.Refusal.{Refusal}
use Rattle.layout.specs.declared.Layout.{Layout}
use Prim.Native.Nat.{ℕ, ◌+◌, ◌-◌}
use mathlib.Core.Path.{◌≡◌, refl}
use mathlib.Core.Bool.{Bool, true, false, not, cond, false≢true}
use mathlib.Core.List.{List}
use lib.ListN.{length}
use lib.Dec.{ltb, eqb}
use Rattle.word.specs.Numbers.{be32}
use Rattle.refusal.specs.declared.Cause.{Cause}
use Rattle.refusal.specs.declared.Cause.TheVariants.{RanOut, NoFilm, NoTable, NoVideo, NoAudio, NoHeaderEnd, NoMetadataEnd, UnknownType, TooSmall, TooMany, TooLong, ShortOutput, ShortList, MarkedPayload, ShortRoom, ShortHeader, UnknownStorage, Foreign, ManyAudios, NoBeginning, BadTenants, CodecAlone}
use Rattle.reading.specs.declared.Reading.{Reading}
use Rattle.signature.specs.Signatures.{CRID, SFV, SFA, header_end, metadata_end, filename, mpeg_codec, audio_codec, stands_at}
use Rattle.film_name.specs.declared.Name.{Name}
use Rattle.table.specs.Tables.{table_at}
use Rattle.lookup.specs.Lookups.{cell_of, last_cell_of, last_row}
use Rattle.block.specs.declared.Ahead.{Ahead}
use Rattle.block.specs.declared.Ahead.TheVariants.{Sound, Other, Cut}
use Rattle.block.specs.declared.CodecBlock.{CodecBlock}
use Rattle.block.specs.declared.NameBlock.{NameBlock}
use Rattle.block.specs.Blocks.{refused_at, head_at, marked_at, tabled, coded, named, and_then, then_codec, then_name, marker_block, table_block, codec_block, name_block, ahead_at, chunks_after, last_block}
use Rattle.header.specs.Headers.{refused, by_ahead, step7_audio, step7_video, step7_table, step7, step6, step5, step4, finish, after_codec, after_name, step3_audio, step3, step2, step1, header_of}
use Rattle.table.specs.Promises.{is_of_atable}
use Rattle.table.proofs.RefusalLaws.{FairTable, either, table_fair}
use Rattle.lookup.proofs.RefusalLaws.{FairLookup, lookup_fair}
use Rattle.promises_refusals.specs.Promises.{is_of_afilm}

abbrev pub Fair : Cause → Type 0
Fair why = is_of_afilm why ≡ true

abbrev FairBlock : Result ℕ Refusal → Type 0
FairBlock (Ok next) = Unit
FairBlock (Err refusal) = Fair refusal.cause

abbrev FairCodec : Result CodecBlock Refusal → Type 0
FairCodec (Ok block) = Unit
FairCodec (Err refusal) = Fair refusal.cause

abbrev FairName : Result NameBlock Refusal → Type 0
FairName (Ok block) = Unit
FairName (Err refusal) = Fair refusal.cause

abbrev pub FairHeader : Result Header Refusal → Type 0
FairHeader (Ok header) = Unit
FairHeader (Err refusal) = Fair refusal.cause

-- what a table is refused for, a film is
of_a_table : (why : Cause) → is_of_atable why ≡ true → Fair why
of_a_table RanOut e = refl
of_a_table NoFilm e = refl
of_a_table NoTable e = refl
of_a_table NoVideo e = refl
of_a_table NoAudio e = refl
of_a_table NoHeaderEnd e = refl
of_a_table NoMetadataEnd e = refl
of_a_table (UnknownType kind) e = refl
of_a_table TooSmall e = refl
of_a_table TooMany e = refl
of_a_table TooLong e = refl
of_a_table (ShortOutput video audio) e = absurd (false≢true e)
of_a_table (ShortList count) e = absurd (false≢true e)
of_a_table MarkedPayload e = absurd (false≢true e)
of_a_table (ShortRoom size) e = absurd (false≢true e)
of_a_table ShortHeader e = refl
of_a_table UnknownStorage e = refl
of_a_table Foreign e = absurd (false≢true e)
of_a_table ManyAudios e = absurd (false≢true e)
of_a_table NoBeginning e = absurd (false≢true e)
of_a_table BadTenants e = absurd (false≢true e)
of_a_table CodecAlone e = absurd (false≢true e)

module _ (s : List ℕ) where
  -- ---- blocks

  head_fair : (letters : ℕ) (missing : Cause) (p : ℕ) → Fair missing → FairBlock (head_at s letters missing p)
  unfolding head_at
  head_fair letters missing p h =
      either FairBlock (ltb (length s - p) 4) _ _ refl
      (either FairBlock (not (eqb (be32 s p) letters)) _ _ h (either FairBlock (ltb (length s - p) 8) _ _ refl tt))

  marked_fair : (marker : List ℕ) (unmarked : Cause) (p next : ℕ) → Fair unmarked → FairBlock (marked_at s marker unmarked p next)
  unfolding marked_at
  marked_fair marker unmarked p next h =
      either FairBlock (ltb (length s - p) (0x20 + length marker)) _ _ refl (either FairBlock (not (stands_at marker s (p + 0x20))) _ _ h tt)

  tabled_fair : (p next place : ℕ) (x : Result Layout Refusal) → FairTable place x → FairBlock (tabled p next x)
  tabled_fair p next place (Ok l) h = tt
  tabled_fair p next place (Err refusal) h = of_a_table refusal.cause h.0

  coded_fair : (p next : ℕ) (x : Result Cell Refusal) → FairLookup x → FairCodec (coded p next x)
  coded_fair p next (Ok cell) h = tt
  coded_fair p next (Err refusal) h = of_a_table refusal.cause h

  named_fair : (p next : ℕ) (x : Result Cell Refusal) → FairLookup x → FairName (named p next x)
  named_fair p next (Ok cell) h = tt
  named_fair p next (Err refusal) h = of_a_table refusal.cause h

  then_fair : (k : ℕ → Result ℕ Refusal) → ((next : ℕ) → FairBlock (k next)) → (x : Result ℕ Refusal) → FairBlock x → FairBlock (and_then k x)
  then_fair k rest (Ok next) h = rest next
  then_fair k rest (Err refusal) h = h

  then_codec_lem : (k : ℕ → Result CodecBlock Refusal) → ((next : ℕ) → FairCodec (k next)) → (x : Result ℕ Refusal) → FairBlock x → FairCodec (then_codec k x)
  then_codec_lem k rest (Ok next) h = rest next
  then_codec_lem k rest (Err refusal) h = h

  then_name_lem : (k : ℕ → Result NameBlock Refusal) → ((next : ℕ) → FairName (k next)) → (x : Result ℕ Refusal) → FairBlock x → FairName (then_name k x)
  then_name_lem k rest (Ok next) h = rest next
  then_name_lem k rest (Err refusal) h = h

  marker_fair : (letters : ℕ) (missing : Cause) (marker : List ℕ) (unmarked : Cause) (p : ℕ) → Fair missing → Fair unmarked → FairBlock (marker_block s letters missing marker unmarked p)
  unfolding marker_block
  marker_fair letters missing marker unmarked p h k =
      then_fair (marked_at s marker unmarked p) (λ next. marked_fair marker unmarked p next k) (head_at s letters missing p) (head_fair letters missing p h)

  last_fair : (p : ℕ) → FairBlock (last_block s p)
  unfolding last_block
  last_fair p =
      either FairBlock (ltb (length s - p) 4) _ _ refl
      (either FairBlock (not (eqb (be32 s p) SFV)) _ _ refl (marked_fair metadata_end NoMetadataEnd p (chunks_after p) refl))

  module _ (how : Reading) where
    table_block_fair : (letters : ℕ) (missing : Cause) (p : ℕ) → Fair missing → FairBlock (table_block s how letters missing p)
    unfolding table_block
    table_block_fair letters missing p h =
        then_fair (λ next. tabled p next (table_at s (p + 0x20) how.tables)) (λ next. tabled_fair p next (p + 0x20) (table_at s (p + 0x20) how.tables) (table_fair s (p + 0x20) how.tables))
        (head_at s letters missing p) (head_fair letters missing p h)

    codec_fair : (letters : ℕ) (missing : Cause) (column : List ℕ) (p : ℕ) → Fair missing → FairCodec (codec_block s how letters missing column p)
    unfolding codec_block
    codec_fair letters missing column p h =
        then_codec_lem (λ next. coded p next (cell_of s (p + 0x20) how.tables column 0))
        (λ next. coded_fair p next (cell_of s (p + 0x20) how.tables column 0) (lookup_fair s (p + 0x20) how.tables column 0))
        (head_at s letters missing p) (head_fair letters missing p h)

    name_fair : FairName (name_block s how)
    unfolding name_block
    name_fair =
        then_name_lem (λ next. named 0 next (last_cell_of s 0x20 how.tables filename))
        (λ next. named_fair 0 next (last_cell_of s 0x20 how.tables filename) (lookup_fair s 0x20 how.tables filename (last_row (table_at s 0x20 how.tables))))
        (head_at s CRID NoFilm 0) (head_fair CRID NoFilm 0 refl)

    -- ---- steps

    ahead_fair : {A : Type 0} (Holds : A → Type 0) (sound other cut : A) → Holds sound → Holds other → Holds cut → (x : Ahead) → Holds (by_ahead sound other cut x)
    ahead_fair Holds sound other cut a b c Sound = a
    ahead_fair Holds sound other cut a b c Other = b
    ahead_fair Holds sound other cut a b c Cut = c

    step7_audio_lem : (p : ℕ) → FairBlock (step7_audio s p)
    step7_audio_lem p = marker_fair SFA NoAudio metadata_end NoMetadataEnd p refl refl

    step7_video_lem : (p : ℕ) → FairBlock (step7_video s p)
    unfolding step7_video
    step7_video_lem p = then_fair (step7_audio s) step7_audio_lem (marker_block s SFV NoVideo metadata_end NoMetadataEnd p) (marker_fair SFV NoVideo metadata_end NoMetadataEnd p refl refl)

    step7_table_lem : (p : ℕ) → FairBlock (step7_table s how p)
    unfolding step7_table
    step7_table_lem p = then_fair (step7_video s) step7_video_lem (table_block s how SFA NoAudio p) (table_block_fair SFA NoAudio p refl)

    step7_fair : (audio : Bool) (p : ℕ) → FairBlock (step7 s how audio p)
    unfolding step7
    step7_fair audio p =
        either FairBlock audio (by_ahead (step7_table s how p) (last_block s p) (refused_at p RanOut) (ahead_at s p)) (last_block s p)
        (ahead_fair FairBlock (step7_table s how p) (last_block s p) (refused_at p RanOut) (step7_table_lem p) (last_fair p) refl (ahead_at s p)) (last_fair p)

    step6_fair : (audio : Bool) (p : ℕ) → FairBlock (step6 s how audio p)
    unfolding step6
    step6_fair audio p = then_fair (step7 s how audio) (step7_fair audio) (table_block s how SFV NoVideo p) (table_block_fair SFV NoVideo p refl)

    step5_fair : (audio : Bool) (p : ℕ) → FairBlock (step5 s how audio p)
    unfolding step5
    step5_fair audio p =
        either FairBlock audio _ _ (then_fair (step6 s how audio) (step6_fair audio) (marker_block s SFA NoAudio header_end NoHeaderEnd p) (marker_fair SFA NoAudio header_end NoHeaderEnd p refl refl))
        (step6_fair audio p)

    step4_fair : (audio : Bool) (p : ℕ) → FairBlock (step4 s how audio p)
    unfolding step4
    step4_fair audio p =
        then_fair (step5 s how audio) (step5_fair audio) (marker_block s SFV NoVideo header_end NoHeaderEnd p) (marker_fair SFV NoVideo header_end NoHeaderEnd p refl refl)

    finish_fair : (name : Option Name) (video : Option ℕ) (audio : Bool) (sound : Option ℕ) (x : Result ℕ Refusal) → FairBlock x → FairHeader (finish name video audio sound x)
    finish_fair name video audio sound (Ok start) h = tt
    finish_fair name video audio sound (Err refusal) h = h

    after_codec_lem : (k : Option ℕ → ℕ → Result Header Refusal) → ((codec : Option ℕ) (next : ℕ) → FairHeader (k codec next)) → (x : Result CodecBlock Refusal) → FairCodec x → FairHeader (after_codec k x)
    after_codec_lem k rest (Ok block) h = rest block.codec block.next
    after_codec_lem k rest (Err refusal) h = h

    after_name_lem : (k : Option Name → ℕ → Result Header Refusal) → ((name : Option Name) (next : ℕ) → FairHeader (k name next)) → (x : Result NameBlock Refusal) → FairName x → FairHeader (after_name k x)
    after_name_lem k rest (Ok block) h = rest block.name block.next
    after_name_lem k rest (Err refusal) h = h

    step3_audio_lem : (name : Option Name) (video : Option ℕ) (p : ℕ) → FairHeader (step3_audio s how name video p)
    unfolding step3_audio
    step3_audio_lem name video p =
        after_codec_lem (λ sound next. finish name video true sound (step4 s how true next)) (λ sound next. finish_fair name video true sound (step4 s how true next) (step4_fair true next))
        (codec_block s how SFA NoAudio audio_codec p) (codec_fair SFA NoAudio audio_codec p refl)

    step3_fair : (name : Option Name) (video : Option ℕ) (p : ℕ) → FairHeader (step3 s how name video p)
    unfolding step3
    step3_fair name video p =
        ahead_fair FairHeader (step3_audio s how name video p) (finish name video false None (step4 s how false p)) (refused p RanOut)
        (step3_audio_lem name video p) (finish_fair name video false None (step4 s how false p) (step4_fair false p)) refl (ahead_at s p)

    step2_fair : (name : Option Name) (p : ℕ) → FairHeader (step2 s how name p)
    unfolding step2
    step2_fair name p = after_codec_lem (step3 s how name) (step3_fair name) (codec_block s how SFV NoVideo mpeg_codec p) (codec_fair SFV NoVideo mpeg_codec p refl)

    step1_fair : FairHeader (step1 s how)
    unfolding step1
    step1_fair = after_name_lem (step2 s how) step2_fair (name_block s how) name_fair

    pub header_fair : FairHeader (header_of s how)
    unfolding header_of
    header_fair = either FairHeader (ltb 0x40000000 (length s)) _ _ refl step1_fair
