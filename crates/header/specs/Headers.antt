-- Rules H: steps 1 to 8, and refusal 11, which "comes first". s is the container,
-- how says how it is read, p is the start of a step's block.
-- Each step goes on to the next, so they stand here from the last to the first.
use Rattle.std.specs.Prelude.{ℕ, List, [], ◌∷◌, Bool, true, false, cond, length, ltb, Option, None, Result, Ok, Err}
use Rattle.header.specs.declared.Header.{Header}
use Rattle.refusal.specs.declared.Refusal.{Refusal}
use Rattle.refusal.specs.declared.Cause.{Cause}
use Rattle.refusal.specs.declared.Cause.TheVariants.{RanOut, NoVideo, NoAudio, NoHeaderEnd, NoMetadataEnd, TooLong}
use Rattle.reading.specs.declared.Reading.{Reading}
use Rattle.signature.specs.Signatures.{SFV, SFA, header_end, metadata_end, mpeg_codec, audio_codec}
use Rattle.film_name.specs.declared.Name.{Name}
use Rattle.block.specs.declared.CodecBlock.{CodecBlock}
use Rattle.block.specs.declared.NameBlock.{NameBlock}
use Rattle.block.specs.declared.Ahead.{Ahead}
use Rattle.block.specs.declared.Ahead.TheVariants.{Sound, Other, Cut}
use Rattle.block.specs.Blocks.{refused_at, and_then, marker_block, table_block, codec_block, name_block, ahead_at, last_block}

-- "If `@SFA` is next" the first, else the second; the third where the letters are cut
abbrev pub by_ahead : {A : Type 0} → A → A → A → Ahead → A
by_ahead sound other cut Sound = sound
by_ahead sound other cut Other = other
by_ahead sound other cut Cut = cut

-- ---- 8 to 4: where the chunks begin

-- 8. "Otherwise `@SFV` at s, marker at s + 32; chunks begin at s + 45 rounded up to a multiple of 4, plus 16. This block's size is not read."
abbrev pub step8 : List ℕ → ℕ → Result ℕ Refusal
step8 s p = last_block s p

-- 7. "With audio and `@SFA` next: table, then `@SFV` and `@SFA`, each with `#METADATA END`; chunks follow the last block."
abbrev pub step7_audio : List ℕ → ℕ → Result ℕ Refusal
step7_audio s p = marker_block s SFA NoAudio metadata_end NoMetadataEnd p

unfoldable pub step7_video : List ℕ → ℕ → Result ℕ Refusal
step7_video s p = and_then (step7_audio s) (marker_block s SFV NoVideo metadata_end NoMetadataEnd p)

unfoldable pub step7_table : List ℕ → Reading → ℕ → Result ℕ Refusal
step7_table s how p = and_then (step7_video s) (table_block s how SFA NoAudio p)

unfoldable pub step7 : List ℕ → Reading → Bool → ℕ → Result ℕ Refusal
step7 s how audio p = cond audio (by_ahead (step7_table s how p) (step8 s p) (refused_at p RanOut) (ahead_at s p)) (step8 s p)

-- 6. "`@SFV`, table."
unfoldable pub step6 : List ℕ → Reading → Bool → ℕ → Result ℕ Refusal
step6 s how audio p = and_then (step7 s how audio) (table_block s how SFV NoVideo p)

-- 5. "With audio: `@SFA` with `#HEADER END`."
unfoldable pub step5 : List ℕ → Reading → Bool → ℕ → Result ℕ Refusal
step5 s how audio p = cond audio (and_then (step6 s how audio) (marker_block s SFA NoAudio header_end NoHeaderEnd p)) (step6 s how audio p)

-- 4. "`@SFV` with `#HEADER END`."
unfoldable pub step4 : List ℕ → Reading → Bool → ℕ → Result ℕ Refusal
step4 s how audio p = and_then (step5 s how audio) (marker_block s SFV NoVideo header_end NoHeaderEnd p)

-- ---- 3 to 1: name and codecs

abbrev pub refused : ℕ → Cause → Result Header Refusal
refused p why = Err (record { cause = why; place = p })

-- what the steps before the fourth gave, and where the chunks begin
abbrev pub finish : Option Name → Option ℕ → Bool → Option ℕ → Result ℕ Refusal → Result Header Refusal
finish name video audio sound (Ok start) = Ok (record { name = name; mpeg_codec = video; audio = audio; audio_codec = sound; start = start })
finish name video audio sound (Err refusal) = Err refusal

abbrev pub after_codec : ((Option ℕ) → ℕ → Result Header Refusal) → Result CodecBlock Refusal → Result Header Refusal
after_codec k (Ok block) = k block.codec block.next
after_codec k (Err refusal) = Err refusal

abbrev pub after_name : ((Option Name) → ℕ → Result Header Refusal) → Result NameBlock Refusal → Result Header Refusal
after_name k (Ok block) = k block.name block.next
after_name k (Err refusal) = Err refusal

-- 3. "If `@SFA` is next: table (it gives `audio_codec`, absent without audio), audio present."
unfoldable pub step3_audio : List ℕ → Reading → Option Name → Option ℕ → ℕ → Result Header Refusal
step3_audio s how name video p = after_codec (λ sound next. finish name video true sound (step4 s how true next)) (codec_block s how SFA NoAudio audio_codec p)

unfoldable pub step3 : List ℕ → Reading → Option Name → Option ℕ → ℕ → Result Header Refusal
step3 s how name video p = by_ahead (step3_audio s how name video p) (finish name video false None (step4 s how false p)) (refused p RanOut) (ahead_at s p)

-- 2. "`@SFV`, table (it gives `mpeg_codec`)."
unfoldable pub step2 : List ℕ → Reading → Option Name → ℕ → Result Header Refusal
step2 s how name p = after_codec (step3 s how name) (codec_block s how SFV NoVideo mpeg_codec p)

-- 1. "`CRID` at 0, table (it gives the name)."
unfoldable pub step1 : List ℕ → Reading → Result Header Refusal
step1 s how = after_name (step2 s how) (name_block s how)

-- "container 1,073,741,824 bytes"; "11 comes first; then the walk's first refusal in reading order"; its place is 0
unfoldable pub header_of : List ℕ → Reading → Result Header Refusal
header_of s how = cond (ltb 0x40000000 (length s)) (refused 0 TooLong) (step1 s how)
