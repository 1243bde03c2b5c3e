-- The header of s is the header of s with more behind it, read or refused alike, unless the bytes of s run out: step by step, from the last to the first. Assumes nothing.
use Rattle.std.specs.Prelude.{Option, None, Result, Ok, Err}
use Rattle.header.specs.declared.Header.{Header}
use Rattle.refusal.specs.declared.Refusal.{Refusal}
use Prim.Native.Nat.{ℕ, ◌≤◌}
use mathlib.Core.Path.{ap}
use mathlib.Core.List.{List, ◌++◌}
use mathlib.Core.Bool.{Bool, true, false}
use native.Mathlib.Omega.{arith}
use lib.ListN.{length}
use borrow.Author.Tests.{le-ltb}
use Rattle.refusal.specs.declared.Cause.TheVariants as cause
use Rattle.reading.specs.declared.Reading.{Reading}
use Rattle.signature.specs.Signatures.{SFV, SFA, header_end, metadata_end, mpeg_codec, audio_codec}
use Rattle.film_name.specs.declared.Name.{Name}
use Rattle.block.specs.declared.CodecBlock.{CodecBlock}
use Rattle.block.specs.declared.NameBlock.{NameBlock}
use Rattle.block.specs.Blocks.{refused_at, marker_block, table_block, codec_block, name_block}
use Rattle.header.specs.Headers.{step8, step7_video, step7_table, step7, step6, step5, step4, refused, finish, after_codec, after_name, step3_audio, step3, step2, step1, header_of}
use Rattle.laws_prefix.proofs.ByteLaws.{longer}
use Rattle.laws_prefix.proofs.Settled.{Settled, block_open, codec_open, name_open, header_open, none}
use Rattle.laws_prefix.proofs.BlockLaws.{ran_out, then_settled, marker_settled, table_block_settled, codec_settled, name_settled, ahead_settled, last_block_settled}

module _ (s more : List ℕ) (how : Reading) where
  -- ---- 8 to 4

  step7_video_settled : (p : ℕ) → Settled (block_open s how.tables) (step7_video s p) (step7_video (s ++ more) p)
  unfolding step7_video
  step7_video_settled p =
      then_settled s more how _ _ (marker_block s SFV cause.NoVideo metadata_end cause.NoMetadataEnd p) _ (marker_settled s more how SFV cause.NoVideo metadata_end (omega arith) cause.NoMetadataEnd p)
      (marker_settled s more how SFA cause.NoAudio metadata_end (omega arith) cause.NoMetadataEnd)

  step7_table_settled : (p : ℕ) → Settled (block_open s how.tables) (step7_table s how p) (step7_table (s ++ more) how p)
  unfolding step7_table
  step7_table_settled p = then_settled s more how _ _ (table_block s how SFA cause.NoAudio p) _ (table_block_settled s more how p SFA cause.NoAudio) step7_video_settled

  step7_settled : (audio : Bool) (p : ℕ) → Settled (block_open s how.tables) (step7 s how audio p) (step7 (s ++ more) how audio p)
  unfolding step7
  step7_settled true p =
      ahead_settled s more how (block_open s how.tables) (step7_table s how p) (step8 s p) (refused_at p cause.RanOut) _ _ _ p (ran_out s more how p 4 (omega arith)) (step7_table_settled p) (last_block_settled s more how p)
  step7_settled false p = last_block_settled s more how p

  step6_settled : (audio : Bool) (p : ℕ) → Settled (block_open s how.tables) (step6 s how audio p) (step6 (s ++ more) how audio p)
  unfolding step6
  step6_settled audio p = then_settled s more how _ _ (table_block s how SFV cause.NoVideo p) _ (table_block_settled s more how p SFV cause.NoVideo) (step7_settled audio)

  step5_settled : (audio : Bool) (p : ℕ) → Settled (block_open s how.tables) (step5 s how audio p) (step5 (s ++ more) how audio p)
  unfolding step5
  step5_settled true p =
      then_settled s more how _ _ (marker_block s SFA cause.NoAudio header_end cause.NoHeaderEnd p) _ (marker_settled s more how SFA cause.NoAudio header_end (omega arith) cause.NoHeaderEnd p) (step6_settled true)
  step5_settled false p = step6_settled false p

  step4_settled : (audio : Bool) (p : ℕ) → Settled (block_open s how.tables) (step4 s how audio p) (step4 (s ++ more) how audio p)
  unfolding step4
  step4_settled audio p =
      then_settled s more how _ _ (marker_block s SFV cause.NoVideo header_end cause.NoHeaderEnd p) _ (marker_settled s more how SFV cause.NoVideo header_end (omega arith) cause.NoHeaderEnd p) (step5_settled audio)

  -- ---- 3 to 1

  finish_settled : (name : Option Name) (video : Option ℕ) (audio : Bool) (sound : Option ℕ) (x x' : Result ℕ Refusal) → Settled (block_open s how.tables) x x'
      → Settled (header_open s how.tables) (finish name video audio sound x) (finish name video audio sound x')
  finish_settled name video audio sound (Ok start) x' same unless = ap (finish name video audio sound) (same none)
  finish_settled name video audio sound (Err refusal) x' same unless = ap (finish name video audio sound) (same unless)

  after_codec_lem : (k k' : Option ℕ → ℕ → Result Header Refusal) (x x' : Result CodecBlock Refusal) → Settled (codec_open s how.tables) x x' → ((codec : Option ℕ) (next : ℕ) → Settled (header_open s how.tables) (k codec next) (k' codec next))
      → Settled (header_open s how.tables) (after_codec k x) (after_codec k' x')
  after_codec_lem k k' (Ok block) x' same rest unless = rw (same none) (rest block.codec block.next unless)
  after_codec_lem k k' (Err refusal) x' same rest unless = ap (after_codec k') (same unless)

  after_name_lem : (k k' : Option Name → ℕ → Result Header Refusal) (x x' : Result NameBlock Refusal) → Settled (name_open s how.tables) x x' → ((name : Option Name) (next : ℕ) → Settled (header_open s how.tables) (k name next) (k' name next))
      → Settled (header_open s how.tables) (after_name k x) (after_name k' x')
  after_name_lem k k' (Ok block) x' same rest unless = rw (same none) (rest block.name block.next unless)
  after_name_lem k k' (Err refusal) x' same rest unless = ap (after_name k') (same unless)

  step3_audio_settled : (name : Option Name) (video : Option ℕ) (p : ℕ) → Settled (header_open s how.tables) (step3_audio s how name video p) (step3_audio (s ++ more) how name video p)
  unfolding step3_audio
  step3_audio_settled name video p =
      after_codec_lem _ _ (codec_block s how SFA cause.NoAudio audio_codec p) _ (codec_settled s more how p SFA cause.NoAudio audio_codec)
      (λ sound next. finish_settled name video true sound (step4 s how true next) _ (step4_settled true next))

  step3_settled : (name : Option Name) (video : Option ℕ) (p : ℕ) → Settled (header_open s how.tables) (step3 s how name video p) (step3 (s ++ more) how name video p)
  unfolding step3
  step3_settled name video p =
      ahead_settled s more how (header_open s how.tables) (step3_audio s how name video p) (finish name video false None (step4 s how false p)) (refused p cause.RanOut) _ _ _ p (ran_out s more how p 4 (omega arith))
      (step3_audio_settled name video p) (finish_settled name video false None (step4 s how false p) _ (step4_settled false p))

  step2_settled : (name : Option Name) (p : ℕ) → Settled (header_open s how.tables) (step2 s how name p) (step2 (s ++ more) how name p)
  unfolding step2
  step2_settled name p = after_codec_lem _ _ (codec_block s how SFV cause.NoVideo mpeg_codec p) _ (codec_settled s more how p SFV cause.NoVideo mpeg_codec) (step3_settled name)

  step1_settled : Settled (header_open s how.tables) (step1 s how) (step1 (s ++ more) how)
  unfolding step1
  step1_settled = after_name_lem _ _ (name_block s how) _ (name_settled s more how) step2_settled

  pub header_settled : length (s ++ more) ≤ 0x40000000 → Settled (header_open s how.tables) (header_of s how) (header_of (s ++ more) how)
  unfolding header_of
  header_settled h =
      let n = longer s more in
      rw (le-ltb 0x40000000 (length s) (omega arith), le-ltb 0x40000000 (length (s ++ more)) h) step1_settled
