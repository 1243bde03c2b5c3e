-- The promise of specs/Promises.antt under its name, step by step of the header's walk, from the last to the first. Assumes nothing.
use Rattle.std.specs.Prelude.{Option, None, Result, Ok, Err}
use Rattle.refusal.specs.declared.Refusal.{Refusal}
use Prim.Native.Nat.{ℕ, ◌+◌, ◌-◌}
use mathlib.Core.Path.{◌≡◌, refl, sym, subst}
use mathlib.Core.Bool.{Bool, true, false, cond}
use mathlib.Core.List.{List}
use native.Mathlib.Omega.{arith}
use lib.ListN.{length}
use lib.Dec.{ltb, eqb}
use Rattle.word.specs.Numbers.{be32}
use Rattle.signature.specs.Signatures.{SFV, SFA, header_end, mpeg_codec, audio_codec}
use Rattle.refusal.specs.declared.Cause.TheVariants.{RanOut, NoVideo, NoAudio, NoHeaderEnd, TooLong}
use Rattle.reading.specs.declared.Reading.{Reading}
use Rattle.film_name.specs.declared.Name.{Name}
use Rattle.block.specs.declared.CodecBlock.{CodecBlock}
use Rattle.block.specs.declared.NameBlock.{NameBlock}
use Rattle.block.specs.declared.Ahead.{Ahead}
use Rattle.block.specs.declared.Ahead.TheVariants.{Sound, Other, Cut}
use Rattle.block.specs.Blocks.{refused_at, marker_block, table_block, codec_block, name_block, ahead_at}
use Rattle.header.specs.declared.Header.{Header}
use Rattle.header.specs.Headers.{by_ahead, step8, step7_video, step7_table, step7, step6, step5, step4, refused, finish, after_codec, after_name, step3_audio, step3, step2, step1, header_of}
use Rattle.header_tables.specs.HeaderTables.{next_after, video_block, last_table, tables_in}
use Rattle.header_tables.specs.Promises as promised
use Rattle.header_tables.specs.Promises.{HasTable, AllThere}
use Rattle.header_tables.proofs.BlockLaws.{and_then_lem, marker_next, table_next, codec_next, name_next}

module _ (s : List ℕ) (how : Reading) where
  -- ---- 7: the audio's metadata, if its letters are next

  last_there : (p n : ℕ) → step7 s how true p ≡ Ok n → (last_table s p ≡ 0 → ⊥) → HasTable s how (last_table s p)
  unfolding step7 step7_table ahead_at last_table
  last_there p n e some = by_tests (ltb (length s - p) 4) (eqb (be32 s p) SFA) e some
    where
      by_tests : (t u : Bool) → by_ahead (step7_table s how p) (step8 s p) (refused_at p RanOut) (cond t Cut (cond u Sound Other)) ≡ Ok n
          → (cond u (p + 0x20) 0 ≡ 0 → ⊥) → HasTable s how (cond u (p + 0x20) 0)
      by_tests true u e some = let z : ◌≡◌ {A = ℕ} 0 1 = cc in absurd (omega arith)
      by_tests false false e some = absurd (some refl)
      by_tests false true e some = of-table e
        where
          of-table : step7_table s how p ≡ Ok n → HasTable s how (p + 0x20)
          of-table e =
              let a = and_then_lem (step7_video s) (table_block s how SFA NoAudio p) n e in
              (table_next s p how SFA NoAudio a.next a.first).0

  -- ---- 6 to 4: the video's metadata

  pub record Metadata (audio : Bool) (p : ℕ) : Type 0 where
    pub video : HasTable s how (p + 0x20)
    pub last : (cond audio (last_table s (next_after s p)) 0 ≡ 0 → ⊥) → HasTable s how (cond audio (last_table s (next_after s p)) 0)

  after_6 : (audio : Bool) (p n : ℕ) → step6 s how audio p ≡ Ok n → Metadata audio p
  unfolding step6
  after_6 audio p n e =
      let a = and_then_lem (step7 s how audio) (table_block s how SFV NoVideo p) n e in
      let t = table_next s p how SFV NoVideo a.next a.first in
      record { video = t.0; last = by_audio audio (subst (λ (q : ℕ). step7 s how audio q ≡ Ok n) t.1 a.then) }
    where
      by_audio : (b : Bool) → step7 s how b (next_after s p) ≡ Ok n → (cond b (last_table s (next_after s p)) 0 ≡ 0 → ⊥) → HasTable s how (cond b (last_table s (next_after s p)) 0)
      by_audio true e some = last_there (next_after s p) n e some
      by_audio false e some = absurd (some refl)

  abbrev behind : Bool → ℕ → ℕ
  behind audio p = cond audio (next_after s (next_after s p)) (next_after s p)

  after_4 : (audio : Bool) (p n : ℕ) → step4 s how audio p ≡ Ok n → Metadata audio (behind audio p)
  unfolding step4 step5
  after_4 audio p n e =
      let a = and_then_lem (step5 s how audio) (marker_block s SFV NoVideo header_end NoHeaderEnd p) n e in
      by_audio audio (subst (λ (q : ℕ). step5 s how audio q ≡ Ok n) (marker_next s p SFV NoVideo header_end NoHeaderEnd a.next a.first) a.then)
    where
      by_audio : (b : Bool) → step5 s how b (next_after s p) ≡ Ok n → Metadata b (behind b p)
      by_audio false e = after_6 false (next_after s p) n e
      by_audio true e =
          let a = and_then_lem (step6 s how true) (marker_block s SFA NoAudio header_end NoHeaderEnd (next_after s p)) n e in
          after_6 true (next_after s (next_after s p)) n
          (subst (λ (q : ℕ). step6 s how true q ≡ Ok n) (marker_next s (next_after s p) SFA NoAudio header_end NoHeaderEnd a.next a.first) a.then)

  -- ---- 3 to 1

  finished : (name : Option Name) (video : Option ℕ) (audio : Bool) (sound : Option ℕ) (p : ℕ) (header : Header) (x : Result ℕ Refusal) → step4 s how audio p ≡ x → finish name video audio sound x ≡ Ok header
      → (header.audio ≡ audio) × Metadata audio (behind audio p)
  finished name video audio sound p header (Ok n) e f = (cc, after_4 audio p n e)
  finished name video audio sound p header (Err refusal) e f = let z : ◌≡◌ {A = ℕ} 0 1 = cc in absurd (omega arith)

  -- all but the first two tables, where step 3's block starts at p
  pub record Behind (p : ℕ) (audio : Bool) : Type 0 where
    pub its_audio : (cond audio (p + 0x20) 0 ≡ 0 → ⊥) → HasTable s how (cond audio (p + 0x20) 0)
    pub metadata : Metadata audio (behind audio (cond audio (next_after s p) p))

  after_3 : (name : Option Name) (video : Option ℕ) (p : ℕ) (header : Header) → step3 s how name video p ≡ Ok header → Behind p header.audio
  unfolding step3 step3_audio
  after_3 name video p header e = by_ahead_lem (ahead_at s p) e
    where
      by_ahead_lem : (ahead : Ahead) → by_ahead (step3_audio s how name video p) (finish name video false None (step4 s how false p)) (refused p RanOut) ahead ≡ Ok header → Behind p header.audio
      by_ahead_lem Cut e = let z : ◌≡◌ {A = ℕ} 0 1 = cc in absurd (omega arith)
      by_ahead_lem Other e =
          let f = finished name video false None p header (step4 s how false p) refl e in
          subst (Behind p) (sym f.0) (record { its_audio = λ some. absurd (some refl); metadata = f.1 })
      by_ahead_lem Sound e = of-audio e
        where
          of-audio : step3_audio s how name video p ≡ Ok header → Behind p header.audio
          of-audio e = by-codec (codec_block s how SFA NoAudio audio_codec p) refl e
            where
              by-codec : (block : Result CodecBlock Refusal) → codec_block s how SFA NoAudio audio_codec p ≡ block
                  → after_codec (λ sound next. finish name video true sound (step4 s how true next)) block ≡ Ok header → Behind p header.audio
              by-codec (Err refusal) q e = let z : ◌≡◌ {A = ℕ} 0 1 = cc in absurd (omega arith)
              by-codec (Ok block) q e =
                  let t = codec_next s p how SFA NoAudio audio_codec block.codec block.next q in
                  let f = finished name video true block.codec block.next header (step4 s how true block.next) refl e in
                  subst (Behind p) (sym f.0) (record { its_audio = λ some. t.0; metadata = subst (λ (m : ℕ). Metadata true (behind true m)) t.1 f.1 })

  after_2 : (name : Option Name) (p : ℕ) (header : Header) → step2 s how name p ≡ Ok header → HasTable s how (p + 0x20) × Behind (next_after s p) header.audio
  unfolding step2
  after_2 name p header e = by-codec (codec_block s how SFV NoVideo mpeg_codec p) refl e
    where
      by-codec : (block : Result CodecBlock Refusal) → codec_block s how SFV NoVideo mpeg_codec p ≡ block → after_codec (step3 s how name) block ≡ Ok header
          → HasTable s how (p + 0x20) × Behind (next_after s p) header.audio
      by-codec (Err refusal) q e = let z : ◌≡◌ {A = ℕ} 0 1 = cc in absurd (omega arith)
      by-codec (Ok block) q e =
          let t = codec_next s p how SFV NoVideo mpeg_codec block.codec block.next q in
          (t.0, subst (λ (m : ℕ). Behind m header.audio) t.1 (after_3 name block.codec block.next header e))

  after_1 : (header : Header) → step1 s how ≡ Ok header → AllThere s how (tables_in s header.audio)
  unfolding step1 tables_in
  after_1 header e = by_name (name_block s how) refl e
    where
      by_name : (block : Result NameBlock Refusal) → name_block s how ≡ block → after_name (step2 s how) block ≡ Ok header → AllThere s how (tables_in s header.audio)
      by_name (Err refusal) q e = let z : ◌≡◌ {A = ℕ} 0 1 = cc in absurd (omega arith)
      by_name (Ok block) q e =
          let t = name_next s how block.name block.next q in
          let second = after_2 block.name (video_block s) header (subst (λ (m : ℕ). step2 s how block.name m ≡ Ok header) t.1 e) in
          record {
            name = t.0;
            video = second.0;
            audio = second.1.its_audio;
            video_metadata = second.1.metadata.video;
            audio_metadata = second.1.metadata.last;
          }

pub TablesStandThere : promised.TablesStandThere
unfolding header_of
TablesStandThere s how header e = by_length (ltb 0x40000000 (length s)) e
  where
    by_length : (t : Bool) → cond t (refused 0 TooLong) (step1 s how) ≡ Ok header → AllThere s how (tables_in s header.audio)
    by_length true e = let z : ◌≡◌ {A = ℕ} 0 1 = cc in absurd (omega arith)
    by_length false e = after_1 s how header e
