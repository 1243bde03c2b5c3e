-- The header of a written film, block by block: the header walk finds the name, the codecs and where the chunks begin. Assumes nothing.
use Rattle.std.specs.Prelude.{Option, Some, None, Result, Ok}
use Rattle.header.specs.declared.Header.{Header}
use Rattle.refusal.specs.declared.Refusal.{Refusal}
use Prim.Native.Nat.{ℕ, ◌+◌, ◌%◌, ◌^◌, ◌≤◌, ◌<◌}
use mathlib.Core.Path.{◌≡◌, refl, ◌∙◌}
use mathlib.Core.List.{List, [], ◌++◌}
use mathlib.Core.Bool.{Bool, true, false, cond}
use native.Mathlib.Omega.{arith}
use lib.ListN.{length, drop}
use lib.Dec.{eqb}
use borrow.Author.Tests.{le-ltb}
use Rattle.refusal.specs.declared.Cause.{Cause}
use Rattle.refusal.specs.declared.Cause.TheVariants.{NoVideo, NoAudio, NoHeaderEnd, NoMetadataEnd}
use Rattle.reading.specs.declared.Reading.{Reading}
use Rattle.signature.specs.Signatures.{CRID, SFV, SFA, header_end, metadata_end, filename, mpeg_codec, audio_codec}
use Rattle.cell.specs.declared.Cell.TheVariants.{Unsigned, Data}
use Rattle.film_name.specs.declared.Name.{Name}
use Rattle.block.specs.Blocks.{and_then, marker_block, table_block, codec_block, name_block}
use Rattle.header.specs.Headers.{step7_audio, step7_video, step7_table, step7, step6, step5, step4, step3_audio, step3, step2, step1, header_of}
use Rattle.word.specs.Bytes.{bytes32, zeros, padding}
use Rattle.write_blocks.specs.Blocks.{block_of}
use Rattle.write_blocks.specs.Tables.{marker_of, empty_table, table_with, name_table, codec_table}
use Rattle.write_plan.proofs.LengthLaws.{table_length, block_length}
use Rattle.promises_write.specs.Promises.{CodecFits, name_start}
use Rattle.promises_write.proofs.FromLaws.{From, from_next, drop_is}
use Rattle.promises_write.proofs.BlockReadLaws.{block, inside_read, head_is, sound_ahead, other_ahead, marker-block, last_block_lem}
use Rattle.promises_write.proofs.TableReadLaws.{no_zero, first-cell-is, last-cell-is, empty_is, no_cell, name_stored, codec_stored, name_value, codec_value}

codec_few : (column : List ℕ) → length column < 2 ^ 16 → (codec : Option ℕ) → length (codec_table column codec) < 2 ^ 31
unfolding codec_table
codec_few column m (Some n) = omega (arith, table_length 0x54 column (bytes32 n) [])
codec_few column m None = omega arith

once : (t : Bool) → cond t 0 (64 + cond t 0 22) ≡ cond t 0 86
once true = refl
once false = refl

module _ (s : List ℕ) (how : Reading) where
  -- where what a block holds stands
  held_at : (letters : ℕ) (inside more : List ℕ) {p : ℕ} → From s p (block letters inside more) → drop (p + 0x20) s ≡ inside ++ (zeros (padding (length inside)) ++ more)
  held_at letters inside more {p} f = drop_is f (p + 0x20) 0x20 refl ∙ inside_read letters inside more

  -- ---- a block with an empty table, one with a codec, and the name's

  module _ (letters : ℕ) (h : letters < 2 ^ 32) (more : List ℕ) {p : ℕ} where
    pub empty_block : From s p (block letters empty_table more) → (missing : Cause) → table_block s how letters missing p ≡ Ok (p + length (block_of letters empty_table))
    unfolding table_block
    empty_block f missing =
        rw (head_is letters empty_table more f h (omega arith) missing, empty_is how.tables s (zeros (padding (length empty_table)) ++ more) (p + 0x20) (held_at letters empty_table more f))

    pub codec_is : (column : List ℕ) → no_zero column ≡ true → length column < 2 ^ 16 → (codec : Option ℕ) → CodecFits codec → From s p (block letters (codec_table column codec) more)
        → (missing : Cause) → codec_block s how letters missing column p ≡ Ok (record { codec = codec; next = p + length (block_of letters (codec_table column codec)) })
    unfolding codec_block codec_table
    codec_is column clean m (Some n) fits f missing =
        let inside = table_with 0x54 column (bytes32 n) [] in
        let l : length inside < 2 ^ 31 = omega (arith, table_length 0x54 column (bytes32 n) []) in
        let e : n % 2 ^ 32 ≡ n = omega arith in
        rw (
          head_is letters inside more f h l missing,
          first-cell-is how.tables 0x54 column (bytes32 n) [] (codec_stored how.tables) clean (Unsigned n) (codec_value how.tables column n fits) (zeros (padding (length inside)) ++ more) (omega arith) m (omega arith) s (p + 0x20)
              (held_at letters inside more f),
          e,
        )
    codec_is column clean m None fits f missing =
        rw (head_is letters empty_table more f h (omega arith) missing, no_cell how.tables s (zeros (padding (length empty_table)) ++ more) (p + 0x20) (held_at letters empty_table more f) column)

  pub name_is : (name more : List ℕ) → length name ≤ 2 ^ 30 → From s 0 (block CRID (name_table name) more) → name_block s how ≡ Ok (record { name = Some (record { start = name_start name; len = length name }); next = 0 + length (block_of CRID (name_table name)) })
  unfolding name_block name_table
  name_is name more h f =
      let cell = bytes32 0 ++ bytes32 (length name) in
      let inside = table_with 0x5B filename cell name in
      let l : length inside < 2 ^ 31 = omega (arith, table_length 0x5B filename cell name) in
      rw (
        head_is CRID inside more f (omega arith) l _,
        last-cell-is how.tables 0x5B filename cell name (name_stored how.tables) refl (Data (cond (eqb (length name) 0) 0 22) (length name)) (name_value how.tables name (omega arith)) (zeros (padding (length inside)) ++ more) (omega arith)
            (omega arith) (omega arith) s 0x20 (held_at CRID inside more f),
        once (eqb (length name) 0),
      )

  -- ---- the steps: each goes on to the next block

  -- an answer that goes on to the place from which on the rest stands
  record Goes (answer : Result ℕ Refusal) (rest : List ℕ) : Type 0 where
    pub place : ℕ
    pub is : answer ≡ Ok place
    pub from : From s place rest
    pub round : place % 0x20 ≡ 0

  -- what can be said where a block begins
  abbrev Here : ℕ → List ℕ → Type 0
  Here p rest = From s p rest × (p % 0x20 ≡ 0)

  past : (letters : ℕ) (inside rest : List ℕ) {p : ℕ} → Here p (block letters inside rest) → (answer : Result ℕ Refusal) → answer ≡ Ok (p + length (block_of letters inside)) → Goes answer rest
  past letters inside rest {p} here answer e =
      record {
        place = p + length (block_of letters inside);
        is = e;
        from = from_next (block_of letters inside) rest here.0;
        round = rw (block_length letters inside) (omega (arith, here.1));
      }

  then_goes : {answer : Result ℕ Refusal} {rest others : List ℕ} (k : ℕ → Result ℕ Refusal) → Goes answer rest → ((p : ℕ) → Here p rest → Goes (k p) others) → Goes (and_then k answer) others
  then_goes k g next = let n = next g.place (g.from, g.round) in record { place = n.place; is = rw g.is n.is; from = n.from; round = n.round }

  module _ (letters : ℕ) (h : letters < 2 ^ 32) (rest : List ℕ) {p : ℕ} where
    marker_goes : (marker : List ℕ) → length (marker_of marker) ≡ 0x20 → length marker ≤ 0x20 → Here p (block letters (marker_of marker) rest) → (missing unmarked : Cause)
        → Goes (marker_block s letters missing marker unmarked p) rest
    marker_goes marker m n here missing unmarked = past letters (marker_of marker) rest here _ (marker-block letters marker rest m n here.0 h missing unmarked)

    table_goes : Here p (block letters empty_table rest) → (missing : Cause) → Goes (table_block s how letters missing p) rest
    table_goes here missing = past letters empty_table rest here _ (empty_block letters h rest here.0 missing)

  module _ (rest : List ℕ) where
    abbrev marked : ℕ → List ℕ → List ℕ → List ℕ
    marked letters marker more = block letters (marker_of marker) more

    abbrev tabled : ℕ → List ℕ → List ℕ
    tabled letters more = block letters empty_table more

    -- without audio
    step8_goes : (p : ℕ) → Here p (marked SFV metadata_end rest) → Goes (step7 s how false p) rest
    unfolding step7
    step8_goes p here = past SFV (marker_of metadata_end) rest here _ (last_block_lem rest here.0 here.1)

    video_goes : (p : ℕ) → Here p (marked SFV header_end (tabled SFV (marked SFV metadata_end rest))) → Goes (step4 s how false p) rest
    unfolding step4 step5 step6
    video_goes p here =
        then_goes (step5 s how false) (marker_goes SFV (omega arith) (tabled SFV (marked SFV metadata_end rest)) header_end refl (omega arith) here NoVideo NoHeaderEnd)
        (λ p here. then_goes (step7 s how false) (table_goes SFV (omega arith) (marked SFV metadata_end rest) here NoVideo) step8_goes)

    -- with audio
    abbrev last : List ℕ
    last = marked SFV metadata_end (marked SFA metadata_end rest)

    step7_goes : (p : ℕ) → Here p (tabled SFA last) → Goes (step7 s how true p) rest
    unfolding step7 step7_table step7_video
    step7_goes p here =
        rw (sound_ahead SFA empty_table last here.0 (omega arith) (omega arith) refl)
        (then_goes (step7_video s) (table_goes SFA (omega arith) last here NoAudio)
        (λ p here.
        then_goes (step7_audio s) (marker_goes SFV (omega arith) (marked SFA metadata_end rest) metadata_end refl (omega arith) here NoVideo NoMetadataEnd)
        (λ p here. marker_goes SFA (omega arith) rest metadata_end refl (omega arith) here NoAudio NoMetadataEnd)))

    audio_goes : (p : ℕ) → Here p (marked SFV header_end (marked SFA header_end (tabled SFV (tabled SFA last)))) → Goes (step4 s how true p) rest
    unfolding step4 step5 step6
    audio_goes p here =
        then_goes (step5 s how true) (marker_goes SFV (omega arith) (marked SFA header_end (tabled SFV (tabled SFA last))) header_end refl (omega arith) here NoVideo NoHeaderEnd)
        (λ p here.
        then_goes (step6 s how true) (marker_goes SFA (omega arith) (tabled SFV (tabled SFA last)) header_end refl (omega arith) here NoAudio NoHeaderEnd)
        (λ p here. then_goes (step7 s how true) (table_goes SFV (omega arith) (tabled SFA last) here NoVideo) step7_goes))

  -- ---- the steps that give name and codecs

  -- a header that is read, and the rest from where its chunks begin
  pub record Reads (answer : Result Header Refusal) (name : List ℕ) (mpeg : Option ℕ) (audio : Bool) (other : Option ℕ) (rest : List ℕ) : Type 0 where
    pub start : ℕ
    pub is : answer ≡ Ok (record { name = Some (record { start = name_start name; len = length name }); mpeg_codec = mpeg; audio = audio; audio_codec = other; start = start })
    pub from : From s start rest

  module _ (name : List ℕ) (mpeg : Option ℕ) (h : length name ≤ 2 ^ 30) (fits : CodecFits mpeg) (rest : List ℕ) where
    abbrev part : Option Name
    part = Some (record { start = name_start name; len = length name })

    -- after the name and the video codec
    abbrev front : List ℕ → List ℕ
    front more = block CRID (name_table name) (block SFV (codec_table mpeg_codec mpeg) more)

    step3_reads : (audio : Bool) (other : Option ℕ) (more : List ℕ) → ((p : ℕ) → Here p more → Reads (step3 s how part mpeg p) name mpeg audio other rest) → From s 0 (front more)
        → length s ≤ 0x40000000 → Reads (header_of s how) name mpeg audio other rest
    unfolding header_of step1 step2 codec_block past
    step3_reads audio other more next f l =
        let named = past CRID (name_table name) (block SFV (codec_table mpeg_codec mpeg) more) (f, refl) _ refl in
        let coded = past SFV (codec_table mpeg_codec mpeg) more (named.from, named.round) _ refl in
        let n = next coded.place (coded.from, coded.round) in
        record {
          start = n.start;
          is =
              rw (
                le-ltb 0x40000000 (length s) l,
                name_is name (block SFV (codec_table mpeg_codec mpeg) more) h f,
                codec_is SFV (omega arith) more mpeg_codec refl (omega arith) mpeg fits named.from NoVideo,
              ) n.is;
          from = n.from;
        }

    pub video_reads : From s 0 (front (marked rest SFV header_end (tabled rest SFV (marked rest SFV metadata_end rest)))) → length s ≤ 0x40000000
        → Reads (header_of s how) name mpeg false None rest
    unfolding step3
    video_reads =
        step3_reads false None _
        (λ p here.
        let g = video_goes rest p here in
        record {
          start = g.place;
          is = rw (other_ahead SFV (marker_of header_end) _ here.0 (omega arith) (omega arith) refl, g.is);
          from = g.from;
        })

    pub audio_reads : (other : Option ℕ) → CodecFits other
        → From s 0 (front (block SFA (codec_table audio_codec other) (marked rest SFV header_end (marked rest SFA header_end (tabled rest SFV (tabled rest SFA (last rest)))))))
        → length s ≤ 0x40000000 → Reads (header_of s how) name mpeg true other rest
    unfolding step3 step3_audio codec_block past
    audio_reads other fit =
        let more = marked rest SFV header_end (marked rest SFA header_end (tabled rest SFV (tabled rest SFA (last rest)))) in
        step3_reads true other (block SFA (codec_table audio_codec other) more)
        (λ p here.
        let coded = past SFA (codec_table audio_codec other) more here _ refl in
        let g = audio_goes rest coded.place (coded.from, coded.round) in
        record {
          start = g.place;
          is =
              rw (sound_ahead SFA (codec_table audio_codec other) more here.0 (omega arith) (codec_few audio_codec (omega arith) other) refl, codec_is SFA (omega arith) more audio_codec refl (omega arith) other fit here.0 NoAudio, g.is);
          from = g.from;
        })
