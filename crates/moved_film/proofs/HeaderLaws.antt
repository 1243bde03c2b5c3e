-- What is known of a container whose header is read: it is within the limit, there is no audio codec without audio, and the name is no longer than the container.
-- Assumes nothing.
use Rattle.std.specs.Prelude.{Option, Some, None, Result, Ok, Err}
use Prim.Native.Nat.{ℕ, ◌+◌, ◌≤◌, ◌<◌}
use mathlib.Core.Path.{◌≡◌, refl, sym, ap, ◌∙◌}
use mathlib.Core.List.{List, []}
use mathlib.Core.Bool.{Bool, true, false, not, cond, ◌&&◌}
use mathlib.Core.Logic.{⊎_elim}
use native.Mathlib.Omega.{arith}
use lib.ListN.{length, drop, length-take}
use lib.Dec.{ltb}
use denote.Ref.{Bor}
use borrow.Author.Tests.{ltb-false, le-leb, lt-leb}
use Rattle.laws.proofs.Side.{side}
use Rattle.refusal.specs.declared.Refusal.{Refusal}
use Rattle.refusal.specs.declared.Cause.TheVariants.{RanOut, NoVideo, NoAudio, TooLong}
use Rattle.signature.specs.Signatures.{SFV, SFA, mpeg_codec, audio_codec}
use Rattle.reading.specs.declared.Reading.{Reading}
use Rattle.film_name.specs.declared.Name.{Name}
use Rattle.film_name.specs.Names.{NameOf}
use Rattle.block.specs.declared.CodecBlock.{CodecBlock}
use Rattle.block.specs.declared.NameBlock.{NameBlock}
use Rattle.block.specs.declared.Ahead.{Ahead}
use Rattle.block.specs.declared.Ahead.TheVariants.{Sound, Other, Cut}
use Rattle.block.specs.Blocks.{codec_block, name_block, ahead_at}
use Rattle.header.specs.declared.Header.{Header}
use Rattle.header.specs.Headers.{by_ahead, step4, refused, finish, after_codec, after_name, step3_audio, step3, step2, step1, header_of}
use Rattle.write_plan.specs.Planning.{is_given}
use Rattle.moved_film.specs.Finding.{answer_in, name_by, parts_by, is_new, parts_of, found_as, found_in}

-- an audio codec is given, and no audio
abbrev alone : Result Header Refusal → Bool
alone (Ok head) = not head.audio && is_given head.audio_codec
alone (Err refusal) = false

module _ (s : List ℕ) (how : Reading) where
  finish_silent : (name : Option Name) (video : Option ℕ) (x : Result ℕ Refusal) → alone (finish name video false None x) ≡ false
  finish_silent name video (Ok start) = refl
  finish_silent name video (Err refusal) = refl

  finish_sound : (name : Option Name) (video sound : Option ℕ) (x : Result ℕ Refusal) → alone (finish name video true sound x) ≡ false
  finish_sound name video sound (Ok start) = refl
  finish_sound name video sound (Err refusal) = refl

  after_codec_lem : (k : Option ℕ → ℕ → Result Header Refusal) → ((codec : Option ℕ) (next : ℕ) → alone (k codec next) ≡ false) → (x : Result CodecBlock Refusal) → alone (after_codec k x) ≡ false
  after_codec_lem k h (Ok block) = h block.codec block.next
  after_codec_lem k h (Err refusal) = refl

  after_name_lem : (k : Option Name → ℕ → Result Header Refusal) → ((name : Option Name) (next : ℕ) → alone (k name next) ≡ false) → (x : Result NameBlock Refusal) → alone (after_name k x) ≡ false
  after_name_lem k h (Ok block) = h block.name block.next
  after_name_lem k h (Err refusal) = refl

  by_ahead_lem : (name : Option Name) (video : Option ℕ) (p : ℕ) (x : Ahead)
      → alone (by_ahead (step3_audio s how name video p) (finish name video false None (step4 s how false p)) (refused p RanOut) x) ≡ false
  unfolding step3_audio
  by_ahead_lem name video p Sound =
      after_codec_lem (λ sound next. finish name video true sound (step4 s how true next)) (λ sound next. finish_sound name video sound (step4 s how true next)) (codec_block s how SFA NoAudio audio_codec p)
  by_ahead_lem name video p Other = finish_silent name video (step4 s how false p)
  by_ahead_lem name video p Cut = refl

  by_length : (t : Bool) → alone (cond t (refused 0 TooLong) (step1 s how)) ≡ false
  unfolding step1 step2 step3
  by_length true = refl
  by_length false =
      after_name_lem (step2 s how)
      (λ name p. after_codec_lem (step3 s how name) (λ video p. by_ahead_lem name video p (ahead_at s p)) (codec_block s how SFV NoVideo mpeg_codec p)) (name_block s how)

  short : (t : Bool) (head : Header) → cond t (refused 0 TooLong) (step1 s how) ≡ Ok head → t ≡ false
  short true head e = let z : ◌≡◌ {A = ℕ} 0 1 = cc in absurd (omega arith)
  short false head e = refl

  module _ (head : Header) (e : header_of s how ≡ Ok head) where
    pub not_alone : (not head.audio && is_given head.audio_codec) ≡ false
    unfolding header_of
    not_alone = sym (ap alone e) ∙ by_length (ltb 0x40000000 (length s))

    pub within : length s ≤ 0x40000000
    unfolding header_of
    within = ltb-false 0x40000000 (length s) (short (ltb 0x40000000 (length s)) head e)

-- ---- the name

pub name_read : (s fallback : Bor (List ℕ)) (name : Option Name) (r : Bor (List ℕ)) → NameOf s fallback name r → fallback.now ≡ [] → r.now ≡ name_by s.now name
name_read s fallback (Some part) r h e = h.2
name_read s fallback None r h e = h.2 ∙ e

pub name_few : (s : List ℕ) (name : Option Name) → length (name_by s name) ≤ length s
name_few s (Some part) =
    ⊎_elim (λ (h : length s < part.start + part.len). rw (lt-leb (part.start + part.len) (length s) h) (omega arith))
    (λ (h : part.start + part.len ≤ length s). rw (le-leb (part.start + part.len) (length s) h) (omega (arith, length-take part.len (drop part.start s)))) (side (length s) (part.start + part.len))
name_few s None = omega arith

-- ---- the answer

module _ (c : List ℕ) where
  pub found_read : (head : Header) → answer_in c ≡ Ok head → found_as c (parts_by c head) ≡ found_in c
  unfolding found_in is_new parts_of
  found_read head e = rw e

  pub found_none : (refusal : Refusal) → answer_in c ≡ Err refusal → None ≡ found_in c
  unfolding found_in is_new
  found_none refusal e = rw e
