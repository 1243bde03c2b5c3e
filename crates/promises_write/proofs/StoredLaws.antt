-- A film that is written with a key holds its streams as they are stored, cut at the same places: so it is the film that is written from those without a key.
-- Assumes nothing.
use Rattle.std.specs.Prelude.{Option, None, Ok}
use Prim.Native.Nat.{ℕ, zero, suc, ◌+◌, ◌/◌, ◌≤◌, ◌<◌}
use mathlib.Core.Path.{◌≡◌, refl, sym, ap, ap₂, ◌∙◌}
use mathlib.Core.List.{List, [], ◌∷◌, ◌++◌, map, append-nil}
use mathlib.Core.Bool.{Bool, true, false, not, cond, ◌||◌, ◌&&◌}
use mathlib.Core.Logic.{⊎_elim}
use native.Mathlib.Omega.{arith}
use lib.ListN.{length, take, drop, length-take, length-drop, length-append, drop_of_length-le}
use lib.Seq.{take_all, take_at, drop_at, length-take-le, get_or-take, ext_get_or}
use lib.Dec.{ltb, leb}
use borrow.Author.Tests.{le-leb, lt-leb}
use Rattle.laws.proofs.Side.{side}
use Rattle.refusal.specs.declared.Cause.TheVariants.{TooLong, MarkedPayload, CodecAlone}
use Rattle.signature.specs.Signatures.{contents_end, same_bytes, stands_at}
use Rattle.unmasking.specs.declared.Unmasking.{Unmasking}
use Rattle.unmasking.specs.Unmasking.{unmasking_of}
use Rattle.write_plan.specs.declared.Stream.{Stream}
use Rattle.write_plan.specs.declared.Stream.TheVariants.{Video, Audio}
use Rattle.write_plan.specs.declared.Packing.{Packing}
use Rattle.write_plan.specs.Payloads.{cut, payloads_of, stored_as, by_turns}
use Rattle.write_plan.specs.Films.{Block, block_in, chunks_of, bytes_of, header_blocks, chunk_blocks, end_blocks, audio_in, film_bytes}
use Rattle.write_plan.specs.Planning.{refused_by, is_given, any_marked, planned_of}
use Rattle.write_plan.proofs.PayloadLaws.{payloads_none, payloads_more, stored_length}
use Rattle.promises_write.specs.Promises.{stored_from, stored_in, without_key}
use Rattle.promises_write.proofs.MaskLaws.{first_stays}

-- ---- what is stored is cut at the same places

module _ (by : Unmasking) (stream : Stream) where
  abbrev kept : List ℕ → List ℕ
  kept payload = stored_as by stream payload

  -- the first of several payloads has 65,536 bytes, or no other follows
  first_cut : (first rest : List ℕ) → 0 < length first → length first ≤ 0x10000 → (length first < 0x10000 → rest ≡ []) → payloads_of (first ++ rest) ≡ first ∷ payloads_of rest
  first_cut first rest some few last =
      payloads_more (first ++ rest) (rw length-append (omega arith))
      ∙ ⊎_elim
      (λ (b : length first < 0x10000).
      let alone : first ++ rest ≡ first = ap (λ (l : List ℕ). first ++ l) (last b) ∙ append-nil first in
      rw (alone, take_all 0x10000 first few, drop_of_length-le first {i = 0x10000} few, last b))
      (λ (b : 0x10000 ≤ length first).
      let n : length first ≡ 0x10000 = omega arith in
      rw (take_at first rest 0x10000 n, drop_at first rest 0x10000 n))
      (side (length first) 0x10000)

  none_left : (n : ℕ) → n ≡ 0 → (bytes : List ℕ) → stored_from by stream (cut n bytes) ≡ []
  unfolding cut stored_from
  none_left n e bytes = rw e

  cut_stored : (n : ℕ) (bytes : List ℕ) → n ≡ (length bytes + 0xFFFF) / 0x10000 → payloads_of (stored_from by stream (cut n bytes)) ≡ map kept (cut n bytes)
  unfolding cut stored_from
  cut_stored zero bytes e = payloads_none
  cut_stored (suc n) bytes e =
      let first = take 0x10000 bytes in
      let rest = drop 0x10000 bytes in
      let long : length (kept first) ≡ length first = stored_length by stream first in
      let taken : length first ≤ 0x10000 = rw length-take (omega arith) in
      let some : 0 < length first = rw length-take (omega arith) in
      let left : n ≡ (length rest + 0xFFFF) / 0x10000 = rw length-drop (omega arith) in
      let last : length (kept first) < 0x10000 → stored_from by stream (cut n rest) ≡ [] =
      λ b. none_left n (let small : length bytes < 0x10000 = omega (arith, length-take 0x10000 bytes) in omega arith) rest in
      first_cut (kept first) (stored_from by stream (cut n rest)) (omega arith) (omega arith) last
      ∙ ap (λ (l : List (List ℕ)). kept first ∷ l) (cut_stored n rest left)

  pub payloads_stored : (bytes : List ℕ) → payloads_of (stored_from by stream (payloads_of bytes)) ≡ map kept (payloads_of bytes)
  unfolding payloads_of
  payloads_stored bytes = cut_stored ((length bytes + 0xFFFF) / 0x10000) bytes refl

  -- ---- the marker at the front stays where it is, and where it is not

  mark_stays : (payload : List ℕ) → stands_at contents_end (kept payload) 0 ≡ stands_at contents_end payload 0
  mark_stays payload =
      let long : length (kept payload) ≡ length payload = stored_length by stream payload in
      ⊎_elim
      (λ (b : length payload < 13). rw (lt-leb 13 (length (kept payload)) (omega arith), lt-leb 13 (length payload) b))
      (λ (b : 13 ≤ length payload).
      let first : take 13 (kept payload) ≡ take 13 payload =
      ext_get_or 0 (take 13 (kept payload)) (take 13 payload) (length-take-le 13 (kept payload) (omega arith) ∙ sym (length-take-le 13 payload b))
      (λ i h.
      let j : i < 13 = omega (arith, length-take-le 13 (kept payload) (omega arith)) in
      get_or-take 13 (kept payload) i 0 j ∙ first_stays payload i (omega arith) (omega arith) by stream ∙ sym (get_or-take 13 payload i 0 j)) in
      rw (le-leb 13 (length (kept payload)) (omega arith), le-leb 13 (length payload) b) (ap (λ (l : List ℕ). same_bytes l contents_end) first))
      (side (length payload) 13)

  marks_stay : (payloads : List (List ℕ)) → any_marked (map kept payloads) ≡ any_marked payloads
  unfolding any_marked
  marks_stay [] = refl
  marks_stay (payload ∷ payloads) = ap₂ (λ (s t : Bool). s || t) (mark_stays payload) (marks_stay payloads)

  pub stored_marked : (bytes : List ℕ) → any_marked (payloads_of (stored_from by stream (payloads_of bytes))) ≡ any_marked (payloads_of bytes)
  stored_marked bytes = ap any_marked (payloads_stored bytes) ∙ marks_stay (payloads_of bytes)

-- ---- the same blocks

same_blocks : (by : Unmasking) (stream : Stream) (codec : Option ℕ) (payloads : List (List ℕ))
    → map (λ payload. block_in stream (stored_as (unmasking_of None codec) stream payload)) (map (stored_as by stream) payloads)
    ≡ map (λ payload. block_in stream (stored_as by stream payload)) payloads
same_blocks by stream codec [] = refl
same_blocks by Video codec (payload ∷ payloads) = ap (λ (l : List Block). block_in Video (stored_as by Video payload) ∷ l) (same_blocks by Video codec payloads)
same_blocks by Audio codec (payload ∷ payloads) = ap (λ (l : List Block). block_in Audio (stored_as by Audio payload) ∷ l) (same_blocks by Audio codec payloads)

same_chunks : (by : Unmasking) (stream : Stream) (codec : Option ℕ) (bytes : List ℕ)
    → chunks_of (unmasking_of None codec) stream (stored_from by stream (payloads_of bytes)) ≡ chunks_of by stream bytes
same_chunks by stream codec bytes =
    ap (map (λ payload. block_in stream (stored_as (unmasking_of None codec) stream payload))) (payloads_stored by stream bytes) ∙ same_blocks by stream codec (payloads_of bytes)

module _ (name video audio : List ℕ) (packing : Packing) where
  abbrev stored_video : List ℕ
  stored_video = stored_in packing Video video

  abbrev stored_audio : List ℕ
  stored_audio = stored_in packing Audio audio

  same_header : header_blocks name packing ≡ header_blocks name (without_key packing)
  unfolding header_blocks
  same_header = refl

  pub film_stored : film_bytes name video audio packing ≡ film_bytes name stored_video stored_audio (without_key packing)
  unfolding film_bytes chunk_blocks
  film_stored =
      let by = unmasking_of packing.key packing.audio_codec in
      ap₂ (λ (h : List Block) (c : List Block). bytes_of h ++ (bytes_of c ++ bytes_of (end_blocks packing))) same_header
      (sym (ap₂ by_turns (same_chunks by Video packing.audio_codec video) (same_chunks by Audio packing.audio_codec audio)))

  pub plan_stored : planned_of name video audio packing ≡ planned_of name stored_video stored_audio (without_key packing)
  unfolding planned_of
  plan_stored =
      let by = unmasking_of packing.key packing.audio_codec in
      let marked = ap₂ (λ (s t : Bool). s || t) (sym (stored_marked by Video video)) (sym (stored_marked by Audio audio)) in
      ap₂ (λ (n : ℕ) (t : Bool).
      cond (not packing.audio && is_given packing.audio_codec) (refused_by CodecAlone)
      (cond (ltb 0x40000000 n) (refused_by TooLong) (cond t (refused_by MarkedPayload) (Ok n)))) (ap length film_stored) marked

-- where there is no audio, none is stored
pub none_stored : (by : Unmasking) → stored_from by Audio (payloads_of []) ≡ []
unfolding stored_from
none_stored by = rw payloads_none

pub audio_stored : (packing : Packing) (audio : List ℕ) → audio_in (without_key packing) (stored_in packing Audio audio) ≡ stored_in packing Audio (audio_in packing audio)
audio_stored packing audio = by_audio packing.audio
  where
    by_audio : (t : Bool) → cond t (stored_in packing Audio audio) [] ≡ stored_in packing Audio (cond t audio [])
    by_audio true = refl
    by_audio false = sym (none_stored (unmasking_of packing.key packing.audio_codec))
