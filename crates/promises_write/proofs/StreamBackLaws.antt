-- The payloads of both streams, by turns: which blocks and lines they make, that they can be read, and that each stream is its own. Assumes nothing.
use Prim.Native.Nat.{ℕ, zero, suc, ◌+◌, ◌/◌, ◌≤◌, ◌<◌}
use mathlib.Core.Path.{◌≡◌, refl, sym, ap, ap₂, ◌∙◌}
use mathlib.Core.List.{List, [], ◌∷◌, ◌++◌, map, map-map}
use mathlib.Core.Bool.{Bool, true, false, ◌||◌}
use native.Mathlib.Omega.{arith}
use lib.ListN.{length, take, drop, length-take, length-drop, take-append-drop}
use Rattle.signature.specs.Signatures.{contents_end, stands_at}
use Rattle.reading.specs.declared.Applied.{Applied}
use Rattle.unmasking.specs.declared.Unmasking.{Unmasking}
use Rattle.write_plan.specs.declared.Stream.{Stream}
use Rattle.write_plan.specs.declared.Stream.TheVariants.{Video, Audio}
use Rattle.write_plan.specs.Payloads.{cut, payloads_of, by_turns}
use Rattle.write_plan.specs.Films.{chunk_blocks}
use Rattle.write_plan.specs.Planning.{any_marked}
use Rattle.promises_write.specs.Listing.{payload_line}
use Rattle.promises_write.proofs.ChunkReadLaws.{Takes}
use Rattle.promises_write.proofs.WalkBackLaws.{Item, line_of, block_for, AllGood, none, one, shares}

-- ---- payloads with their streams

abbrev pub of : Stream → List ℕ → Item
of stream payload = record { stream = stream; payload = payload }

abbrev pub items_of : Stream → List ℕ → List Item
items_of stream bytes = map (of stream) (payloads_of bytes)

abbrev pub items : List ℕ → List ℕ → List Item
items video audio = by_turns (items_of Video video) (items_of Audio audio)

turns_map : {A B : Type 0} (f : A → B) (some others : List A) → by_turns (map f some) (map f others) ≡ map f (by_turns some others)
unfolding by_turns
turns_map f [] others = refl
turns_map f (first ∷ rest) [] = refl
turns_map f (first ∷ rest) (other ∷ others) = rw (turns_map f rest others)

pub blocks_are : (by : Unmasking) (video audio : List ℕ) → chunk_blocks by video audio ≡ map (block_for by) (items video audio)
unfolding chunk_blocks
blocks_are by video audio =
    ap₂ by_turns (sym (map-map (block_for by) (of Video) (payloads_of video))) (sym (map-map (block_for by) (of Audio) (payloads_of audio)))
    ∙ turns_map (block_for by) (items_of Video video) (items_of Audio audio)

pub lines_are : (video audio : List ℕ) → by_turns (map (payload_line Video) (payloads_of video)) (map (payload_line Audio) (payloads_of audio)) ≡ map line_of (items video audio)
lines_are video audio =
    ap₂ by_turns (sym (map-map line_of (of Video) (payloads_of video))) (sym (map-map line_of (of Audio) (payloads_of audio)))
    ∙ turns_map line_of (items_of Video video) (items_of Audio audio)

-- ---- a stream's payloads, one after the other, are the stream

unfoldable whole : List (List ℕ) → List ℕ
whole [] = []
whole (payload ∷ payloads) = payload ++ whole payloads

empty : (bytes : List ℕ) → length bytes ≡ 0 → [] ≡ bytes
empty [] e = refl
empty (byte ∷ bytes) e = absurd (omega arith)

cut_whole : (n : ℕ) (bytes : List ℕ) → n ≡ (length bytes + 0xFFFF) / 0x10000 → whole (cut n bytes) ≡ bytes
unfolding cut whole
cut_whole zero bytes e = empty bytes (omega arith)
cut_whole (suc n) bytes e =
    ap (λ (l : List ℕ). take 0x10000 bytes ++ l) (cut_whole n (drop 0x10000 bytes) (rw length-drop (omega arith))) ∙ take-append-drop 0x10000 bytes

payloads_whole : (bytes : List ℕ) → whole (payloads_of bytes) ≡ bytes
unfolding payloads_of
payloads_whole bytes = cut_whole ((length bytes + 0xFFFF) / 0x10000) bytes refl

own_shares : (stream : Stream) (payloads : List (List ℕ)) → shares stream (map (of stream) payloads) ≡ whole payloads
unfolding shares whole
own_shares Video [] = refl
own_shares Video (payload ∷ payloads) = ap (λ (l : List ℕ). payload ++ l) (own_shares Video payloads)
own_shares Audio [] = refl
own_shares Audio (payload ∷ payloads) = ap (λ (l : List ℕ). payload ++ l) (own_shares Audio payloads)

no_video : (payloads : List (List ℕ)) → shares Video (map (of Audio) payloads) ≡ []
unfolding shares
no_video [] = refl
no_video (payload ∷ payloads) = no_video payloads

no_audio : (payloads : List (List ℕ)) → shares Audio (map (of Video) payloads) ≡ []
unfolding shares
no_audio [] = refl
no_audio (payload ∷ payloads) = no_audio payloads

video_shares : (seen heard : List (List ℕ)) → shares Video (by_turns (map (of Video) seen) (map (of Audio) heard)) ≡ whole seen
unfolding shares whole by_turns
video_shares [] heard = no_video heard
video_shares (payload ∷ seen) [] = own_shares Video (payload ∷ seen)
video_shares (payload ∷ seen) (other ∷ heard) = ap (λ (l : List ℕ). payload ++ l) (video_shares seen heard)

audio_shares : (seen heard : List (List ℕ)) → shares Audio (by_turns (map (of Video) seen) (map (of Audio) heard)) ≡ whole heard
unfolding shares whole by_turns
audio_shares [] heard = own_shares Audio heard
audio_shares (payload ∷ seen) [] = no_audio (payload ∷ seen)
audio_shares (payload ∷ seen) (other ∷ heard) = ap (λ (l : List ℕ). other ++ l) (audio_shares seen heard)

pub video_back : (video audio : List ℕ) → shares Video (items video audio) ≡ video
video_back video audio = video_shares (payloads_of video) (payloads_of audio) ∙ payloads_whole video

pub audio_back : (video audio : List ℕ) → shares Audio (items video audio) ≡ audio
audio_back video audio = audio_shares (payloads_of video) (payloads_of audio) ∙ payloads_whole audio

-- ---- payloads of a stream that is accepted can be read

neither : (t u : Bool) → (t || u) ≡ false → (t ≡ false) × (u ≡ false)
neither true u e = let z : ◌≡◌ {A = ℕ} 0 1 = cc in absurd (omega arith)
neither false u e = (refl, e)

module _ (applied : Applied) where
  cut_good : (stream : Stream) → Takes applied stream → (n : ℕ) (bytes : List ℕ) → n ≡ (length bytes + 0xFFFF) / 0x10000 → any_marked (cut n bytes) ≡ false
      → AllGood applied (map (of stream) (cut n bytes))
  unfolding cut any_marked
  cut_good stream t zero bytes e m = none
  cut_good stream t (suc n) bytes e m =
      let first = take 0x10000 bytes in
      let l : (0 < length first) × (length first ≤ 0x10000) = rw (length-take 0x10000 bytes) (omega arith) in
      let u = neither (stands_at contents_end first 0) (any_marked (cut n (drop 0x10000 bytes))) m in
      one (record { some = l.0; few = l.1; unmarked = u.0; taken = t }) (cut_good stream t n (drop 0x10000 bytes) (rw length-drop (omega arith)) u.1)

  pub stream_good : (stream : Stream) → Takes applied stream → (bytes : List ℕ) → any_marked (payloads_of bytes) ≡ false → AllGood applied (items_of stream bytes)
  unfolding payloads_of
  stream_good stream t bytes m = cut_good stream t ((length bytes + 0xFFFF) / 0x10000) bytes refl m

  turns_good : (some others : List Item) → AllGood applied some → AllGood applied others → AllGood applied (by_turns some others)
  unfolding by_turns
  turns_good [] others none gs = gs
  turns_good (first ∷ rest) [] g none = g
  turns_good (first ∷ rest) (other ∷ others) (one g gs) (one h hs) = one g (one h (turns_good rest others gs hs))

  -- with audio, or with none of it
  pub both_good : (video audio : List ℕ) → Takes applied Audio → (any_marked (payloads_of video) || any_marked (payloads_of audio)) ≡ false → AllGood applied (items video audio)
  both_good video audio t m =
      let u = neither (any_marked (payloads_of video)) (any_marked (payloads_of audio)) m in
      turns_good (items_of Video video) (items_of Audio audio) (stream_good Video tt video u.0) (stream_good Audio t audio u.1)

  pub video_good : (video : List ℕ) → (any_marked (payloads_of video) || any_marked (payloads_of [])) ≡ false → AllGood applied (items video [])
  unfolding payloads_of cut
  video_good video m =
      let u = neither (any_marked (payloads_of video)) (any_marked (payloads_of [])) m in
      turns_good (items_of Video video) [] (stream_good Video tt video u.0) none
