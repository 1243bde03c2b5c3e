-- What is found with more audio is found with less of it too: only of a chunk of a channel that is not kept is the payload skipped. Assumes nothing.
use Rattle.std.specs.Prelude.{Some, Ok, Result, Option}
use Rattle.refusal.specs.declared.Refusal.{Refusal}
use mathlib.Core.Path.{◌≡◌, refl, sym, ap, ◌∙◌}
use mathlib.Core.List.{List}
use mathlib.Core.Bool.{Bool, true, false, cond, ◌&&◌}
use Prim.Native.Nat.{ℕ, ◌+◌, ◌-◌}
use lib.ListN.{length}
use lib.Dec.{ltb}
use Rattle.refusal.specs.declared.Cause.TheVariants.{RanOut, TooSmall, ShortHeader}
use Rattle.reading.specs.declared.PayloadMode.{PayloadMode}
use Rattle.reading.specs.declared.Applied.{Applied}
use Rattle.reading.specs.Choices.{takes_channel}
use Rattle.chunk.specs.declared.Kind.{Kind}
use Rattle.chunk.specs.declared.Kind.TheVariants.{Video, Audio, Other, End}
use Rattle.chunk.specs.declared.Opening.{Opening}
use Rattle.chunk.specs.declared.Chunk.{Chunk}
use Rattle.chunk.specs.Openings.{opening_at}
use Rattle.chunk.specs.Chunks.{is_taken, offset_of, is_short, chunk_of, held_at, taken_at, opened_at, chunk_at}
use Rattle.chunk.specs.Channels.{is_left, skipped, keeping}
use Rattle.chunk.proofs.FoundLaws.{not_over, not_refused}

-- `one` takes the audio of the channels that are kept, of what `all` takes, from the same places
pub record TakesSome (kept : ℕ → Bool) (all one : Applied) : Type 0 where
  pub mode : one.payloads ≡ all.payloads
  pub takes : (channel : ℕ) → takes_channel one.audio channel ≡ (takes_channel all.audio channel && kept channel)

module _ (kept : ℕ → Bool) (chunk : Chunk) where
  as_it_is : is_left kept chunk.kind chunk.channel ≡ false → keeping kept chunk ≡ chunk
  unfolding keeping
  as_it_is e = rw e

  without_payload : is_left kept chunk.kind chunk.channel ≡ true → keeping kept chunk ≡ skipped chunk
  unfolding keeping
  without_payload e = rw e

-- the next chunk stands where it stood
pub keeping_next : (kept : ℕ → Bool) (chunk : Chunk) → (keeping kept chunk).next ≡ chunk.next
unfolding keeping
keeping_next kept chunk = by_test (is_left kept chunk.kind chunk.channel)
  where
    by_test : (t : Bool) → (cond t (skipped chunk) chunk).next ≡ chunk.next
    by_test true = refl
    by_test false = refl

module _ (container : List ℕ) (c : ℕ) (opening : Opening) (chunk : Chunk) where
  -- the chunk of an opening
  record Made : Type 0 where
    kind : chunk.kind ≡ opening.kind
    channel : chunk.channel ≡ opening.channel
    bare : skipped chunk ≡ chunk_of c opening 0x20 0

  of_opening : (offset n : ℕ) → chunk ≡ chunk_of c opening offset n → Made
  unfolding chunk_of
  of_opening offset n e = record { kind = ap (λ (k : Chunk). k.kind) e; channel = ap (λ (k : Chunk). k.channel) e; bare = ap skipped e }

  of_taken : (mode : PayloadMode) → taken_at (length container) mode c opening ≡ Ok (Some chunk) → Made
  unfolding taken_at held_at
  of_taken mode e =
      let offset = offset_of mode opening in
      let n = opening.block - (opening.header + opening.footer) in
      let a = not_refused (is_short mode opening) c ShortHeader chunk _ e in
      let b = not_refused (ltb opening.block (opening.header + opening.footer)) c TooSmall chunk _ a.1 in
      let d = not_refused (ltb (length container) (c + offset + n)) c RanOut chunk _ b.1 in
      of_opening offset n (cc)

  of_skipped : ◌≡◌ {A = Result (Option Chunk) Refusal} (Ok (Some (chunk_of c opening 0x20 0))) (Ok (Some chunk)) → Made
  of_skipped e = of_opening 0x20 0 (cc)

  module _ (kept : ℕ → Bool) where
    -- not audio
    stays : Made → (kind : Kind) → opening.kind ≡ kind → is_left kept kind chunk.channel ≡ false → ◌≡◌ {A = Result (Option Chunk) Refusal} (Ok (Some chunk)) (Ok (Some (keeping kept chunk)))
    stays made kind k e = ap (λ (x : Chunk). Ok (Some x)) (sym (as_it_is kept chunk (rw (made.kind ∙ k) e)))

    -- audio, by whether it is taken with all, and is of the channel
    by_channel : (mode : PayloadMode) → opening.kind ≡ Audio → (s t : Bool) → kept opening.channel ≡ t → cond s (taken_at (length container) mode c opening) (Ok (Some (chunk_of c opening 0x20 0))) ≡ Ok (Some chunk)
        → cond (s && t) (taken_at (length container) mode c opening) (Ok (Some (chunk_of c opening 0x20 0))) ≡ Ok (Some (keeping kept chunk))
    by_channel mode k true true q e = let m = of_taken mode e in e ∙ ap (λ (x : Chunk). Ok (Some x)) (sym (as_it_is kept chunk (rw (m.kind ∙ k, m.channel, q))))
    by_channel mode k true false q e = let m = of_taken mode e in ap (λ (x : Chunk). Ok (Some x)) (sym (without_payload kept chunk (rw (m.kind ∙ k, m.channel, q)) ∙ m.bare))
    by_channel mode k false true q e = let m = of_skipped e in e ∙ ap (λ (x : Chunk). Ok (Some x)) (sym (as_it_is kept chunk (rw (m.kind ∙ k, m.channel, q))))
    by_channel mode k false false q e = let m = of_skipped e in ap (λ (x : Chunk). Ok (Some x)) (sym (without_payload kept chunk (rw (m.kind ∙ k, m.channel, q)) ∙ m.bare))

    module _ (all one : Applied) (narrow : TakesSome kept all one) (mode : PayloadMode) where
      by_kind : (kind : Kind) → opening.kind ≡ kind
          → cond (is_taken all kind opening.channel) (taken_at (length container) mode c opening) (Ok (Some (chunk_of c opening 0x20 0))) ≡ Ok (Some chunk)
          → cond (is_taken one kind opening.channel) (taken_at (length container) mode c opening) (Ok (Some (chunk_of c opening 0x20 0))) ≡ Ok (Some (keeping kept chunk))
      by_kind Video k e = e ∙ stays (of_taken mode e) Video k refl
      by_kind Audio k e = rw (narrow.takes opening.channel) (by_channel mode k (takes_channel all.audio opening.channel) (kept opening.channel) refl e)
      by_kind Other k e = e ∙ stays (of_skipped e) Other k refl
      by_kind End k e = e ∙ stays (of_skipped e) End k refl

module _ (kept : ℕ → Bool) (container : List ℕ) (all one : Applied) (narrow : TakesSome kept all one) (c : ℕ) where
  pub keeping_found : (chunk : Chunk) → chunk_at container all c ≡ Ok (Some chunk) → chunk_at container one c ≡ Ok (Some (keeping kept chunk))
  unfolding chunk_at opened_at
  keeping_found chunk e =
      let opening = opening_at container c in
      let a = not_over (ltb (length container - c) 4) chunk _ e in
      let b = not_refused (ltb (length container - c) 45) c RanOut chunk _ a.1 in
      rw (a.0, b.0)
      (ap (λ (mode : PayloadMode). cond (is_taken one opening.kind opening.channel) (taken_at (length container) mode c opening) (Ok (Some (chunk_of c opening 0x20 0)))) narrow.mode
      ∙ by_kind container c opening chunk kept all one narrow all.payloads opening.kind refl b.1)
