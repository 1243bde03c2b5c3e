-- The chunks of the builder's audios say their numbers, so that none is read as another's. Assumes nothing.
use Prim.Native.Nat.{ℕ, ◌^◌, ◌<◌}
use mathlib.Core.Path.{◌≡◌, refl, sym, ap, ◌∙◌}
use mathlib.Core.List.{List, [], ◌∷◌, ◌++◌}
use mathlib.Core.Bool.{Bool, true, false}
use native.Mathlib.Omega.{arith}
use lib.ListN.{length, take, drop}
use Rattle.word.specs.Numbers.{be32}
use Rattle.word.proofs.NumberLaws.{whole32}
use Rattle.turns.specs.declared.Track.{Track}
use Rattle.turns.specs.declared.Track.TheVariants.{Audio}
use Rattle.turns.specs.declared.Form.TheVariants.{Old}
use Rattle.turns.specs.Chunks.{shape_of, head_by, chunk_of, chunk_size, payload_in}
use Rattle.turns.specs.Turns.{next_of}
use Rattle.turns.proofs.ReadLaws.{IsHeld, held}

number_back : (number from : ℕ) (payload more : List ℕ) → number < 2 ^ 32 → be32 (chunk_of Old (Audio number) from payload ++ more) 16 ≡ number
unfolding chunk_of shape_of head_by
number_back number from payload more h = whole32 number h

-- a stream of which there is a payload goes on
pub goes_there : (track : Track) (from : ℕ) (going : Bool) (bytes : List ℕ) (byte : ℕ) (payload : List ℕ) → payload_in Old track from going bytes ≡ byte ∷ payload
    → payload_in Old track from true bytes ≡ byte ∷ payload
unfolding payload_in
goes_there track from true bytes byte payload e = e
goes_there track from false bytes byte payload e = let z : ◌≡◌ {A = ℕ} 0 1 = cc in absurd (omega arith)

pub number_read : (number from : ℕ) (going : Bool) (bytes : List ℕ) (byte : ℕ) (payload : List ℕ) → number < 2 ^ 32
    → payload_in Old (Audio number) from going bytes ≡ byte ∷ payload → be32 bytes 16 ≡ number
unfolding next_of
number_read number from going bytes byte payload h e =
    let is : IsHeld Old (Audio number) from bytes (byte ∷ payload) = rw e at (held Old (Audio number) from bytes going) in
    ap (λ (l : List ℕ). be32 l 16) is.stands ∙ number_back number from (take 0x10000 (byte ∷ payload)) (drop (chunk_size Old (length (byte ∷ payload))) bytes) h

pub other_number : (number other from at : ℕ) (payload more : List ℕ) → number < 2 ^ 32 → other < 2 ^ 32 → (number ≡ other → ⊥)
    → payload_in Old (Audio number) from true (chunk_of Old (Audio other) at payload ++ more) ≡ []
other_number number other from at payload more h k differ = none (payload_in Old (Audio number) from true (chunk_of Old (Audio other) at payload ++ more)) refl where
  none : (p : List ℕ) → payload_in Old (Audio number) from true (chunk_of Old (Audio other) at payload ++ more) ≡ p → p ≡ []
  none [] e = refl
  none (byte ∷ read) e = absurd (differ (sym (number_read number from true (chunk_of Old (Audio other) at payload ++ more) byte read h e) ∙ number_back other at payload more k))
