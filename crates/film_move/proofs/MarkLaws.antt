-- Whether a payload that is read begins with the end marker is whether one of its stream's payloads does; in request 1's container none does. Assumes nothing.
use Prim.Native.Nat.{ℕ, zero, suc, ◌+◌, ◌≤◌}
use mathlib.Core.Path.{◌≡◌, refl, sym, ap, ap₂, ◌∙◌}
use mathlib.Core.List.{List, [], ◌∷◌, ◌++◌}
use mathlib.Core.Bool.{Bool, true, false, not, cond, ◌||◌, ◌&&◌}
use mathlib.Core.Logic.{⊎_elim}
use native.Mathlib.Omega.{arith}
use lib.ListN.{length, drop}
use lib.Dec.{ltb}
use Rattle.signature.specs.Signatures.{contents_end, same_bytes, stands_at}
use Rattle.turns.specs.declared.Track.{Track}
use Rattle.turns.specs.declared.Track.TheVariants.{Video, Audio}
use Rattle.write_plan.specs.Payloads.{payloads_of}
use Rattle.write_plan.specs.Planning.{any_marked}
use Rattle.write_plan.proofs.PayloadLaws.{payloads_none, payloads_more}
use Rattle.turns.specs.declared.Form.{Form}
use Rattle.turns.specs.declared.Form.TheVariants.{New}
use Rattle.turns.specs.Chunks.{chunk_of, chunk_size, inside_of, held_by, payload_in}
use Rattle.turns.specs.Turns.{Read, goes_on, seen_in, heard_in, turn_size, read_from}
use Rattle.turns.proofs.ReadLaws.{held, Joins, first_part, later_part, joins, joins_audio, read_none, by_cases}

pub none_marked : any_marked (payloads_of []) ≡ false
unfolding any_marked
none_marked = rw payloads_none

joined : (payload more : List ℕ) → length payload ≤ 0x10000 → Joins payload more
    → any_marked (payloads_of (payload ++ more)) ≡ (stands_at contents_end payload 0 || any_marked (payloads_of more))
unfolding any_marked same_bytes
joined [] [] few j = refl
joined [] (m ∷ more) few j =
    ⊎_elim (λ (e : goes_on [] ≡ true). let z : ◌≡◌ {A = ℕ} 0 1 = cc in absurd (omega arith)) (λ (e : m ∷ more ≡ []). let z : ◌≡◌ {A = ℕ} 0 1 = cc in absurd (omega arith)) j
joined (byte ∷ payload) more few j =
    ap any_marked (payloads_more ((byte ∷ payload) ++ more) (omega arith))
    ∙ ap₂ (λ (x y : List ℕ). stands_at contents_end x 0 || any_marked (payloads_of y)) (first_part (byte ∷ payload) more few j) (later_part (byte ∷ payload) more few j)

shuffle : (s t u v : Bool) → (s || t || (u || v)) ≡ (s || u || (t || v))
shuffle true t u v = refl
shuffle false true true v = refl
shuffle false true false v = refl
shuffle false false true v = refl
shuffle false false false v = refl

pub read_marked : (form : Form) (n from : ℕ) (seen heard : Bool) (bytes : List ℕ)
    → (read_from form n from seen heard bytes).marked
    ≡ (any_marked (payloads_of (read_from form n from seen heard bytes).video) || any_marked (payloads_of (read_from form n from seen heard bytes).audio))
read_marked form zero from seen heard bytes = rw (read_none form from seen heard bytes, none_marked)
read_marked form (suc n) from seen heard bytes =
    let v = seen_in form from seen bytes in
    let a = heard_in form from seen heard bytes in
    let last = drop (turn_size form v a) bytes in
    let r = read_from form n (from + 0x10000) (goes_on v) (goes_on a) last in
    by_cases form n from seen heard bytes (λ (r : Read). r.marked ≡ (any_marked (payloads_of r.video) || any_marked (payloads_of r.audio))) (rw none_marked)
    (ap (λ (t : Bool). stands_at contents_end v 0 || stands_at contents_end a 0 || t) (read_marked form n (from + 0x10000) (goes_on v) (goes_on a) last)
    ∙ shuffle (stands_at contents_end v 0) (stands_at contents_end a 0) (any_marked (payloads_of r.video)) (any_marked (payloads_of r.audio))
    ∙ ap₂ (λ (s t : Bool). s || t)
    (sym (joined v r.video (held form Video from bytes seen).few (joins form n (from + 0x10000) (goes_on v) (goes_on a) last v refl)))
    (sym (joined a r.audio (held form (Audio 0) from (drop (chunk_size form (length v)) bytes) heard).few (joins_audio form n (from + 0x10000) (goes_on v) (goes_on a) last a refl))))

-- ---- no payload that is read in request 1's container begins with the end marker: its chunk is an end

held_unmarked : (track : Track) (from : ℕ) (payload bytes : List ℕ) → stands_at contents_end (held_by New track from payload bytes) 0 ≡ false
unfolding same_bytes
held_unmarked track from payload bytes =
    either (not (ltb 0x10000 (length payload)) && stands_at (chunk_of New track from payload) bytes 0) (stands_at contents_end payload 0) refl where
      either : (t u : Bool) → stands_at contents_end payload 0 ≡ u → stands_at contents_end (cond (t && not u) payload []) 0 ≡ false
      either true true e = refl
      either true false e = e
      either false u e = refl

payload_unmarked : (track : Track) (from : ℕ) (going : Bool) (bytes : List ℕ) → stands_at contents_end (payload_in New track from going bytes) 0 ≡ false
unfolding payload_in same_bytes
payload_unmarked track from true bytes = held_unmarked track from (inside_of New bytes) bytes
payload_unmarked track from false bytes = refl

pub read_unmarked : (n from : ℕ) (seen heard : Bool) (bytes : List ℕ) → (read_from New n from seen heard bytes).marked ≡ false
read_unmarked zero from seen heard bytes = ap (λ (r : Read). r.marked) (read_none New from seen heard bytes)
read_unmarked (suc n) from seen heard bytes =
    let v = seen_in New from seen bytes in
    let a = heard_in New from seen heard bytes in
    by_cases New n from seen heard bytes (λ (r : Read). r.marked ≡ false) refl
    (rw
    (payload_unmarked Video from seen bytes, payload_unmarked (Audio 0) from heard (drop (chunk_size New (length v)) bytes), read_unmarked n (from + 0x10000) (goes_on v) (goes_on a) (drop (turn_size New v a) bytes)))
