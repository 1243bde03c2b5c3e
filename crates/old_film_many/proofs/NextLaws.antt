-- The chunks of the audios in a turn: those of the first turn by their numbers, those of a later one by the chunks of the turn before. Assumes nothing.
use Prim.Native.Nat.{ℕ, suc, ◌+◌, ◌-◌, ◌^◌, ◌≤◌, ◌<◌}
use mathlib.Core.Path.{◌≡◌, refl, sym, ap, ◌∙◌}
use mathlib.Core.List.{List, [], ◌∷◌, map}
use mathlib.Core.Bool.{Bool, true, false}
use native.Mathlib.Omega.{arith}
use lib.ListN.{length, drop, replicate}
use lib.Seq.{drop-drop, get_or-drop}
use lib.Dec.{eqb}
use Rattle.laws.specs.Lists.{at}
use Rattle.word.specs.Numbers.{be32}
use Rattle.turns.specs.declared.Form.TheVariants.{Old}
use Rattle.turns.specs.declared.Track.TheVariants.{Audio}
use Rattle.turns.specs.Chunks.{chunk_size, payload_in}
use Rattle.turns.specs.Turns.{goes_on}
use Rattle.turns.proofs.ChunkLaws.{size_none}
use Rattle.turns.proofs.TurnLaws.{size_holds}
use Rattle.turns.proofs.AudioLaws.{goes_there, number_read}
use Rattle.old_film_many.specs.Audios.{payloads_in, sizes_of}

-- ---- the first of the audios, and the others

payloads_none : (from number : ℕ) (bytes : List ℕ) → payloads_in from number [] bytes ≡ []
unfolding payloads_in
payloads_none from number bytes = refl

module _ (from number : ℕ) (going : Bool) (goings : List Bool) (bytes : List ℕ) (place : ℕ) where
  pub payloads_some : (payload : List ℕ) → payload_in Old (Audio number) from going (drop place bytes) ≡ payload
      → payloads_in from number (going ∷ goings) (drop place bytes) ≡ payload ∷ payloads_in from (number + 1) goings (drop (place + chunk_size Old (length payload)) bytes)
  unfolding payloads_in
  payloads_some payload e = rw (e, sym (drop-drop (chunk_size Old (length payload)) place bytes))

  -- an audio without a chunk
  pub payloads_skip : payload_in Old (Audio number) from going (drop place bytes) ≡ []
      → payloads_in from number (going ∷ goings) (drop place bytes) ≡ [] ∷ payloads_in from (number + 1) goings (drop place bytes)
  payloads_skip e =
      let here : place + chunk_size Old 0 ≡ place = omega (arith, size_none Old) in
      payloads_some [] e ∙ ap (λ (p : ℕ). [] ∷ payloads_in from (number + 1) goings (drop p bytes)) here

pub sizes_some : (payload : List ℕ) (payloads : List (List ℕ)) → sizes_of (payload ∷ payloads) ≡ chunk_size Old (length payload) + sizes_of payloads
unfolding sizes_of
sizes_some payload payloads = refl

pub sizes_none : sizes_of [] ≡ 0
unfolding sizes_of
sizes_none = refl

pub sizes_skip : (payloads : List (List ℕ)) → sizes_of ([] ∷ payloads) ≡ sizes_of payloads
sizes_skip payloads = sizes_some [] payloads ∙ omega (arith, size_none Old)

silent : (number from : ℕ) (bytes : List ℕ) → payload_in Old (Audio number) from false bytes ≡ []
unfolding payload_in
silent number from bytes = refl

-- ---- the first turn

pub record FirstLeft (bytes : List ℕ) (place count here number : ℕ) : Type 0 where
  pub few : number ≤ count
  pub within : here ≤ length bytes
  pub rest : here + sizes_of (payloads_in 0 number (replicate (count - number) true) (drop here bytes)) ≡ place + sizes_of (payloads_in 0 0 (replicate count true) (drop place bytes))

module _ (bytes : List ℕ) (place count : ℕ) where
  pub all_first : place ≤ length bytes → FirstLeft bytes place count place 0
  all_first h =
      let all : count - 0 ≡ count = omega arith in
      record { few = omega arith; within = h; rest = ap (λ (m : ℕ). place + sizes_of (payloads_in 0 0 (replicate m true) (drop place bytes))) all }

  pub first_more : (here number next : ℕ) → FirstLeft bytes place count here number → number < count
      → next ≡ here + chunk_size Old (length (payload_in Old (Audio number) 0 true (drop here bytes))) → next ≤ length bytes → FirstLeft bytes place count next (number + 1)
  first_more here number next l h e k =
      let n = count - (number + 1) in
      let some : count - number ≡ suc n = omega arith in
      let payload = payload_in Old (Audio number) 0 true (drop here bytes) in
      let is =
      ap (λ (m : ℕ). sizes_of (payloads_in 0 number (replicate m true) (drop here bytes))) some ∙ ap sizes_of (payloads_some 0 number true (replicate n true) bytes here payload refl)
      ∙ sizes_some payload (payloads_in 0 (number + 1) (replicate n true) (drop (here + chunk_size Old (length payload)) bytes)) in
      record { few = omega arith; within = k; rest = rw e (omega (arith, is, l.rest)) }

  pub first_done : (here number : ℕ) → FirstLeft bytes place count here number → count ≤ number
      → (here ≡ place + sizes_of (payloads_in 0 0 (replicate count true) (drop place bytes))) × (here ≤ length bytes)
  first_done here number l h =
      let none : count - number ≡ 0 = omega (arith, l.few) in
      let is =
      ap (λ (m : ℕ). sizes_of (payloads_in 0 number (replicate m true) (drop here bytes))) none ∙ ap sizes_of (payloads_none 0 number (drop here bytes)) ∙ sizes_none in
      (omega (arith, is, l.rest), l.within)

-- ---- a later turn

read_drop : (bytes : List ℕ) (place : ℕ) → be32 (drop place bytes) 16 ≡ be32 bytes (place + 16)
read_drop bytes place =
    let b : (i : ℕ) (j : ℕ) → place + i ≡ j → at (drop place bytes) i ≡ at bytes j = λ i j e. get_or-drop place bytes i 0 ∙ ap (at bytes) e in
    rw (b 16 (place + 16) refl, b 17 (place + 16 + 1) (omega arith), b 18 (place + 16 + 2) (omega arith), b 19 (place + 16 + 2 + 1) (omega arith))

module _ (from : ℕ) (bytes : List ℕ) (end whole : ℕ) where
  -- what is left of the turn before from a place on, and of the next
  pub record Rest (here last : ℕ) : Type 0 where
    pub number : ℕ
    pub left : List Bool
    pub few : number + length left ≤ 2 ^ 32
    pub prior : here + sizes_of (payloads_in from number left (drop here bytes)) ≡ end
    pub later : last + sizes_of (payloads_in (from + 0x10000) number (map goes_on (payloads_in from number left (drop here bytes))) (drop last bytes)) ≡ whole

  module _ (here last m len : ℕ) (read : m ≡ be32 bytes (here + 16)) (long : len ≡ length (payload_in Old (Audio m) from true (drop here bytes))) (goes : here < end) where
    abbrev Next : Type 0
    Next =
        (0 < len) × Rest (here + chunk_size Old len) (last + chunk_size Old (length (payload_in Old (Audio m) (from + 0x10000) (eqb len 0x10000) (drop last bytes))))

    module _ (number : ℕ) (going : Bool) (left : List Bool) (few : number + length (going ∷ left) ≤ 2 ^ 32)
        (prior : here + sizes_of (payloads_in from number (going ∷ left) (drop here bytes)) ≡ end)
        (later : last + sizes_of (payloads_in (from + 0x10000) number (map goes_on (payloads_in from number (going ∷ left) (drop here bytes))) (drop last bytes)) ≡ whole) where
      -- the chunk is this audio's
      own : (byte : ℕ) (payload : List ℕ) → payload_in Old (Audio number) from going (drop here bytes) ≡ byte ∷ payload → Next
      own byte payload e =
          let p = byte ∷ payload in
          let number_is : m ≡ number = read ∙ sym (read_drop bytes here) ∙ number_read number from going (drop here bytes) byte payload (omega arith) e in
          let len_is : len ≡ length p =
          long ∙ ap (λ (k : ℕ). length (payload_in Old (Audio k) from true (drop here bytes))) number_is ∙ ap length (goes_there (Audio number) from going (drop here bytes) byte payload e) in
          let after = here + chunk_size Old (length p) in
          let others = payloads_in from (number + 1) left (drop after bytes) in
          let is : payloads_in from number (going ∷ left) (drop here bytes) ≡ p ∷ others = payloads_some from number going left bytes here p e in
          let q = payload_in Old (Audio number) (from + 0x10000) (goes_on p) (drop last bytes) in
          let was = ap sizes_of is ∙ sizes_some p others in
          let will =
          ap (λ (l : List (List ℕ)). sizes_of (payloads_in (from + 0x10000) number (map goes_on l) (drop last bytes))) is
          ∙ ap sizes_of (payloads_some (from + 0x10000) number (goes_on p) (map goes_on others) bytes last q refl)
          ∙ sizes_some q (payloads_in (from + 0x10000) (number + 1) (map goes_on others) (drop (last + chunk_size Old (length q)) bytes)) in
          rw (number_is, len_is) (
            omega arith,
            record {
              number = number + 1;
              left = left;
              few = omega arith;
              prior = omega (arith, was, prior);
              later = omega (arith, will, later);
            },
          )

      -- this audio has no chunk
      skips : payload_in Old (Audio number) from going (drop here bytes) ≡ []
          → (number + 1 + length left ≤ 2 ^ 32 → here + sizes_of (payloads_in from (number + 1) left (drop here bytes)) ≡ end
          → last + sizes_of (payloads_in (from + 0x10000) (number + 1) (map goes_on (payloads_in from (number + 1) left (drop here bytes))) (drop last bytes)) ≡ whole → Next)
          → Next
      skips e others =
          let ps = payloads_in from (number + 1) left (drop here bytes) in
          let is : payloads_in from number (going ∷ left) (drop here bytes) ≡ [] ∷ ps = payloads_skip from number going left bytes here e in
          let was = ap sizes_of is ∙ sizes_skip ps in
          let will =
          ap (λ (l : List (List ℕ)). sizes_of (payloads_in (from + 0x10000) number (map goes_on l) (drop last bytes))) is
          ∙ ap sizes_of (payloads_skip (from + 0x10000) number false (map goes_on ps) bytes last (silent number (from + 0x10000) (drop last bytes)))
          ∙ sizes_skip (payloads_in (from + 0x10000) (number + 1) (map goes_on ps) (drop last bytes)) in
          others (omega arith) (omega (arith, was, prior)) (omega (arith, will, later))

      picks : (payload : List ℕ) → payload_in Old (Audio number) from going (drop here bytes) ≡ payload
          → (number + 1 + length left ≤ 2 ^ 32 → here + sizes_of (payloads_in from (number + 1) left (drop here bytes)) ≡ end
          → last + sizes_of (payloads_in (from + 0x10000) (number + 1) (map goes_on (payloads_in from (number + 1) left (drop here bytes))) (drop last bytes)) ≡ whole → Next)
          → Next
      picks [] e others = skips e others
      picks (byte ∷ payload) e others = own byte payload e

    steps : (number : ℕ) (left : List Bool) → number + length left ≤ 2 ^ 32 → here + sizes_of (payloads_in from number left (drop here bytes)) ≡ end
        → last + sizes_of (payloads_in (from + 0x10000) number (map goes_on (payloads_in from number left (drop here bytes))) (drop last bytes)) ≡ whole → Next
    steps number [] few prior later = absurd (omega (arith, ap sizes_of (payloads_none from number (drop here bytes)), sizes_none))
    steps number (going ∷ left) few prior later =
        picks number going left few prior later (payload_in Old (Audio number) from going (drop here bytes)) refl (steps (number + 1) left)

    pub next_step : Rest here last → Next
    next_step r = steps r.number r.left r.few r.prior r.later

  -- an audio that had no chunk has none in the next turn
  quiet : (number : ℕ) (payloads : List (List ℕ)) (place : ℕ) → sizes_of payloads ≡ 0 → sizes_of (payloads_in (from + 0x10000) number (map goes_on payloads) (drop place bytes)) ≡ 0
  quiet number [] place e = ap sizes_of (payloads_none (from + 0x10000) number (drop place bytes)) ∙ sizes_none
  quiet number ([] ∷ payloads) place e =
      ap sizes_of (payloads_skip (from + 0x10000) number false (map goes_on payloads) bytes place (silent number (from + 0x10000) (drop place bytes)))
      ∙ sizes_skip (payloads_in (from + 0x10000) (number + 1) (map goes_on payloads) (drop place bytes)) ∙ quiet (number + 1) payloads place (sym (sizes_skip payloads) ∙ e)
  quiet number ((byte ∷ payload) ∷ payloads) place e =
      absurd (omega (arith, e, sizes_some (byte ∷ payload) payloads, size_holds Old (length (byte ∷ payload))))

  pub next_over : (here last : ℕ) → end ≤ here → Rest here last → last ≡ whole
  next_over here last h r =
      let none : sizes_of (payloads_in from r.number r.left (drop here bytes)) ≡ 0 = omega (arith, r.prior) in
      omega (arith, r.later, quiet r.number (payloads_in from r.number r.left (drop here bytes)) last none)

-- where the next turn's audios end, if these were to go on
abbrev pub Ends : List ℕ → ℕ → ℕ → ℕ → ℕ → ℕ → Type 0
Ends bytes start end place from r =
    (goings : List Bool) → length goings ≤ 2 ^ 32 → start + sizes_of (payloads_in from 0 goings (drop start bytes)) ≡ end
    → r ≡ place + sizes_of (payloads_in (from + 0x10000) 0 (map goes_on (payloads_in from 0 goings (drop start bytes))) (drop place bytes))

pub record NextLeft (bytes : List ℕ) (start end place from here last : ℕ) : Type 0 where
  pub within : last ≤ length bytes
  pub rest : (goings : List Bool) → length goings ≤ 2 ^ 32 → start + sizes_of (payloads_in from 0 goings (drop start bytes)) ≡ end
      → Rest from bytes end (place + sizes_of (payloads_in (from + 0x10000) 0 (map goes_on (payloads_in from 0 goings (drop start bytes))) (drop place bytes))) here last

module _ (bytes : List ℕ) (start end place from : ℕ) where
  pub all_next : place ≤ length bytes → NextLeft bytes start end place from start place
  all_next h = record { within = h; rest = λ goings few e. record { number = 0; left = goings; few = omega arith; prior = e; later = refl } }

  module _ (here last m len : ℕ) (read : m ≡ be32 bytes (here + 16)) (long : len ≡ length (payload_in Old (Audio m) from true (drop here bytes))) (goes : here < end)
      (l : NextLeft bytes start end place from here last) where
    pub next_more : (next : ℕ) → next ≡ last + chunk_size Old (length (payload_in Old (Audio m) (from + 0x10000) (eqb len 0x10000) (drop last bytes))) → next ≤ length bytes
        → NextLeft bytes start end place from (here + chunk_size Old len) next
    next_more next e h = rw e (record { within = rw e at h; rest = λ goings few f. (next_step from bytes end _ here last m len read long goes (l.rest goings few f)).1 })

    -- a chunk that is there has a payload
    pub next_none : len ≡ 0 → Ends bytes start end place from last
    next_none e goings few f = absurd (omega (arith, (next_step from bytes end _ here last m len read long goes (l.rest goings few f)).0))

  pub next_done : (here last : ℕ) → end ≤ here → NextLeft bytes start end place from here last → Ends bytes start end place from last
  next_done here last h l goings few f = next_over from bytes end _ here last h (l.rest goings few f)
