-- What is known of a chunk that was found: it has its 45 bytes, its kind and its channel are its opening's, its data type is below 4, its payload lies behind its first 8 bytes, no
-- further than its header reaches and in the container, and the next place lies past its length. All this in both payload modes. Assumes nothing.
use Rattle.std.specs.Prelude.{Option, Some, None, Result, Ok, Err}
use mathlib.Core.Path.{◌≡◌, refl}
use mathlib.Core.Logic.{◌⊎◌, inl, inr}
use mathlib.Core.List.{List}
use mathlib.Core.Bool.{Bool, true, false, cond}
use Prim.Native.Nat.{ℕ, ◌+◌, ◌-◌, ◌≤◌, ◌<◌}
use native.Mathlib.Omega.{arith}
use lib.ListN.{length}
use lib.Dec.{ltb}
use borrow.Author.Tests.{ltb-false}
use Rattle.laws.specs.Lists.{at}
use Rattle.word.specs.Numbers.{be16}
use Rattle.refusal.specs.declared.Refusal.{Refusal}
use Rattle.refusal.specs.declared.Cause.{Cause}
use Rattle.refusal.specs.declared.Cause.TheVariants.{RanOut, TooSmall, ShortHeader}
use Rattle.reading.specs.declared.PayloadMode.{PayloadMode}
use Rattle.reading.specs.declared.PayloadMode.TheVariants.{Original, AfterHeader}
use Rattle.reading.specs.declared.Applied.{Applied}
use Rattle.chunk.specs.declared.Opening.{Opening}
use Rattle.chunk.specs.declared.Chunk.{Chunk}
use Rattle.chunk.specs.Openings.{kind_at, opening_at}
use Rattle.chunk.specs.Chunks.{is_taken, offset_of, is_short, chunk_of, refused_at, held_at, taken_at, opened_at, chunk_at}

pub record Within (container : List ℕ) (c : ℕ) (chunk : Chunk) : Type 0 where
  pub whole : 45 ≤ length container - c
  pub start : chunk.start ≡ c
  pub kind : chunk.kind ≡ kind_at container c
  pub channel : chunk.channel ≡ at container (c + 12)
  pub typed : chunk.data_type < 4
  pub behind : c + 8 ≤ chunk.payload
  pub near : chunk.payload ≤ c + 0x20 + be16 container (c + 8)
  pub inside : chunk.payload + chunk.len ≤ length container
  pub past : c + 8 + chunk.len ≤ chunk.next

-- what was found past a test did not stop there
pub not_over : (t : Bool) (chunk : Chunk) (next : Result (Option Chunk) Refusal) → cond t (Ok None) next ≡ Ok (Some chunk) → (t ≡ false) × (next ≡ Ok (Some chunk))
not_over true chunk next e = let z : ◌≡◌ {A = ℕ} 0 1 = cc in absurd (omega arith)
not_over false chunk next e = (refl, e)

pub not_refused : (t : Bool) (c : ℕ) (why : Cause) (chunk : Chunk) (next : Result (Option Chunk) Refusal) → cond t (refused_at c why) next ≡ Ok (Some chunk) → (t ≡ false) × (next ≡ Ok (Some chunk))
not_refused true c why chunk next e = let z : ◌≡◌ {A = ℕ} 0 1 = cc in absurd (omega arith)
not_refused false c why chunk next e = (refl, e)

-- a payload stands behind the first 8 bytes, and no further than its header reaches
offset_bounds : (mode : PayloadMode) (opening : Opening) → (8 ≤ offset_of mode opening) × (offset_of mode opening ≤ 0x20 + opening.header)
offset_bounds Original opening = (omega arith, omega arith)
offset_bounds AfterHeader opening = (omega arith, omega arith)

module _ (container : List ℕ) (c : ℕ) (chunk : Chunk) (enough : 45 ≤ length container - c) where
  abbrev opening : Opening
  opening = opening_at container c

  -- the chunk at c with a payload of n bytes
  of_length : (offset n : ℕ) → 8 ≤ offset → offset ≤ 0x20 + opening.header → c + offset + n ≤ length container → n ≤ opening.block
      → ◌≡◌ {A = Result (Option Chunk) Refusal} (Ok (Some (chunk_of c opening offset n))) (Ok (Some chunk)) → Within container c chunk
  unfolding chunk_of opening_at
  of_length offset n least most h k e =
      let f : chunk_of c opening offset n ≡ chunk = cc in
      rw (← f) (record { whole = enough; start = refl; kind = refl; channel = refl; typed = omega arith; behind = omega arith; near = omega arith; inside = h; past = omega arith })

  of_held : (offset : ℕ) → 8 ≤ offset → offset ≤ 0x20 + opening.header → held_at (length container) c opening offset ≡ Ok (Some chunk) → Within container c chunk
  unfolding held_at
  of_held offset least most e =
      let spare = opening.header + opening.footer in
      let n = opening.block - spare in
      let a = not_refused (ltb opening.block spare) c TooSmall chunk _ e in
      let b = not_refused (ltb (length container) (c + offset + n)) c RanOut chunk _ a.1 in
      of_length offset n least most (ltb-false (length container) (c + offset + n) b.0) (omega arith) b.1

  of_taken : (mode : PayloadMode) → taken_at (length container) mode c opening ≡ Ok (Some chunk) → Within container c chunk
  unfolding taken_at
  of_taken mode e =
      let bounds = offset_bounds mode opening in
      of_held (offset_of mode opening) bounds.0 bounds.1 (not_refused (is_short mode opening) c ShortHeader chunk _ e).1

  of_either : (mode : PayloadMode) (t : Bool) → cond t (taken_at (length container) mode c opening) (Ok (Some (chunk_of c opening 0x20 0))) ≡ Ok (Some chunk) → Within container c chunk
  of_either mode true e = of_taken mode e
  of_either mode false e = of_length 0x20 0 (omega arith) (omega arith) (omega arith) (omega arith) e

pub found : (container : List ℕ) (reading : Applied) (c : ℕ) (chunk : Chunk) → chunk_at container reading c ≡ Ok (Some chunk) → Within container c chunk
unfolding chunk_at opened_at
found container reading c chunk e =
    let a = not_over (ltb (length container - c) 4) chunk _ e in
    let b = not_refused (ltb (length container - c) 45) c RanOut chunk _ a.1 in
    of_either container c chunk (ltb-false (length container - c) 45 b.0) reading.payloads (is_taken reading (opening_at container c).kind (opening_at container c).channel) b.1

-- ---- which chunk was found

module _ (container : List ℕ) (mode : PayloadMode) (c : ℕ) (chunk : Chunk) where
  abbrev here : Opening
  here = opening_at container c

  abbrev spare : ℕ
  spare = here.header + here.footer

  made_taken : taken_at (length container) mode c here ≡ Ok (Some chunk) → (chunk_of c here (offset_of mode here) (here.block - spare) ≡ chunk) × (spare ≤ here.block)
  unfolding taken_at held_at
  made_taken e =
      let offset = offset_of mode here in
      let n = here.block - spare in
      let a = not_refused (is_short mode here) c ShortHeader chunk _ e in
      let b = not_refused (ltb here.block spare) c TooSmall chunk _ a.1 in
      let d = not_refused (ltb (length container) (c + offset + n)) c RanOut chunk _ b.1 in
      (cc, ltb-false here.block spare b.0)

  made_skipped : ◌≡◌ {A = Result (Option Chunk) Refusal} (Ok (Some (chunk_of c here 0x20 0))) (Ok (Some chunk)) → chunk_of c here 0x20 0 ≡ chunk
  made_skipped e = cc

-- past both tests of what is left
module _ (container : List ℕ) (reading : Applied) (c : ℕ) (chunk : Chunk) (e : chunk_at container reading c ≡ Ok (Some chunk)) where
  abbrev takes : Bool
  takes = is_taken reading (opening_at container c).kind (opening_at container c).channel

  opened : cond takes (taken_at (length container) reading.payloads c (opening_at container c)) (Ok (Some (chunk_of c (opening_at container c) 0x20 0))) ≡ Ok (Some chunk)
  unfolding chunk_at opened_at
  opened =
      let a = not_over (ltb (length container - c) 4) chunk _ e in
      (not_refused (ltb (length container - c) 45) c RanOut chunk _ a.1).1

  pub found_taken : takes ≡ true
      → (chunk_of c (opening_at container c) (offset_of reading.payloads (opening_at container c)) ((opening_at container c).block - ((opening_at container c).header + (opening_at container c).footer)) ≡ chunk)
      × ((opening_at container c).header + (opening_at container c).footer ≤ (opening_at container c).block)
  found_taken t = made_taken container reading.payloads c chunk (rw t at opened)

  pub found_skipped : takes ≡ false → chunk_of c (opening_at container c) 0x20 0 ≡ chunk
  found_skipped t = made_skipped container reading.payloads c chunk (rw t at opened)

-- ---- why a chunk is refused

-- by 1, 9, or in the second mode 17, and at its start
abbrev pub RefusedThere : PayloadMode → ℕ → Refusal → Type 0
RefusedThere mode c refusal =
    (refusal.place ≡ c) × ((refusal.cause ≡ RanOut) ⊎ ((refusal.cause ≡ TooSmall) ⊎ ((refusal.cause ≡ ShortHeader) × (mode ≡ AfterHeader))))

module _ (mode : PayloadMode) (c : ℕ) (refusal : Refusal) where
  ran_out : refused_at c RanOut ≡ Err refusal → RefusedThere mode c refusal
  ran_out e = (cc, inl cc)

  too_small : refused_at c TooSmall ≡ Err refusal → RefusedThere mode c refusal
  too_small e = (cc, inr (inl cc))

  short_header : refused_at c ShortHeader ≡ Err refusal → mode ≡ AfterHeader → RefusedThere mode c refusal
  short_header e m = (cc, inr (inr (cc, m)))

  found_not : (chunk : Chunk) → Ok (Some chunk) ≡ Err refusal → RefusedThere mode c refusal
  found_not chunk e = let z : ◌≡◌ {A = ℕ} 0 1 = cc in absurd (omega arith)

  over_not : ◌≡◌ {A = Result (Option Chunk) Refusal} (Ok None) (Err refusal) → RefusedThere mode c refusal
  over_not e = let z : ◌≡◌ {A = ℕ} 0 1 = cc in absurd (omega arith)

  by_held : (t u : Bool) (chunk : Chunk) → cond t (refused_at c TooSmall) (cond u (refused_at c RanOut) (Ok (Some chunk))) ≡ Err refusal → RefusedThere mode c refusal
  by_held true u chunk e = too_small e
  by_held false true chunk e = ran_out e
  by_held false false chunk e = found_not chunk e

by_mode : (mode : PayloadMode) (c : ℕ) (refusal : Refusal) (opening : Opening) (next : Result (Option Chunk) Refusal) → (next ≡ Err refusal → RefusedThere mode c refusal)
    → cond (is_short mode opening) (refused_at c ShortHeader) next ≡ Err refusal → RefusedThere mode c refusal
by_mode Original c refusal opening next rest e = rest e
by_mode AfterHeader c refusal opening next rest e = by_test (ltb opening.header 0x18) e
  where
    by_test : (t : Bool) → cond t (refused_at c ShortHeader) next ≡ Err refusal → RefusedThere AfterHeader c refusal
    by_test true e = short_header AfterHeader c refusal e refl
    by_test false e = rest e

by_taken : (mode : PayloadMode) (c : ℕ) (refusal : Refusal) (t : Bool) (next : Result (Option Chunk) Refusal) (chunk : Chunk) → (next ≡ Err refusal → RefusedThere mode c refusal)
    → cond t next (Ok (Some chunk)) ≡ Err refusal → RefusedThere mode c refusal
by_taken mode c refusal true next chunk rest e = rest e
by_taken mode c refusal false next chunk rest e = found_not mode c refusal chunk e

by_left : (mode : PayloadMode) (c : ℕ) (refusal : Refusal) (s t : Bool) (next : Result (Option Chunk) Refusal) → (next ≡ Err refusal → RefusedThere mode c refusal)
    → cond s (Ok None) (cond t (refused_at c RanOut) next) ≡ Err refusal → RefusedThere mode c refusal
by_left mode c refusal true t next rest e = over_not mode c refusal e
by_left mode c refusal false true next rest e = ran_out mode c refusal e
by_left mode c refusal false false next rest e = rest e

pub refused_there : (container : List ℕ) (reading : Applied) (c : ℕ) (refusal : Refusal) → chunk_at container reading c ≡ Err refusal → RefusedThere reading.payloads c refusal
unfolding chunk_at opened_at taken_at held_at
refused_there container reading c refusal e =
    let mode = reading.payloads in
    let opening = opening_at container c in
    let spare = opening.header + opening.footer in
    let offset = offset_of mode opening in
    let n = opening.block - spare in
    by_left mode c refusal (ltb (length container - c) 4) (ltb (length container - c) 45) _
    (by_taken mode c refusal (is_taken reading opening.kind opening.channel) _ (chunk_of c opening 0x20 0)
    (by_mode mode c refusal opening _
    (by_held mode c refusal (ltb opening.block spare) (ltb (length container) (c + offset + n)) (chunk_of c opening offset n)))) e

-- ---- where the chunks are over in one reading, they are in every other

never_over : (taken low small short : Bool) (first second third : Refusal) (chunk other : Chunk)
    → cond taken (cond low (Err first) (cond small (Err second) (cond short (Err third) (Ok (Some chunk))))) (Ok (Some other)) ≡ Ok None → ◌≡◌ {A = ℕ} 0 1
never_over true true small short first second third chunk other e = cc
never_over true false true short first second third chunk other e = cc
never_over true false false true first second third chunk other e = cc
never_over true false false false first second third chunk other e = cc
never_over false low small short first second third chunk other e = cc

opened_is_not_over : (container : List ℕ) (reading : Applied) (c : ℕ) (opening : Opening) → opened_at (length container) reading c opening ≡ Ok None → ◌≡◌ {A = ℕ} 0 1
unfolding opened_at taken_at held_at
opened_is_not_over container reading c opening e =
    let spare = opening.header + opening.footer in
    let mode = reading.payloads in
    let offset = offset_of mode opening in
    let n = opening.block - spare in
    never_over (is_taken reading opening.kind opening.channel) (is_short mode opening) (ltb opening.block spare) (ltb (length container) (c + offset + n))
    (record { cause = ShortHeader; place = c }) (record { cause = TooSmall; place = c }) (record { cause = RanOut; place = c }) (chunk_of c opening offset n) (chunk_of c opening 0x20 0) e

pub over_in_every : (container : List ℕ) (reading other : Applied) (c : ℕ) → chunk_at container reading c ≡ Ok None → chunk_at container other c ≡ Ok None
unfolding chunk_at
over_in_every container reading other c e = by_left (ltb (length container - c) 4) (ltb (length container - c) 45) refl e
  where
    by_left : (s t : Bool) → ltb (length container - c) 4 ≡ s → cond s (Ok None) (cond t (refused_at c RanOut) (opened_at (length container) reading c (opening_at container c))) ≡ Ok None
        → chunk_at container other c ≡ Ok None
    by_left true t q e = rw q
    by_left false true q e = let z : ◌≡◌ {A = ℕ} 0 1 = cc in absurd (omega arith)
    by_left false false q e = absurd (omega (arith, opened_is_not_over container reading c (opening_at container c) e))
