-- The blocks of audios, one after the other, and how many there are. Assumes nothing.
use Prim.Native.Nat.{ℕ, zero, suc, ◌+◌, ◌-◌, ◌*◌, ◌^◌, ◌≤◌, ◌<◌}
use mathlib.Core.Path.{◌≡◌, refl, sym, ap, ap₂, ◌∙◌}
use mathlib.Core.List.{List, [], ◌∷◌, ◌++◌, append_assoc}
use mathlib.Core.Bool.{Bool, true, false, ◌&&◌}
use native.Mathlib.Omega.{arith}
use lib.ListN.{length, drop, length-append, length-drop}
use lib.Seq.{drop-drop, drop_at}
use lib.Dec.{ltb}
use borrow.Author.Tests.{ltb-true, ltb-false}
use Rattle.signature.specs.Signatures.{SFA, same_bytes, stands_at}
use Rattle.word.specs.Bytes.{bytes32}
use Rattle.turns.proofs.FrontLaws.{front, stands_front, front_append, front_self, stands_then, front_fits, both_true}
use Rattle.old_film.specs.Blocks.{old_head, table_block}
use Rattle.old_film.specs.Tables.{old_audio}
use Rattle.old_film.specs.Films.{audio_blocks}
use Rattle.old_film_many.specs.Audios.{count_from, count_in}

abbrev block : ℕ → List ℕ
block number = table_block SFA (old_audio number)

block_length : (number : ℕ) → length (block number) ≡ 0x60
unfolding table_block old_audio old_head
block_length number = refl

-- ---- counting

-- one block more, or none
module _ (n number : ℕ) (bytes : List ℕ) where
  count_some : stands_at (block number) bytes 0 ≡ true → count_from (suc n) number bytes ≡ suc (count_from n (number + 1) (drop 0x60 bytes))
  unfolding count_from
  count_some e = rw e

  count_none : stands_at (block number) bytes 0 ≡ false → count_from (suc n) number bytes ≡ 0
  unfolding count_from
  count_none e = rw e

count_zero : (number : ℕ) (bytes : List ℕ) → count_from 0 number bytes ≡ 0
unfolding count_from
count_zero number bytes = refl

pub stands_here : (marker bytes : List ℕ) (place : ℕ) → stands_at marker bytes place ≡ stands_at marker (drop place bytes) 0
stands_here marker bytes place = stands_front marker bytes place ∙ sym (stands_front marker (drop place bytes) 0)

-- whether there is an audio of this number, where the blocks begin at a place
abbrev pub is_there : List ℕ → ℕ → ℕ → Bool
is_there bytes place count = ltb count (2 ^ 32) && stands_at (block count) bytes (place + count * 0x60)

module _ (bytes : List ℕ) (place : ℕ) where
  pub record CountLeft (count : ℕ) : Type 0 where
    pub few : count ≤ 2 ^ 32
    pub within : 0 < count → place + count * 0x60 ≤ length bytes
    pub rest : count + count_from (2 ^ 32 - count) count (drop (place + count * 0x60) bytes) ≡ count_in (drop place bytes)

  pub all_counted : CountLeft 0
  all_counted =
      let here : place + 0 * 0x60 ≡ place = omega arith in
      record { few = omega arith; within = λ some. absurd (omega arith); rest = ap (λ (p : ℕ). 0 + count_from (2 ^ 32) 0 (drop p bytes)) here ∙ omega arith }

  pub there_fits : (count : ℕ) → is_there bytes place count ≡ true → count < 2 ^ 32
  there_fits count e = ltb-true count (2 ^ 32) (both_true (ltb count (2 ^ 32)) (stands_at (block count) bytes (place + count * 0x60)) e).0

  module _ (count : ℕ) (l : CountLeft count) where
    abbrev here : List ℕ
    here = drop (place + count * 0x60) bytes

    pub count_more : is_there bytes place count ≡ true → CountLeft (count + 1)
    count_more e =
        let fits = there_fits count e in
        let n = 2 ^ 32 - (count + 1) in
        let some : 2 ^ 32 - count ≡ suc n = omega arith in
        let after : place + count * 0x60 + 0x60 ≡ place + (count + 1) * 0x60 = omega arith in
        let stands = (both_true (ltb count (2 ^ 32)) (stands_at (block count) bytes (place + count * 0x60)) e).1 in
        let next : count_from (2 ^ 32 - count) count here ≡ suc (count_from n (count + 1) (drop (place + (count + 1) * 0x60) bytes)) =
        ap (λ (m : ℕ). count_from m count here) some ∙ count_some n count here (sym (stands_here (block count) bytes (place + count * 0x60)) ∙ stands)
        ∙ ap (λ (r : List ℕ). suc (count_from n (count + 1) r)) (drop-drop 0x60 (place + count * 0x60) bytes ∙ ap (λ (m : ℕ). drop m bytes) after) in
        record {
          few = omega arith;
          within = λ more. omega (arith, front_fits (block count) here (sym (stands_front (block count) bytes (place + count * 0x60)) ∙ stands), block_length count, length-drop (place + count * 0x60) bytes);
          rest = omega (arith, next, l.rest);
        }

    -- behind the last block
    over : (n : ℕ) → n ≡ 2 ^ 32 - count → (t u : Bool) → ltb count (2 ^ 32) ≡ t → stands_at (block count) here 0 ≡ u → (t && u) ≡ false → count_from n count here ≡ 0
    over zero h t u e f g = count_zero count here
    over (suc n) h true false e f g = count_none n count here f
    over (suc n) h true true e f g = let z : ◌≡◌ {A = ℕ} 0 1 = cc in absurd (omega arith)
    over (suc n) h false u e f g = absurd (omega (arith, ltb-false count (2 ^ 32) e))

    pub count_done : is_there bytes place count ≡ false
        → (count ≡ count_in (drop place bytes)) × (count ≤ 2 ^ 32) × (0 < count → place + count * 0x60 ≤ length bytes)
    count_done e =
        let none =
        over (2 ^ 32 - count) refl (ltb count (2 ^ 32)) (stands_at (block count) bytes (place + count * 0x60)) refl (sym (stands_here (block count) bytes (place + count * 0x60))) e in
        (omega (arith, none, l.rest), l.few, l.within)

-- ---- as many as were counted stand there

pub blocks_length : (number : ℕ) (audios : List (List ℕ)) → length (audio_blocks number audios) ≡ length audios * 0x60
unfolding audio_blocks
blocks_length number [] = refl
blocks_length number (audio ∷ audios) =
    length-append (block number) (audio_blocks (number + 1) audios) ∙ omega (arith, block_length number, blocks_length (number + 1) audios)

none_stand : (number : ℕ) (bytes : List ℕ) (audios : List (List ℕ)) → length audios ≡ 0 → stands_at (audio_blocks number audios) bytes 0 ≡ true
unfolding audio_blocks same_bytes
none_stand number bytes [] e = stands_front [] bytes 0
none_stand number bytes (audio ∷ audios) e = absurd (omega arith)

some_stand : (number : ℕ) (bytes : List ℕ) (audios : List (List ℕ)) (k : ℕ) → length audios ≡ suc k → stands_at (block number) bytes 0 ≡ true
    → ((others : List (List ℕ)) → length others ≡ k → stands_at (audio_blocks (number + 1) others) (drop 0x60 bytes) 0 ≡ true) → stands_at (audio_blocks number audios) bytes 0 ≡ true
unfolding audio_blocks
some_stand number bytes [] k e f g = absurd (omega arith)
some_stand number bytes (audio ∷ audios) k e f g =
    stands_then (block number) (audio_blocks (number + 1) audios) bytes 0
    ∙ ap₂ (λ (t u : Bool). t && u) f
    (ap (λ (m : ℕ). stands_at (audio_blocks (number + 1) audios) bytes (0 + m)) (block_length number) ∙ stands_here (audio_blocks (number + 1) audios) bytes 0x60
    ∙ g audios (omega arith))

pub blocks_stand : (n number : ℕ) (bytes : List ℕ) (audios : List (List ℕ)) → length audios ≡ count_from n number bytes → stands_at (audio_blocks number audios) bytes 0 ≡ true
blocks_stand zero number bytes audios e = none_stand number bytes audios (e ∙ count_zero number bytes)
blocks_stand (suc n) number bytes audios e =
    pick (stands_at (block number) bytes 0) refl (λ others. blocks_stand n (number + 1) (drop 0x60 bytes) others) where
      pick : (t : Bool) → stands_at (block number) bytes 0 ≡ t
          → ((others : List (List ℕ)) → length others ≡ count_from n (number + 1) (drop 0x60 bytes) → stands_at (audio_blocks (number + 1) others) (drop 0x60 bytes) 0 ≡ true)
          → stands_at (audio_blocks number audios) bytes 0 ≡ true
      pick true f g = some_stand number bytes audios (count_from n (number + 1) (drop 0x60 bytes)) (e ∙ count_some n number bytes f) f g
      pick false f g = none_stand number bytes audios (e ∙ count_none n number bytes f)

-- ---- blocks that are written are counted

-- no block of an audio stands at the front
abbrev pub NoBlock : List ℕ → Type 0
NoBlock rest = (number : ℕ) → stands_at (block number) rest 0 ≡ false

pub no_letters : (rest : List ℕ) → front (bytes32 SFA) rest ≡ false → NoBlock rest
unfolding table_block old_head
no_letters rest e number =
    stands_front (block number) rest 0 ∙ front_append (bytes32 SFA) (drop 4 (block number)) rest ∙ ap (λ (t : Bool). t && front (drop 4 (block number)) (drop 4 rest)) e

pub count_back : (n number : ℕ) (audios : List (List ℕ)) (rest : List ℕ) → length audios ≤ n → NoBlock rest → count_from n number (audio_blocks number audios ++ rest) ≡ length audios
unfolding audio_blocks
count_back zero number [] rest h none = count_zero number rest
count_back (suc n) number [] rest h none = count_none n number rest (none number)
count_back zero number (audio ∷ audios) rest h none = absurd (omega arith)
count_back (suc n) number (audio ∷ audios) rest h none =
    let others = audio_blocks (number + 1) audios ++ rest in
    ap (count_from (suc n) number) (append_assoc (block number) (audio_blocks (number + 1) audios) rest)
    ∙ count_some n number (block number ++ others) (stands_front (block number) (block number ++ others) 0 ∙ front_self (block number) others)
    ∙ ap (λ (l : List ℕ). suc (count_from n (number + 1) l)) (drop_at (block number) others 0x60 (block_length number))
    ∙ ap suc (count_back n (number + 1) audios rest (omega arith) none)
