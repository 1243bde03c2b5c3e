-- The promises of specs/Promises.antt, each under its name. The lines are those of the tenants in rising order, so what is known of groups and shares is
-- known of the lines. Assumes nothing.
use Rattle.std.specs.Prelude.{Option, Result, Ok, Err}
use Rattle.refusal.specs.declared.Refusal.{Refusal}
use Prim.Native.Nat.{ℕ, ◌+◌, ◌≤◌, ◌<◌}
use mathlib.Core.Path.{◌≡◌, refl, sym, ap, ap₂, ◌∙◌}
use mathlib.Core.Bool.{Bool, true, false, cond}
use mathlib.Core.List.{List, [], ◌∷◌, map}
use native.Mathlib.Omega.{arith}
use lib.ListN.{length, get_or}
use lib.Dec.{ltb, eqb}
use Rattle.refusal.specs.declared.Cause.TheVariants.{TooLong, BadTenants}
use Rattle.reading.specs.declared.AudioChoice.TheVariants.{Chosen}
use Rattle.reading.specs.Choices.{as_original}
use Rattle.film.specs.Films.{Film, film, refused}
use Rattle.extract.specs.declared.Contents.{Contents}
use Rattle.extract.proofs.ResultLaws.{both_hold}
use Rattle.extract.proofs.Promises.{SizesAreTheStreams}
use Rattle.film.specs.Films.{survey_of}
use Rattle.walk.specs.Walks.{video_size, audio_size}
use Rattle.list.specs.Listing.{list_reply, filled_by}
use Rattle.list.proofs.PastLaws.{past_count}
use Rattle.key_shown.specs.KeyBits.{shown_bits}
use Rattle.key_shown.proofs.Promises.{SameStreamsExactlyWhenBitsAgree}
use Rattle.tenants.specs.Tenants.{number_in, key_in, repeated, are_bad}
use Rattle.tenants.specs.Shares.{share_of, group_of, line_of, line_at}
use Rattle.tenants.proofs.CountLaws.{perm_length}
use Rattle.tenants.proofs.RisingLaws.{distinct, rising, perm_rising, rising_rises, one_tenant}
use Rattle.tenants.proofs.GroupLaws.{one_group, of_one_group, none_lower, lowest_there}
use Rattle.tenants.proofs.Promises.{GoodExactlyWhenDifferent}
use Rattle.tenants.proofs.SumLaws.{total, group_total, shares_near, shares_fall}
use Rattle.tenants.proofs.OrderLaws.{perm_bad, perm_lines}
use Rattle.statement.specs.Statements.{film_in, refused_by, stated_in, stated_of, copy_of, lines_of}
use Rattle.statement.specs.Promises as promised
use Rattle.statement.specs.Promises.{tenant_in, group_in, share_in, lines_given, borne_by, Unpacked}
use Rattle.statement.proofs.GivenLaws.{shown_here, size_here, no_two, given, its_tenant, its_line, map_at, map_length, places_rise, last_false, all_passed, lines_long, passed}
use Rattle.statement.proofs.OrderLaws.{every_key, in_order}

-- ---- groups

-- the fields of a line
module _ (bits size : ℕ) (tenants : List (List ℕ)) (t line : List ℕ) (e : line_of bits size tenants t ≡ line) where
  tenant_field : tenant_in line ≡ number_in t
  unfolding line_of
  tenant_field = ap tenant_in (sym e)

  group_field : group_in line ≡ group_of bits tenants t
  unfolding line_of
  group_field = ap group_in (sym e)

  share_field : share_in line ≡ share_of bits size tenants t
  unfolding line_of
  share_field = ap share_in (sym e)

pub OneGroupExactlyWhenStreamsAgree : promised.OneGroupExactlyWhenStreamsAgree
OneGroupExactlyWhenStreamsAgree container tenants lines lines' r tenant other line line' video audio video_after audio_after video_after' audio_after' contents contents' a m l q m' l' q' e e' =
    let bits = shown_here container tenants lines lines' r a in
    let size = size_here container tenants lines lines' r a in
    let d = no_two container tenants lines lines' r a in
    let of = its_tenant container tenants lines lines' r a line l in
    let of' = its_tenant container tenants lines lines' r a line' l' in
    let t : of.0 ≡ tenant = one_tenant tenants d of.1 m (sym (tenant_field bits size tenants of.0 line of.2) ∙ q) in
    let t' : of'.0 ≡ other = one_tenant tenants d of'.1 m' (sym (tenant_field bits size tenants of'.0 line' of'.2) ∙ q') in
    let g : group_in line ≡ group_of bits tenants tenant = group_field bits size tenants of.0 line of.2 ∙ ap (group_of bits tenants) t in
    let g' : group_in line' ≡ group_of bits tenants other = group_field bits size tenants of'.0 line' of'.2 ∙ ap (group_of bits tenants) t' in
    let streams = SameStreamsExactlyWhenBitsAgree container (as_original Chosen) (key_in tenant) (key_in other) video audio video_after audio_after video_after' audio_after' contents contents' e e' in (
      λ same. streams.0 (of_one_group bits tenants m m' d (sym g ∙ same ∙ g')),
      λ same. g ∙ one_group bits tenants m m' (streams.1 same) ∙ sym g',
    )

-- ---- lines

pub EveryTenantHasALine : promised.EveryTenantHasALine
EveryTenantHasALine container tenants lines lines' r a =
    let bits = shown_here container tenants lines lines' r a in
    let size = size_here container tenants lines lines' r a in (
      ap length (given container tenants lines lines' r a) ∙ map_length (line_of bits size tenants) (rising tenants) ∙ sym (perm_length (perm_rising tenants)),
      λ tenant m. (line_of bits size tenants tenant, its_line container tenants lines lines' r a tenant m, tenant_field bits size tenants tenant (line_of bits size tenants tenant) refl),
    )

pub LinesRise : promised.LinesRise
LinesRise container tenants lines lines' r a i j h k =
    let bits = shown_here container tenants lines lines' r a in
    let size = size_here container tenants lines lines' r a in
    let l = rising tenants in
    let long = perm_length (perm_rising tenants) in
    let line-at : (n : ℕ) → n < length tenants → tenant_in (get_or (lines_given r lines') n []) ≡ number_in (get_or l n []) =
    λ n p.
    ap (λ (g : List (List ℕ)). tenant_in (get_or g n [])) (given container tenants lines lines' r a)
    ∙ tenant_field bits size tenants (get_or l n []) (get_or (map (line_of bits size tenants) l) n []) (sym (map_at (line_of bits size tenants) l n (omega arith))) in
    let rise = places_rise 0 l (rising_rises tenants (no_two container tenants lines lines' r a)) i j h (omega arith) in
    omega (arith, rise, line-at i (omega arith), line-at j k)

-- ---- shares

sum_of : (bits size group : ℕ) (tenants l : List (List ℕ))
    → borne_by group (map (line_of bits size tenants) l) ≡ total (λ u. cond (eqb (group_of bits tenants u) group) (share_of bits size tenants u) 0) l
unfolding borne_by total line_of
sum_of bits size group tenants [] = refl
sum_of bits size group tenants (t ∷ l) =
    ap (λ (n : ℕ). cond (eqb (group_of bits tenants t) group) (share_of bits size tenants t) 0 + n) (sum_of bits size group tenants l)

-- the size of a copy is what extraction says of both streams
copy_size : (container : List ℕ) (key : Option ℕ) (video audio video_after audio_after : List ℕ) (contents : Contents) → Unpacked container key video audio contents video_after audio_after
    → copy_of (film_in container) ≡ contents.video_size + contents.audio_size
copy_size container key video audio video_after audio_after contents e = by_film (film_in container) refl
  where
    by_film : (f : Film) → film_in container ≡ f → copy_of (film_in container) ≡ contents.video_size + contents.audio_size
    by_film (film header applied chunks) f =
        let hold = both_hold container (as_original Chosen) header applied chunks f key video audio video_after audio_after contents e in
        let sizes = rw f at (SizesAreTheStreams container (as_original Chosen) key header applied (length chunks) (video_size chunks) (audio_size chunks) (ap survey_of f)) in
        ap copy_of f ∙ ap₂ (λ (m n : ℕ). m + n) (sym sizes.0 ∙ hold.0.long) (sym sizes.1 ∙ hold.1.long)
    by_film (refused refusal) f =
        let q : Ok contents ≡ Err refusal = rw f at e.0 in
        let z : ◌≡◌ {A = ℕ} 0 1 = cc in
        absurd (omega arith)

pub SharesSumToTheCopy : promised.SharesSumToTheCopy
SharesSumToTheCopy container tenants lines lines' r line key video audio video_after audio_after contents a l e =
    let bits = shown_here container tenants lines lines' r a in
    let size = size_here container tenants lines lines' r a in
    let of = its_tenant container tenants lines lines' r a line l in
    ap₂ borne_by (group_field bits size tenants of.0 line of.2) (given container tenants lines lines' r a)
    ∙ sum_of bits size (group_of bits tenants of.0) tenants (rising tenants)
    ∙ group_total bits size tenants (no_two container tenants lines lines' r a) of.1
    ∙ copy_size container key video audio video_after audio_after contents e

pub SharesDifferByOneAtMost : promised.SharesDifferByOneAtMost
SharesDifferByOneAtMost container tenants lines lines' r line line' a l l' g =
    let bits = shown_here container tenants lines lines' r a in
    let size = size_here container tenants lines lines' r a in
    let of = its_tenant container tenants lines lines' r a line l in
    let of' = its_tenant container tenants lines lines' r a line' l' in
    rw (share_field bits size tenants of.0 line of.2, share_field bits size tenants of'.0 line' of'.2)
    (shares_near bits size tenants (no_two container tenants lines lines' r a) of.1 of'.1
    (sym (group_field bits size tenants of.0 line of.2) ∙ g ∙ group_field bits size tenants of'.0 line' of'.2))

pub LargerSharesToTheLowest : promised.LargerSharesToTheLowest
LargerSharesToTheLowest container tenants lines lines' r line line' a l l' g h =
    let bits = shown_here container tenants lines lines' r a in
    let size = size_here container tenants lines lines' r a in
    let of = its_tenant container tenants lines lines' r a line l in
    let of' = its_tenant container tenants lines lines' r a line' l' in
    rw (share_field bits size tenants of.0 line of.2, share_field bits size tenants of'.0 line' of'.2)
    (shares_fall bits size tenants (no_two container tenants lines lines' r a) of.1 of'.1
    (sym (group_field bits size tenants of.0 line of.2) ∙ g ∙ group_field bits size tenants of'.0 line' of'.2)
    (omega (arith, h, tenant_field bits size tenants of.0 line of.2, tenant_field bits size tenants of'.0 line' of'.2)))

-- ---- the order, and refusals

-- the list after an answer, where the lines are the same unless the tenants are bad
same_filled : (long bad : Bool) (room count : ℕ) (f : Film) (list all all' : List (List ℕ)) → (bad ≡ false → all ≡ all')
    → filled_by (cond long (refused_by TooLong) (cond bad (refused_by BadTenants) (stated_in room count f))) list all
    ≡ filled_by (cond long (refused_by TooLong) (cond bad (refused_by BadTenants) (stated_in room count f))) list all'
same_filled true bad room count f list all all' e = refl
same_filled false true room count f list all all' e = refl
same_filled false false room count f list all all' e = ap (filled_by (stated_in room count f) list) (e refl)

pub OrderMovesNoLine : promised.OrderMovesNoLine
OrderMovesNoLine container tenants tenants' lines lines_after lines_after' r r' p e e' =
    let f = film_in container in
    let long = ltb 0x40000000 (length container) in
    let same : stated_of container tenants (length lines) ≡ stated_of container tenants' (length lines) =
    ap₂ (λ (bad : Bool) (n : ℕ). cond long (refused_by TooLong) (cond bad (refused_by BadTenants) (stated_in (length lines) n f))) (perm_bad p) (perm_length p) in
    let lines_same : are_bad tenants ≡ false → lines_of f tenants ≡ lines_of f tenants' =
    λ good. perm_lines p (shown_bits f) (copy_of f) (distinct tenants (last_false (eqb (length tenants) 0) (ltb 16 (length tenants)) (repeated tenants) good)) in (
      e.0 ∙ ap list_reply same ∙ sym e'.0,
      e.1 ∙ same_filled long (are_bad tenants) (length lines) (length tenants) f lines (lines_of f tenants) (lines_of f tenants') lines_same
          ∙ ap (λ (answer : Result ℕ Refusal). filled_by answer lines (lines_of f tenants')) same ∙ sym e'.1,
    )

left : (answer : Result ℕ Refusal) (list all : List (List ℕ)) → ((list_reply answer).number ≡ 0 → ⊥) → filled_by answer list all ≡ list
left (Ok n) list all h = absurd (h refl)
left (Err refusal) list all h = refl

pub RefusalsLeaveTheLines : promised.RefusalsLeaveTheLines
RefusalsLeaveTheLines container tenants lines lines' r e h =
    rw e.1 (left (stated_of container tenants (length lines)) lines (lines_of (film_in container) tenants) (rw e.0 at h))

-- a count is that of the lines, and has room
all_lines : (container : List ℕ) (tenants lines : List (List ℕ)) (n : ℕ) → stated_of container tenants (length lines) ≡ Ok n
    → (length (lines_of (film_in container) tenants) ≡ n) × (n ≤ length lines)
all_lines container tenants lines n e =
    let f = film_in container in
    let all = all_passed (ltb 0x40000000 (length container)) (are_bad tenants) (length lines) (length tenants) n f e in
    (lines_long (line_at (shown_bits f) (copy_of f) tenants) 0 (length tenants) ∙ sym all.1, omega (arith, all.1, all.2))

pub LinesPastTheCountStay : promised.LinesPastTheCountStay
LinesPastTheCountStay container tenants lines lines' r e =
    rw (e.0, e.1) (past_count lines (lines_of (film_in container) tenants) (stated_of container tenants (length lines)) (all_lines container tenants lines))

-- ---- whose statement it is

pub GroupIsItsLowest : promised.GroupIsItsLowest
GroupIsItsLowest container tenants lines lines' r line a l =
    let bytes = shown_here container tenants lines lines' r a in
    let size = size_here container tenants lines lines' r a in
    let d = no_two container tenants lines lines' r a in
    let of = its_tenant container tenants lines lines' r a line l in
    let g = group_field bytes size tenants of.0 line of.2 in
    let low = lowest_there bytes tenants d of.1 in
    let its = line_of bytes size tenants low.0 in (
      λ line' l' same.
          let of' = its_tenant container tenants lines lines' r a line' l' in
          let g' = group_field bytes size tenants of'.0 line' of'.2 in
          rw (g, tenant_field bytes size tenants of'.0 line' of'.2) (none_lower bytes tenants d of.1 of'.1 (sym g' ∙ same ∙ g)),
      (its, its_line container tenants lines lines' r a low.0 low.1, group_field bytes size tenants low.0 its refl ∙ low.2 ∙ sym g, tenant_field bytes size tenants low.0 its refl ∙ low.3 ∙ sym g),
    )

pub AnsweredAreOneToSixteen : promised.AnsweredAreOneToSixteen
AnsweredAreOneToSixteen container tenants lines lines' r a = (GoodExactlyWhenDifferent tenants).0 (passed container tenants lines lines' r a).0

pub EveryKeyUnpacks : promised.EveryKeyUnpacks
EveryKeyUnpacks = every_key

pub RefusalsInOrder : promised.RefusalsInOrder
RefusalsInOrder = in_order
