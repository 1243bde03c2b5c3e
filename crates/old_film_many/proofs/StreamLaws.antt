-- All turns of a film with any number of audios, one after the other: what is read so far, with what is read from here on, is all. Assumes nothing.
use Prim.Native.Nat.{ℕ, suc, ◌+◌, ◌-◌, ◌*◌, ◌/◌, ◌^◌, ◌≤◌, ◌<◌}
use mathlib.Core.Path.{◌≡◌, refl, sym, ap, ap₂, ◌∙◌}
use mathlib.Core.List.{List, [], ◌∷◌, map}
use mathlib.Core.Bool.{Bool, true}
use native.Mathlib.Omega.{arith}
use lib.ListN.{length, drop, length-append, length-drop, length-replicate, length-map, replicate}
use lib.Seq.{drop-drop}
use lib.Dec.{eqb}
use Rattle.turns.specs.declared.Form.TheVariants.{Old}
use Rattle.turns.specs.declared.Track.TheVariants.{Video, Audio}
use Rattle.turns.specs.Chunks.{chunk_size, payload_in}
use Rattle.turns.specs.Turns.{goes_on}
use Rattle.turns.proofs.TurnLaws.{size_holds}
use Rattle.old_film_many.specs.declared.Turn.{Turn}
use Rattle.old_film_many.specs.Audios.{payloads_in, sizes_of, seen_from, heard_from, Streams, with_turn, streams_from, streams_in, turn_by, turn_at, sizes_by}
use Rattle.old_film_many.proofs.NextLaws.{Ends}

-- ---- a turn

payloads_length : (from number : ℕ) (goings : List Bool) (bytes : List ℕ) → length (payloads_in from number goings bytes) ≡ length goings
unfolding payloads_in
payloads_length from number [] bytes = refl
payloads_length from number (going ∷ goings) bytes =
    let payload = payload_in Old (Audio number) from going bytes in
    ap suc (payloads_length from (number + 1) goings (drop (chunk_size Old (length payload)) bytes))

module _ (from : ℕ) (seen : Bool) (goings : List Bool) (bytes : List ℕ) (place : ℕ) where
  abbrev v : List ℕ
  v = seen_from from seen (drop place bytes)

  abbrev ps : List (List ℕ)
  ps = heard_from from seen goings (drop place bytes)

  heard_is : payloads_in from 0 goings (drop (place + chunk_size Old (length v)) bytes) ≡ ps
  heard_is = ap (payloads_in from 0 goings) (sym (drop-drop (chunk_size Old (length v)) place bytes))

  pub turn_is : (video start end : ℕ) → video ≡ length v → start ≡ place + chunk_size Old video → end ≡ start + sizes_of (payloads_in from 0 goings (drop start bytes))
      → record { video = video; start = start; end = end } ≡ turn_at from seen goings bytes place
  unfolding turn_at
  turn_is video start end e f g =
      let s : start ≡ place + chunk_size Old (length v) = f ∙ ap (λ (n : ℕ). place + chunk_size Old n) e in
      let d : end ≡ place + chunk_size Old (length v) + sizes_of ps =
      g ∙ ap (λ (n : ℕ). n + sizes_of (payloads_in from 0 goings (drop n bytes))) s ∙ ap (λ (l : List (List ℕ)). place + chunk_size Old (length v) + sizes_of l) heard_is in
      rw (e, s, d)

module _ (from : ℕ) (seen : Bool) (goings : List Bool) (bytes : List ℕ) (place : ℕ) (turn : Turn) (is : turn ≡ turn_at from seen goings bytes place) where
  abbrev w : List ℕ
  w = v from seen goings bytes place

  abbrev qs : List (List ℕ)
  qs = ps from seen goings bytes place

  as_made : turn ≡ turn_by place w qs
  unfolding turn_at
  as_made = is

  video_is : turn.video ≡ length w
  video_is = ap (λ (t : Turn). t.video) as_made

  start_is : turn.start ≡ place + chunk_size Old (length w)
  start_is = ap (λ (t : Turn). t.start) as_made

  end_is : turn.end ≡ place + chunk_size Old (length w) + sizes_of qs
  end_is = ap (λ (t : Turn). t.end) as_made

  pub turn_shows : place + turn.video ≤ turn.end
  turn_shows = omega (arith, video_is, end_is, size_holds Old (length w))

  -- the audios' chunks of the turn
  heard_there : payloads_in from 0 goings (drop turn.start bytes) ≡ qs
  heard_there = ap (λ (n : ℕ). payloads_in from 0 goings (drop n bytes)) start_is ∙ heard_is from seen goings bytes place

  turn_ends : turn.start + sizes_of (payloads_in from 0 goings (drop turn.start bytes)) ≡ turn.end
  turn_ends = ap₂ (λ (n : ℕ) (l : List (List ℕ)). n + sizes_of l) start_is heard_there ∙ sym end_is

  pub turn_next : (going : Bool) → going ≡ eqb turn.video 0x10000 → (video start end : ℕ) → video ≡ length (payload_in Old Video (from + 0x10000) going (drop turn.end bytes))
      → start ≡ turn.end + chunk_size Old video → length goings ≤ 2 ^ 32 → Ends bytes turn.start turn.end start from end
      → record { video = video; start = start; end = end } ≡ turn_at (from + 0x10000) (goes_on w) (map goes_on qs) bytes turn.end
  turn_next going h video start end e f few g =
      turn_is (from + 0x10000) (goes_on w) (map goes_on qs) bytes turn.end video start end
      (e ∙ ap (λ (t : Bool). length (payload_in Old Video (from + 0x10000) t (drop turn.end bytes))) (h ∙ ap (λ (n : ℕ). eqb n 0x10000) video_is)) f
      (g goings few turn_ends ∙ ap (λ (l : List (List ℕ)). start + sizes_of (payloads_in (from + 0x10000) 0 (map goes_on l) (drop start bytes))) heard_there)

  pub turn_read_lem : (n : ℕ) → streams_from (suc n) from seen goings (drop place bytes) ≡ with_turn w qs (streams_from n (from + 0x10000) (goes_on w) (map goes_on qs) (drop turn.end bytes))
  unfolding streams_from
  turn_read_lem n =
      let end : place + (chunk_size Old (length w) + sizes_of qs) ≡ turn.end = omega (arith, end_is) in
      ap (λ (l : List ℕ). with_turn w qs (streams_from n (from + 0x10000) (goes_on w) (map goes_on qs) l))
      (drop-drop (chunk_size Old (length w) + sizes_of qs) place bytes ∙ ap (λ (m : ℕ). drop m bytes) end)

-- ---- all turns

no_turns : (from : ℕ) (seen : Bool) (goings : List Bool) (bytes : List ℕ) → (length (streams_from 0 from seen goings bytes).video ≡ 0) × ((streams_from 0 from seen goings bytes).end ≡ 0)
unfolding streams_from
no_turns from seen goings bytes = (refl, refl)

-- what is read behind a turn that ends at a place
abbrev pub behind : List ℕ → ℕ → Bool → List Bool → ℕ → ℕ → ℕ → Streams
behind bytes from seen goings place end n =
    streams_from n (from + 0x10000) (goes_on (seen_from from seen (drop place bytes))) (map goes_on (heard_from from seen goings (drop place bytes))) (drop end bytes)

pub record StreamsLeft (bytes : List ℕ) (begin count : ℕ) (turn : Turn) (video from left : ℕ) : Type 0 where
  pub seen : Bool
  pub goings : List Bool
  pub place : ℕ
  pub few : length goings ≤ 2 ^ 32
  pub is : turn ≡ turn_at from seen goings bytes place
  pub within : turn.end ≤ length bytes
  pub shown : video ≤ turn.end
  pub ahead : from + left * 0x10000 ≤ length bytes
  pub videos : video + length (behind bytes from seen goings place turn.end left).video ≡ length (streams_in count (drop begin bytes)).video
  pub ends : turn.end + (behind bytes from seen goings place turn.end left).end ≡ begin + (streams_in count (drop begin bytes)).end

module _ (bytes : List ℕ) (begin count : ℕ) where
  pub all_streams : (turn : Turn) → turn ≡ turn_at 0 true (replicate count true) bytes begin → turn.end ≤ length bytes → count ≤ 2 ^ 32
      → StreamsLeft bytes begin count turn turn.video 0 ((length bytes - begin) / 0x10000)
  all_streams turn e h k =
      let goings = replicate count true in
      let n = (length bytes - begin) / 0x10000 in
      let after = behind bytes 0 true goings begin turn.end n in
      let read =
      ap (λ (m : ℕ). streams_from (suc (m / 0x10000)) 0 true goings (drop begin bytes)) (length-drop begin bytes) ∙ turn_read_lem 0 true goings bytes begin turn e n in
      record {
        seen = true;
        goings = goings;
        place = begin;
        few = rw (length-replicate count true) k;
        is = e;
        within = h;
        shown = omega (arith, turn_shows 0 true goings bytes begin turn e);
        ahead = omega arith;
        videos =
            omega (arith, ap (λ (s : Streams). length s.video) read, length-append (seen_from 0 true (drop begin bytes)) after.video, video_is 0 true goings bytes begin turn e);
        ends = omega (arith, ap (λ (s : Streams). s.end) read, end_is 0 true goings bytes begin turn e);
      }

  module _ (turn : Turn) (video from left : ℕ) (l : StreamsLeft bytes begin count turn video from left) (some : 0 < left) (next : Turn) (within : next.end ≤ length bytes)
      (follows : (seen : Bool) (goings : List Bool) (place : ℕ) → length goings ≤ 2 ^ 32 → turn ≡ turn_at from seen goings bytes place
      → next ≡ turn_at (from + 0x10000) (goes_on (seen_from from seen (drop place bytes))) (map goes_on (heard_from from seen goings (drop place bytes))) bytes turn.end) where
    abbrev shows : Bool
    shows = goes_on (seen_from from l.seen (drop l.place bytes))

    abbrev payloads : List (List ℕ)
    payloads = heard_from from l.seen l.goings (drop l.place bytes)

    next_is : next ≡ turn_at (from + 0x10000) shows (map goes_on payloads) bytes turn.end
    next_is = follows l.seen l.goings l.place l.few l.is

    pub next_shows : video + next.video ≤ next.end
    next_shows = omega (arith, l.shown, turn_shows (from + 0x10000) shows (map goes_on payloads) bytes turn.end next next_is)

    pub more_streams : StreamsLeft bytes begin count next (video + next.video) (from + 0x10000) (left - 1)
    more_streams =
        let n = left - 1 in
        let s : left ≡ suc n = omega arith in
        let after = behind bytes (from + 0x10000) shows (map goes_on payloads) turn.end next.end n in
        let read = ap (behind bytes from l.seen l.goings l.place turn.end) s ∙ turn_read_lem (from + 0x10000) shows (map goes_on payloads) bytes turn.end next next_is n in
        record {
          seen = shows;
          goings = map goes_on payloads;
          place = turn.end;
          few = rw (length-map payloads goes_on, payloads_length from 0 l.goings (drop (chunk_size Old (length (seen_from from l.seen (drop l.place bytes)))) (drop l.place bytes))) l.few;
          is = next_is;
          within = within;
          shown = next_shows;
          ahead = omega (arith, l.ahead);
          videos =
              omega (arith, ap (λ (s : Streams). length s.video) read, length-append (seen_from (from + 0x10000) shows (drop turn.end bytes)) after.video, video_is (from + 0x10000) shows (map goes_on payloads) bytes turn.end next next_is, l.videos);
          ends =
              omega (arith, ap (λ (s : Streams). s.end) read, end_is (from + 0x10000) shows (map goes_on payloads) bytes turn.end next next_is, l.ends);
        }

  pub streams_done : (turn : Turn) (video from left : ℕ) → StreamsLeft bytes begin count turn video from left → left ≡ 0
      → (record { video = video; end = turn.end } ≡ sizes_by begin (streams_in count (drop begin bytes))) × (turn.end ≤ length bytes)
  streams_done turn video from left l e =
      let read = ap (behind bytes from l.seen l.goings l.place turn.end) e in
      let none = no_turns (from + 0x10000) (goes_on (seen_from from l.seen (drop l.place bytes))) (map goes_on (heard_from from l.seen l.goings (drop l.place bytes))) (drop turn.end bytes) in
      let vs : video ≡ length (streams_in count (drop begin bytes)).video = omega (arith, ap (λ (s : Streams). length s.video) read, none.0, l.videos) in
      let es : turn.end ≡ begin + (streams_in count (drop begin bytes)).end = omega (arith, ap (λ (s : Streams). s.end) read, none.1, l.ends) in
      (rw (vs, es), l.within)
