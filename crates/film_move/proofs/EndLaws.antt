-- The ends of request 1's streams are chunks like the others: the first has room, with audio the second has too, and together they are what is put. Assumes nothing.
use Prim.Native.Nat.{ℕ, ◌+◌, ◌≤◌}
use mathlib.Core.Path.{◌≡◌}
use mathlib.Core.List.{List}
use mathlib.Core.Bool.{Bool, true, false}
use lib.ListN.{length}
use Rattle.laws.specs.Outputs.{Put}
use Rattle.laws.proofs.PutLaws.{put_as}
use Rattle.signature.specs.Signatures.{SFV, contents_end}
use Rattle.write_blocks.specs.Blocks.{block_of}
use Rattle.write_blocks.specs.Tables.{marker_of}
use Rattle.write_plan.specs.declared.Stream.{Stream}
use Rattle.write_plan.specs.declared.Stream.TheVariants.{Video, Audio}
use Rattle.write_plan.specs.Films.{bytes_of, in_each}
use Rattle.write.proofs.EachPutLaws.{first_fits, second_fits, both_put, one_put}
use Rattle.turns.specs.declared.Form.TheVariants.{New}
use Rattle.turns.specs.declared.Track.TheVariants as track
use Rattle.turns.specs.Chunks.{chunk_of}
use Rattle.moved_film.proofs.NewLaws.{chunk_new}

abbrev held : Stream → List ℕ
held stream = marker_of contents_end

module _ (out : List ℕ) (at : ℕ) (audio : Bool) (room : at + length (bytes_of (in_each audio held)) ≤ length out) where
  pub video_end_fits : at + length (chunk_of New track.Video 0 (marker_of contents_end)) ≤ length out
  video_end_fits = rw (chunk_new Video 0 (marker_of contents_end)) (first_fits held out at audio room)

  module _ {after : List ℕ} {end : ℕ} (put : Put (chunk_of New track.Video 0 (marker_of contents_end)) out at after end) where
    first : Put (block_of SFV (marker_of contents_end)) out at after end
    first = put_as put (chunk_new Video 0 (marker_of contents_end))

    pub audio_end_fits : audio ≡ true → end + length (chunk_of New (track.Audio 0) 0 (marker_of contents_end)) ≤ length after
    audio_end_fits e = rw (chunk_new Audio 0 (marker_of contents_end)) (second_fits held out at first audio e room)

    pub both_ends : audio ≡ true → {last : List ℕ} {ends : ℕ} → Put (chunk_of New (track.Audio 0) 0 (marker_of contents_end)) after end last ends → Put (bytes_of (in_each audio held)) out at last ends
    both_ends e next = both_put held out at first audio e (put_as next (chunk_new Audio 0 (marker_of contents_end)))

    pub one_end : audio ≡ false → Put (bytes_of (in_each audio held)) out at after end
    one_end e = one_put held out at first audio e
