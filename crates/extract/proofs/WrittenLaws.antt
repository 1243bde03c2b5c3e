-- A stream while it is written: what was written, with the pieces of the chunks from here on, is what the whole stream leaves, by the law of `walk` for
-- pieces that are put into an output. A piece is as long as its part of the payload, so it has room where the stream has. Assumes nothing.
use Rattle.std.specs.Prelude.{Some, None, Ok, Err}
use Prim.Native.Nat.{ℕ, ◌+◌, ◌≤◌}
use mathlib.Core.Path.{◌≡◌, sym, ap, ◌∙◌}
use mathlib.Core.List.{List}
use native.Mathlib.Omega.{arith}
use lib.ListN.{length}
use lib.Seq.{sets}
use Rattle.refusal.specs.declared.Refusal.{Refusal}
use Rattle.reading.specs.declared.Applied.{Applied}
use Rattle.chunk.specs.declared.Chunk.{Chunk}
use Rattle.chunk.specs.Chunks.{chunk_at, payload_of}
use Rattle.walk.specs.Walks.{walk_from, size_of}
use Rattle.walk.proofs.PutLaws.{Output, Putting, put_starts, put-length, put-over, put_refused, put-fits, put-found}
use Rattle.extract.proofs.StreamLaws.{Stream, piece_of, stream_from, stream_length}

-- so many bytes of a stream are written, those of the chunks from start up to c
pub record Writing (stream : Stream) (container : List ℕ) (reading : Applied) (start : ℕ) (out₀ : List ℕ) (c written : ℕ) (out : List ℕ) : Type 0 where
  pub putting : Putting (piece_of stream container) container reading start out₀ c written out

module _ (stream : Stream) (container : List ℕ) (reading : Applied) (start : ℕ) (out₀ : List ℕ) where
  pub none_written : Writing stream container reading start out₀ start 0 out₀
  none_written = record { putting = put_starts (piece_of stream container) container reading start out₀ }

  module _ (c written : ℕ) (out : List ℕ) (w : Writing stream container reading start out₀ c written out) where
    pub as_long : length out ≡ length out₀
    as_long = put-length (piece_of stream container) container reading start out₀ c written out w.putting

    pub all_written : chunk_at container reading c ≡ Ok None → out ≡ sets out₀ 0 (stream_from stream container reading start)
    all_written e = ap (λ (o : Output ℕ). o.holds) (put-over (piece_of stream container) container reading start out₀ c written out w.putting e)

    pub all_before_refusal : (refusal : Refusal) → chunk_at container reading c ≡ Err refusal → out ≡ sets out₀ 0 (stream_from stream container reading start)
    all_before_refusal refusal e =
        ap (λ (o : Output ℕ). o.holds) (put_refused (piece_of stream container) container reading start out₀ c written out w.putting refusal e)

    -- a chunk's payload, and the part of it that is the stream's
    module _ (chunk : Chunk) (e : chunk_at container reading c ≡ Ok (Some chunk)) (payload part : List ℕ) (is-payload : payload ≡ payload_of container chunk)
        (is_part : part ≡ stream.part chunk.kind payload) where
      is-piece : stream.clear chunk.data_type part ≡ piece_of stream container chunk
      is-piece = rw (is_part, is-payload)

      long : length part ≡ length (piece_of stream container chunk)
      long = sym (stream.keeps chunk.data_type part) ∙ ap length is-piece

      -- the part has room
      pub room_for : size_of stream.share (walk_from container reading start).chunks ≤ length out₀ → written + length part ≤ length out
      room_for h =
          omega (arith, long, as_long, put-fits (piece_of stream container) container reading start out₀ c written out w.putting chunk e, stream_length stream container reading start)

      pub one-more-written : (out' : List ℕ) → out' ≡ sets out written (stream.clear chunk.data_type part)
          → Writing stream container reading start out₀ chunk.next (written + length part) out'
      one-more-written out' put =
          record {
            putting =
                put-found (piece_of stream container) container reading start out₀ c written out w.putting chunk e (written + length part) out'
                (ap (λ (n : ℕ). written + n) long) (put ∙ ap (sets out written) is-piece);
          }
