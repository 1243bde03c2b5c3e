-- `chunk_lines::put_chunks` meets its contract: with the lines of the chunks from here on put after it, what stands there is the text of all chunks.
-- Each chunk leaves fewer bytes, and the lines of a container of at most 16,384 bytes are short enough that no place wraps. Assumes nothing.
use Prim.Native.Nat.{◌-◌}
use lib.ListN.{length}
use Rattle.walk.proofs.PutLaws.{Putting}
use Rattle.chunk_lines.specs.Lines.{line_of}
use Rattle.chunk_lines.proofs.put_chunks.Given as goal

abbrev pub invariant-loop-chunk : goal.invariant-loop-chunk
invariant-loop-chunk l = Putting line_of l.container l.reading l.place l.initial.out l.at l.end l.out

abbrev pub decreases-loop-chunk : goal.decreases-loop-chunk
decreases-loop-chunk l = length l.container - l.at
