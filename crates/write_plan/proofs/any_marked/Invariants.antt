-- `write_plan::any_marked` meets its contract: the payloads that are left have the answer of all. Assumes nothing.
use Rattle.std.proofs.Common.{◌≡◌}
use Rattle.std.specs.Slice.Iter.{chunks_rest, chunks_size}
use Rattle.write_plan.specs.Payloads.{payloads_of}
use Rattle.write_plan.specs.Planning.{any_marked}
use Rattle.write_plan.proofs.any_marked.Given as goal

abbrev pub invariant-loop-payload : goal.invariant-loop-payload
invariant-loop-payload l =
    record {
      size : chunks_size l.payload-iterator ≡ 0x10000;
      left : any_marked (payloads_of (chunks_rest l.payload-iterator)) ≡ any_marked (payloads_of l.stream);
    }
