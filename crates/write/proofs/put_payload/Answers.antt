-- `write::put_payload` meets its contract: the payload is copied to its place, and masked there. Assumes nothing.
use mathlib.Core.Path.{sym, ap}
use Prim.Native.Nat.{ℕ, ◌+◌}
use Rattle.laws.proofs.LentLaws.{put_changed}
use Rattle.write_plan.specs.Payloads.{stored_as}
use Rattle.write_plan.proofs.PayloadLaws.{stored_length}
use Rattle.write.proofs.put_payload.Goals as goal

pub returns : goal.returns
returns c =
    let a = c.args in
    record {
      ends = sym (ap (λ (n : ℕ). a.at + n) (stored_length a.unmasking a.stream a.payload.now));
      holds = put_changed a.payload.now _ _ _ c.requires c.copy_from_slice.ensures.after (stored_as a.unmasking a.stream) (stored_length a.unmasking a.stream) _ c.mask_payload.ensures;
    }
