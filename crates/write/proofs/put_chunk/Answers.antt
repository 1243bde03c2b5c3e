-- `write::put_chunk` meets its contract: its head, the payload as it is stored, and its padding. Assumes nothing.
use mathlib.Core.Path.{sym}
use Rattle.write_plan.specs.Payloads.{stored_as}
use Rattle.write_plan.specs.Films.{letters_of}
use Rattle.write_plan.proofs.PayloadLaws.{stored_length}
use Rattle.write.proofs.BlockPutLaws.{head_fits, inside_fits, padding-fits, block-put}
use Rattle.write.proofs.put_chunk.Goals as goal

pub put_head-at-requires : goal.put_head-at-requires
put_head-at-requires c =
    (head_fits (letters_of c.args.stream) (stored_as c.args.unmasking c.args.stream c.args.payload.now) c.args.out.now _ _ (sym (stored_length c.args.unmasking c.args.stream c.args.payload.now)) c.requires.0, c.requires.1)

pub put_payload-at-requires : goal.put_payload-at-requires
put_payload-at-requires c =
    rw (stored_length c.args.unmasking c.args.stream c.args.payload.now) at (inside_fits (letters_of c.args.stream) (stored_as c.args.unmasking c.args.stream c.args.payload.now) c.args.out.now _ _ (sym (stored_length c.args.unmasking c.args.stream c.args.payload.now)) c.requires.0 (rw c.letters_of.ensures at c.put_head-at.ensures))

pub put_padding-requires : goal.put_padding-requires
put_padding-requires c =
    padding-fits (letters_of c.args.stream) (stored_as c.args.unmasking c.args.stream c.args.payload.now) c.args.out.now _ _ (sym (stored_length c.args.unmasking c.args.stream c.args.payload.now)) c.requires.0 (rw c.letters_of.ensures at c.put_head-at.ensures) c.put_payload-at.ensures

pub returns : goal.returns
returns c =
    block-put (letters_of c.args.stream) (stored_as c.args.unmasking c.args.stream c.args.payload.now) c.args.out.now _ _ (sym (stored_length c.args.unmasking c.args.stream c.args.payload.now)) c.requires.0 (rw c.letters_of.ensures at c.put_head-at.ensures) c.put_payload-at.ensures c.put_padding.ensures
