-- The promise of specs/Promises.antt, under its name: what was written is read byte by byte. Assumes nothing.
use Rattle.csv_text.specs.Promises as promised
use Rattle.csv_text.proofs.ReadLaws.{csv_read}

pub FieldsReadBack : promised.FieldsReadBack
FieldsReadBack = csv_read
