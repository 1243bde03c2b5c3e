-- No second answer meets a contract of this crate: what a caller learns makes two results, and two outputs or lists at exit, one. Assumes nothing.
use mathlib.Core.Path.{◌≡◌, refl}
use base.Logic.{emp}
use contract.Lifetimes.{Lfts}
use denote.Triple.Clauses.{AtExit}
use borrow.Fn.Claims.{AllOf}
use borrow.Fn.Read.{Read, all_models, no_know, r_last}
use borrow.Fn.World.{World, Pr, ArgsD, ResD}
use Rattle.laws.proofs.OneAnswer.{no_second_answer}
use Rattle.usm_c.proofs.usm_table.Reads as usm-table
use Rattle.usm_c.proofs.usm_cell.Reads as usm-cell
use Rattle.usm_c.proofs.usm_extract.Reads as usm-extract
use Rattle.usm_c.specs.contracts.usm_list as usm-list
use Rattle.usm_c.proofs.jumps.usm_index.Reads as usm-index
use Rattle.usm_c.proofs.jumps.usm_seek.Reads as usm-seek
use Rattle.usm_c.proofs.profiles.usm_profile.Reads as usm-profile
use Rattle.usm_c.proofs.profiles.usm_profile_begin.Reads as usm-profile-begin
use Rattle.usm_c.proofs.profiles.usm_profile_step.Reads as usm-profile-step
use Rattle.usm_c.proofs.profiles.usm_profile_end.Reads as usm-profile-end
use Rattle.usm_c.proofs.writing.usm_write.Reads as usm-write
use Rattle.usm_c.proofs.moving.usm_from_old.Reads as usm-from-old
use Rattle.usm_c.proofs.moving.usm_to_old.Reads as usm-to-old
use Rattle.usm_c.proofs.salvaging.usm_salvage.Reads as usm-salvage
use Rattle.usm_c.proofs.tables.usm_csv.Reads as usm-csv
use Rattle.usm_c.proofs.tables.usm_column.Reads as usm-column
use Rattle.usm_c.proofs.tables.usm_cell_at.Reads as usm-cell-at
use Rattle.usm_c.proofs.stating.usm_statement.Reads as usm-statement
use Rattle.usm_c.proofs.stating.usm_statement_by.Reads as usm-statement-by
use Rattle.usm_c.proofs.partings.usm_apart.Reads as usm-apart
use Rattle.usm_c.proofs.partings.usm_payload_apart.Reads as usm-payload-apart
use Rattle.usm_c.proofs.partings.usm_why.Reads as usm-why
use Rattle.usm_c.proofs.keys.usm_key_bits.Reads as usm-key-bits
use Rattle.usm_c.proofs.keys.usm_payload_bits.Reads as usm-payload-bits
use Rattle.usm_c.proofs.stepping.usm_open.Reads as usm-open
use Rattle.usm_c.proofs.stepping.usm_header_tables.Reads as usm-header-tables
use Rattle.usm_c.proofs.stepping.usm_step.Reads as usm-step
use Rattle.usm_c.proofs.stepping.usm_clear.Reads as usm-clear
use Rattle.usm_c.proofs.stepping.usm_clear_piece.Reads as usm-clear-piece
use Rattle.usm_c.proofs.putting.usm_write_open.Reads as usm-write-open
use Rattle.usm_c.proofs.putting.usm_write_chunk.Reads as usm-write-chunk
use Rattle.usm_c.proofs.putting.usm_write_payload.Reads as usm-write-payload
use Rattle.usm_c.proofs.putting.usm_write_end.Reads as usm-write-end

pub usm_table_once : (κs : _) (args : _) (r r' : _) (exit exit' : _) → usm-table.Learnt κs args r exit → usm-table.Learnt κs args r' exit' → r ≡ r'
usm_table_once κs args r r' exit exit' = no_second_answer

pub usm_cell_once : (κs : _) (args : _) (r r' : _) (exit exit' : _) → usm-cell.Learnt κs args r exit → usm-cell.Learnt κs args r' exit' → r ≡ r'
usm_cell_once κs args r r' exit exit' = no_second_answer

pub usm_extract_once : (κs : _) (args : _) (r r' : _) (exit exit' : _) → usm-extract.Learnt κs args r exit → usm-extract.Learnt κs args r' exit'
    → (r ≡ r') × (exit.1.1.1.1.0.now ≡ exit'.1.1.1.1.0.now) × (exit.1.1.1.1.1.0.now ≡ exit'.1.1.1.1.1.0.now)
usm_extract_once κs args r r' exit exit' l l' = (no_second_answer l.0 l'.0, no_second_answer l.1.1 l'.1.1, no_second_answer l.1.2 l'.1.2)

pub usm_write_once : (κs : _) (args : _) (r r' : _) (exit exit' : _) → usm-write.Learnt κs args r exit → usm-write.Learnt κs args r' exit'
    → (r ≡ r') × (exit.1.1.1.1.0.now ≡ exit'.1.1.1.1.0.now)
usm_write_once κs args r r' exit exit' l l' = (no_second_answer l.0 l'.0, no_second_answer l.1 l'.1)

pub usm_from_old_once : (κs : _) (args : _) (r r' : _) (exit exit' : _) → usm-from-old.Learnt κs args r exit → usm-from-old.Learnt κs args r' exit'
    → (r ≡ r') × (exit.1.1.0.now ≡ exit'.1.1.0.now)
usm_from_old_once κs args r r' exit exit' l l' = (no_second_answer l.0 l'.0, no_second_answer l.1 l'.1)

pub usm_to_old_once : (κs : _) (args : _) (r r' : _) (exit exit' : _) → usm-to-old.Learnt κs args r exit → usm-to-old.Learnt κs args r' exit'
    → (r ≡ r') × (exit.1.0.now ≡ exit'.1.0.now)
usm_to_old_once κs args r r' exit exit' l l' = (no_second_answer l.0 l'.0, no_second_answer l.1 l'.1)

pub usm_salvage_once : (κs : _) (args : _) (r r' : _) (exit exit' : _) → usm-salvage.Learnt κs args r exit → usm-salvage.Learnt κs args r' exit' → r ≡ r'
usm_salvage_once κs args r r' exit exit' = no_second_answer

pub usm_csv_once : (κs : _) (args : _) (r r' : _) (exit exit' : _) → usm-csv.Learnt κs args r exit → usm-csv.Learnt κs args r' exit'
    → (r ≡ r') × (exit.1.1.1.0.now ≡ exit'.1.1.1.0.now)
usm_csv_once κs args r r' exit exit' l l' = (no_second_answer l.0 l'.0, no_second_answer l.1 l'.1)

pub usm_statement_once : (κs : _) (args : _) (r r' : _) (exit exit' : _) → usm-statement.Learnt κs args r exit → usm-statement.Learnt κs args r' exit'
    → (r ≡ r') × (exit.1.1.0.now ≡ exit'.1.1.0.now)
usm_statement_once κs args r r' exit exit' l l' = (no_second_answer l.0 l'.0, no_second_answer l.1 l'.1)

-- Of a function over a slice of structs no `Reads` is made. What a caller learns of it is read off its contract here, in the same way.
module _ (κs : Lfts 2) (args : ArgsD usm-list.signature κs) (r : ResD usm-list.signature κs) (exit : AtExit usm-list.ended κs) where
  abbrev pub Ensured : (w : World) → Pr w
  Ensured w = (usm-list.clauses w.𝓛 w.𝓜.mem w.𝓡.run κs args).ensures tt r exit

  abbrev pub reading : Read (λ w. emp w.𝓤) no_know Ensured
  reading = all_models Ensured (λ w. r_last _) (λ w. refl) (λ w. refl) (λ w. refl)

  abbrev pub ListLearnt : Type 0
  ListLearnt = AllOf reading.tells

pub usm_list_once : (κs : _) (args : _) (r r' : _) (exit exit' : _) → ListLearnt κs args r exit → ListLearnt κs args r' exit'
    → (r ≡ r') × (exit.1.1.0.now ≡ exit'.1.1.0.now)
usm_list_once κs args r r' exit exit' l l' = (no_second_answer l.0 l'.0, no_second_answer l.1 l'.1)

pub usm_index_once : (κs : _) (args : _) (r r' : _) (exit exit' : _) → usm-index.Learnt κs args r exit → usm-index.Learnt κs args r' exit'
    → (r ≡ r') × (exit.1.0.now ≡ exit'.1.0.now)
usm_index_once κs args r r' exit exit' l l' = (no_second_answer l.0 l'.0, no_second_answer l.1 l'.1)

pub usm_seek_once : (κs : _) (args : _) (r r' : _) (exit exit' : _) → usm-seek.Learnt κs args r exit → usm-seek.Learnt κs args r' exit' → r ≡ r'
usm_seek_once κs args r r' exit exit' = no_second_answer

pub usm_profile_once : (κs : _) (args : _) (r r' : _) (exit exit' : _) → usm-profile.Learnt κs args r exit → usm-profile.Learnt κs args r' exit' → r ≡ r'
usm_profile_once κs args r r' exit exit' = no_second_answer

pub usm_profile_begin_once : (κs : _) (args : _) (r r' : _) (exit exit' : _) → usm-profile-begin.Learnt κs args r exit → usm-profile-begin.Learnt κs args r' exit' → r ≡ r'
usm_profile_begin_once κs args r r' exit exit' = no_second_answer

pub usm_profile_step_once : (κs : _) (args : _) (r r' : _) (exit exit' : _) → usm-profile-step.Learnt κs args r exit → usm-profile-step.Learnt κs args r' exit' → r ≡ r'
usm_profile_step_once κs args r r' exit exit' = no_second_answer

pub usm_profile_end_once : (κs : _) (args : _) (r r' : _) (exit exit' : _) → usm-profile-end.Learnt κs args r exit → usm-profile-end.Learnt κs args r' exit' → r ≡ r'
usm_profile_end_once κs args r r' exit exit' = no_second_answer

pub usm_key_bits_once : (κs : _) (args : _) (r r' : _) (exit exit' : _) → usm-key-bits.Learnt κs args r exit → usm-key-bits.Learnt κs args r' exit' → r ≡ r'
usm_key_bits_once κs args r r' exit exit' = no_second_answer

pub usm_open_once : (κs : _) (args : _) (r r' : _) (exit exit' : _) → usm-open.Learnt κs args r exit → usm-open.Learnt κs args r' exit' → r ≡ r'
usm_open_once κs args r r' exit exit' = no_second_answer

pub usm_header_tables_once : (κs : _) (args : _) (r r' : _) (exit exit' : _) → usm-header-tables.Learnt κs args r exit → usm-header-tables.Learnt κs args r' exit' → r ≡ r'
usm_header_tables_once κs args r r' exit exit' = no_second_answer

pub usm_step_once : (κs : _) (args : _) (r r' : _) (exit exit' : _) → usm-step.Learnt κs args r exit → usm-step.Learnt κs args r' exit' → r ≡ r'
usm_step_once κs args r r' exit exit' = no_second_answer

pub usm_clear_once : (κs : _) (args : _) (r r' : _) (exit exit' : _) → usm-clear.Learnt κs args r exit → usm-clear.Learnt κs args r' exit' → exit.1.1.0.now ≡ exit'.1.1.0.now
usm_clear_once κs args r r' exit exit' = no_second_answer

pub usm_clear_piece_once : (κs : _) (args : _) (r r' : _) (exit exit' : _) → usm-clear-piece.Learnt κs args r exit → usm-clear-piece.Learnt κs args r' exit'
    → (r ≡ r') × (exit.1.1.1.1.1.0.now ≡ exit'.1.1.1.1.1.0.now)
usm_clear_piece_once κs args r r' exit exit' l l' = (no_second_answer l.0 l'.0, no_second_answer l.1 l'.1)

pub usm_payload_bits_once : (κs : _) (args : _) (r r' : _) (exit exit' : _) → usm-payload-bits.Learnt κs args r exit → usm-payload-bits.Learnt κs args r' exit' → r ≡ r'
usm_payload_bits_once κs args r r' exit exit' = no_second_answer

pub usm_statement_by_once : (κs : _) (args : _) (r r' : _) (exit exit' : _) → usm-statement-by.Learnt κs args r exit → usm-statement-by.Learnt κs args r' exit'
    → (r ≡ r') × (exit.1.1.1.0.now ≡ exit'.1.1.1.0.now)
usm_statement_by_once κs args r r' exit exit' l l' = (no_second_answer l.0 l'.0, no_second_answer l.1 l'.1)

pub usm_apart_once : (κs : _) (args : _) (r r' : _) (exit exit' : _) → usm-apart.Learnt κs args r exit → usm-apart.Learnt κs args r' exit' → r ≡ r'
usm_apart_once κs args r r' exit exit' = no_second_answer

pub usm_payload_apart_once : (κs : _) (args : _) (r r' : _) (exit exit' : _) → usm-payload-apart.Learnt κs args r exit → usm-payload-apart.Learnt κs args r' exit' → r ≡ r'
usm_payload_apart_once κs args r r' exit exit' = no_second_answer

pub usm_why_once : (κs : _) (args : _) (r r' : _) (exit exit' : _) → usm-why.Learnt κs args r exit → usm-why.Learnt κs args r' exit' → r ≡ r'
usm_why_once κs args r r' exit exit' = no_second_answer

pub usm_column_once : (κs : _) (args : _) (r r' : _) (exit exit' : _) → usm-column.Learnt κs args r exit → usm-column.Learnt κs args r' exit' → r ≡ r'
usm_column_once κs args r r' exit exit' = no_second_answer

pub usm_cell_at_once : (κs : _) (args : _) (r r' : _) (exit exit' : _) → usm-cell-at.Learnt κs args r exit → usm-cell-at.Learnt κs args r' exit' → r ≡ r'
usm_cell_at_once κs args r r' exit exit' = no_second_answer

pub usm_write_open_once : (κs : _) (args : _) (r r' : _) (exit exit' : _) → usm-write-open.Learnt κs args r exit → usm-write-open.Learnt κs args r' exit'
    → (r ≡ r') × (exit.1.1.1.1.0.now ≡ exit'.1.1.1.1.0.now)
usm_write_open_once κs args r r' exit exit' l l' = (no_second_answer l.0 l'.0, no_second_answer l.1 l'.1)

pub usm_write_chunk_once : (κs : _) (args : _) (r r' : _) (exit exit' : _) → usm-write-chunk.Learnt κs args r exit → usm-write-chunk.Learnt κs args r' exit'
    → (r ≡ r') × (exit.1.1.1.1.0.now ≡ exit'.1.1.1.1.0.now)
usm_write_chunk_once κs args r r' exit exit' l l' = (no_second_answer l.0 l'.0, no_second_answer l.1 l'.1)

pub usm_write_payload_once : (κs : _) (args : _) (r r' : _) (exit exit' : _) → usm-write-payload.Learnt κs args r exit → usm-write-payload.Learnt κs args r' exit'
    → (r ≡ r') × (exit.1.1.0.now ≡ exit'.1.1.0.now)
usm_write_payload_once κs args r r' exit exit' l l' = (no_second_answer l.0 l'.0, no_second_answer l.1 l'.1)

pub usm_write_end_once : (κs : _) (args : _) (r r' : _) (exit exit' : _) → usm-write-end.Learnt κs args r exit → usm-write-end.Learnt κs args r' exit'
    → (r ≡ r') × (exit.1.0.now ≡ exit'.1.0.now)
usm_write_end_once κs args r r' exit exit' l l' = (no_second_answer l.0 l'.0, no_second_answer l.1 l'.1)
