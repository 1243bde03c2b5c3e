-- Rules V: what is answered where a table is written as CSV, and what stands in the output then. "Refusals: the table's own, then 16 output too short."
use Rattle.std.specs.Prelude.{ℕ, ◌≡◌, List, [], length, drop, Result, Ok, Err}
use Rattle.refusal.specs.declared.Refusal.{Refusal}
use Rattle.layout.specs.declared.Layout.{Layout}
use Rattle.reading.specs.declared.TableMode.{TableMode}
use Rattle.layout.specs.Layouts.{body_of}
use Rattle.table.specs.Tables.{table_at}
use Rattle.csv_text.specs.Written.{csv_of}
use Rattle.lent.specs.Written.{written_in, left_by}
use Rattle.table_csv.specs.Texts.{texts_of}

abbrev pub texts_in : List ℕ → Result Layout Refusal → List (List (List ℕ))
texts_in t (Ok l) = texts_of (body_of t l) l
texts_in t (Err refusal) = []

-- the texts of the table at a place of a slice, read in mode m
unfoldable pub texts_at : List ℕ → ℕ → TableMode → List (List (List ℕ))
texts_at bytes place m = texts_in (drop place bytes) (table_at bytes place m)

-- what there is to write of a table, or why it is refused
abbrev pub to_write : ℕ → Result Layout Refusal → Result ℕ Refusal
to_write size (Ok l) = Ok size
to_write size (Err refusal) = Err refusal

-- the answer to a writing, and the output after it
abbrev pub WritingOf : List ℕ → Result Layout Refusal → List ℕ → Result ℕ Refusal → List ℕ → Type 0
WritingOf csv table out r out' = (r ≡ written_in (length out) (to_write (length csv) table)) × (out' ≡ left_by r out csv)

abbrev pub Writing : List ℕ → ℕ → TableMode → List ℕ → Result ℕ Refusal → List ℕ → Type 0
Writing bytes place m out r out' = WritingOf (csv_of (texts_at bytes place m)) (table_at bytes place m) out r out'
