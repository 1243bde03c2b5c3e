-- What can be relied on about the text. Each is proved under the same name in proofs/Promises.antt.
use Rattle.std.specs.Prelude.{ℕ, ◌≤◌, List, length}
use Rattle.chunk.specs.Openings.{Bytes}
use Rattle.chunk_lines.specs.Lines.{text_of}

-- No line is lost: what is printed of any container, which is made of bytes, fits an output of 65,536 bytes.
abbrev pub TextFits : Type 0
TextFits = (container : List ℕ) → Bytes container → length (text_of container) ≤ 65536
