-- No second answer meets a contract of this crate: what a caller learns makes two parts one, their place and their bytes. Assumes nothing.
use Rattle.std.proofs.Common.{◌≡◌, ℕ, List, Bor}
use Rattle.laws.proofs.OneAnswer.{no_second_answer}
use Rattle.part.specs.Parts.{IsPart}
use Rattle.part.proofs.part_at.Reads as part_at

-- two parts in one place of one memory, with the same bytes
abbrev pub SamePart : Bor (List ℕ) → Bor (List ℕ) → Type 0
SamePart r r' = (r.ref_ptr.0 ≡ r'.ref_ptr.0) × (r.ref_ptr.1 ≡ r'.ref_ptr.1) × (r.now ≡ r'.now)

pub one_part : (s : Bor (List ℕ)) (start : ℕ) (bytes : List ℕ) (r r' : Bor (List ℕ)) → IsPart s start bytes r → IsPart s start bytes r' → SamePart r r'
one_part s start bytes r r' l l' = (no_second_answer l.0 l'.0, no_second_answer l.1 l'.1, no_second_answer l.2 l'.2)

pub part_at_once : (κs : _) (args : _) (r r' : _) (exit exit' : _) → part_at.Learnt κs args r exit → part_at.Learnt κs args r' exit' → SamePart r r'
part_at_once κs args r r' exit exit' = one_part args.0 _ _ r r'
