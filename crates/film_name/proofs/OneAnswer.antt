-- No second answer meets a contract of this crate: what a caller learns makes two results one. Assumes nothing.
use Rattle.std.specs.Prelude.{Option, Some, None}
use Prim.Native.Nat.{ℕ}
use mathlib.Core.Path.{◌≡◌}
use mathlib.Core.List.{List}
use denote.Ref.{Bor}
use Rattle.laws.proofs.OneAnswer.{no_second_answer}
use Rattle.part.proofs.OneAnswer.{SamePart, one_part}
use Rattle.film_name.specs.declared.Name.{Name}
use Rattle.film_name.specs.Names.{NameOf}
use Rattle.film_name.proofs.name_in.Reads as name_in
use Rattle.film_name.proofs.name_of.Reads as name_of

pub name_in_once : (κs : _) (args : _) (r r' : _) (exit exit' : _) → name_in.Learnt κs args r exit → name_in.Learnt κs args r' exit' → r ≡ r'
name_in_once κs args r r' exit exit' = no_second_answer

one_name : (container fallback : Bor (List ℕ)) (name : Option Name) (r r' : Bor (List ℕ)) → NameOf container fallback name r → NameOf container fallback name r' → SamePart r r'
one_name container fallback (Some part) r r' = one_part container _ _ r r'
one_name container fallback None r r' = one_part fallback _ _ r r'

pub name_of_once : (κs : _) (args : _) (r r' : _) (exit exit' : _) → name_of.Learnt κs args r exit → name_of.Learnt κs args r' exit' → SamePart r r'
name_of_once κs args r r' exit exit' = one_name args.0 args.1.0 args.1.1.0 r r'
