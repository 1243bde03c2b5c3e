-- A number and its type say the same of a value, and every type takes room. Assumes nothing.
use Rattle.std.proofs.Common.{◌≡◌, ◌<◌, ℕ, zero, suc, Option, Some, None, Result, Ok, Err, refl, ap, ◌∙◌, arith}
use Rattle.refusal.specs.declared.Cause.{Cause}
use Rattle.refusal.specs.declared.Cause.TheVariants.{UnknownType}
use Rattle.cell.specs.Types.{Kind, unknown, width, kind_of, width_of}
use Rattle.cell.specs.ValueTypes.{known, type_by, kind_by}
use Rattle.cell.specs.declared.ValueType.{ValueType}
use Rattle.cell.specs.declared.ValueType.TheVariants.{U8, I8, U16, I16, U32, I32, U64, F32, Text, Blob}

-- what an answer says of a value
abbrev pub kind_in : Result ValueType Cause → Kind
kind_in (Ok value) = kind_by value
kind_in (Err cause) = unknown

pub agree : (k : ℕ) → kind_of k ≡ kind_in (type_by k)
agree zero = refl
agree (suc zero) = refl
agree (suc (suc zero)) = refl
agree (suc (suc (suc zero))) = refl
agree (suc (suc (suc (suc zero)))) = refl
agree (suc (suc (suc (suc (suc zero))))) = refl
agree (suc (suc (suc (suc (suc (suc zero)))))) = refl
agree (suc (suc (suc (suc (suc (suc (suc zero))))))) = refl
agree (suc (suc (suc (suc (suc (suc (suc (suc zero)))))))) = refl
agree (suc (suc (suc (suc (suc (suc (suc (suc (suc zero))))))))) = refl
agree (suc (suc (suc (suc (suc (suc (suc (suc (suc (suc zero)))))))))) = refl
agree (suc (suc (suc (suc (suc (suc (suc (suc (suc (suc (suc zero))))))))))) = refl
agree (suc (suc (suc (suc (suc (suc (suc (suc (suc (suc (suc (suc zero)))))))))))) = refl
agree (suc (suc (suc (suc (suc (suc (suc (suc (suc (suc (suc (suc (suc zero))))))))))))) = refl
agree (suc (suc (suc (suc (suc (suc (suc (suc (suc (suc (suc (suc (suc (suc zero)))))))))))))) = refl
agree (suc (suc (suc (suc (suc (suc (suc (suc (suc (suc (suc (suc (suc (suc (suc zero))))))))))))))) = refl
agree (suc (suc (suc (suc (suc (suc (suc (suc (suc (suc (suc (suc (suc (suc (suc (suc k)))))))))))))))) = refl

room : (value : ValueType) → 0 < width (kind_by value)
room U8 = omega arith
room I8 = omega arith
room U16 = omega arith
room I16 = omega arith
room U32 = omega arith
room I32 = omega arith
room U64 = omega arith
room F32 = omega arith
room Text = omega arith
room Blob = omega arith

module _ (k : ℕ) where
  module _ (value : ValueType) (e : type_by k ≡ Ok value) where
    pub its_kind : kind_of k ≡ kind_by value
    its_kind = agree k ∙ ap kind_in e

    pub takes_room : width_of k ≡ 0 → ⊥
    takes_room h = omega (arith, room value, ap width its_kind)

  module _ (cause : Cause) (e : type_by k ≡ Err cause) where
    pub no_room : width_of k ≡ 0
    no_room = ap width (agree k ∙ ap kind_in e)

    pub its_cause : cause ≡ UnknownType k
    its_cause = go _ e
      where
        go : (o : Option ValueType) → known k o ≡ Err cause → cause ≡ UnknownType k
        go None h = cc
        go (Some value) h = cc
