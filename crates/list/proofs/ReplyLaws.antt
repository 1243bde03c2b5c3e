-- A reply whose number is 0 is that of a count: every cause of a refusal has another number. Assumes nothing.
use Rattle.std.specs.Prelude.{ℕ, Result, Ok, Err}
use Rattle.refusal.specs.declared.Refusal.{Refusal}
use mathlib.Core.Path.{◌≡◌, refl}
use native.Mathlib.Omega.{arith}
use Rattle.refusal.specs.declared.Cause.{Cause}
use Rattle.refusal.specs.declared.Cause.TheVariants as cause
use Rattle.refusal.specs.Numbers.{number_of}
use Rattle.list.specs.Listing.{list_reply}

pub numbered : (why : Cause) → number_of why ≡ 0 → ⊥
numbered cause.RanOut e = omega arith
numbered cause.NoFilm e = omega arith
numbered cause.NoTable e = omega arith
numbered cause.NoVideo e = omega arith
numbered cause.NoAudio e = omega arith
numbered cause.NoHeaderEnd e = omega arith
numbered cause.NoMetadataEnd e = omega arith
numbered (cause.UnknownType kind) e = omega arith
numbered cause.TooSmall e = omega arith
numbered cause.TooMany e = omega arith
numbered cause.TooLong e = omega arith
numbered (cause.ShortOutput video audio) e = omega arith
numbered (cause.ShortList count) e = omega arith
numbered cause.MarkedPayload e = omega arith
numbered (cause.ShortRoom size) e = omega arith
numbered cause.ShortHeader e = omega arith
numbered cause.UnknownStorage e = omega arith
numbered cause.Foreign e = omega arith
numbered cause.ManyAudios e = omega arith
numbered cause.NoBeginning e = omega arith
numbered cause.BadTenants e = omega arith
numbered cause.CodecAlone e = omega arith

pub counted : (answer : Result ℕ Refusal) → (list_reply answer).number ≡ 0 → answer ≡ Ok (list_reply answer).count
counted (Ok n) e = refl
counted (Err refusal) e = absurd (numbered refusal.cause e)
