-- Rule O11: from request 1's container to the builder's. "Payloads travel as stored"; the codecs, for which the builder has no place, are left out.
use Rattle.std.specs.Prelude.{ℕ, ◌≡◌, List, cond, length, ltb, Result, Ok}
use Rattle.refusal.specs.declared.Refusal.{Refusal}
use Rattle.refusal.specs.declared.Cause.TheVariants.{TooLong, Foreign}
use Rattle.lent.specs.Written.{written_in, left_by}
use Rattle.write_plan.specs.Planning.{refused_by}
use Rattle.old_film.specs.Films.{old_bytes}
use Rattle.old_film.specs.Finding.{audios_of}
use Rattle.moved_film.specs.Finding.{Parts, parts_of, is_new}

-- what the builder writes from a film's parts
abbrev pub old_of : Parts → List ℕ
old_of parts = old_bytes parts.name parts.read.video (audios_of parts.packing.audio parts.read.audio)

-- "Refusals, after 11: 19 .. a container the move did not write; .. 16". None of the others can arise: the builder's film is never longer than the container, which has at
-- most one audio, no audio codec without it, and no payload that begins with the end marker
unfoldable pub to_old : List ℕ → Result ℕ Refusal
to_old container =
    cond (ltb 0x40000000 (length container)) (refused_by TooLong) (cond (is_new container) (Ok (length (old_of (parts_of container)))) (refused_by Foreign))

-- the answer, and the output after it
abbrev pub ToOld : List ℕ → List ℕ → Result ℕ Refusal → List ℕ → Type 0
ToOld container out r out' = (r ≡ written_in (length out) (to_old container)) × (out' ≡ left_by r out (old_of (parts_of container)))
