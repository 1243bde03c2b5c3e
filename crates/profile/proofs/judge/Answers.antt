-- `profile::judge` meets its contract: what the chunks from here on break is what all of them break. Each chunk leaves fewer bytes. Assumes nothing.
use Rattle.std.proofs.Common.{◌≡◌, Option, None, Ok}
use mathlib.Core.Path.{refl, sym, ap, ◌∙◌}
use native.Mathlib.Omega.{arith}
use Rattle.chunk.specs.declared.Chunk.{Chunk}
use Rattle.chunk.proofs.FoundLaws.{found}
use Rattle.walk.proofs.WalkLaws.{falls}
use Rattle.profile.proofs.JudgeLaws.{none_left, none_read, it-breaks, it-is-plain}
use Rattle.profile.proofs.judge.Goals as goal
use Rattle.profile.proofs.judge.Goals.{in_default, in_default-2}

pub loop-chunk-init : goal.loop-chunk-init
loop-chunk-init c = refl

pub broken_by-verdict-requires : goal.broken_by-verdict-requires
broken_by-verdict-requires c =
    let w = found _ _ _ _ (sym c.chunk_at.ensures ∙ c.in-Ok-Some.is ∙ ap Ok c.in-Ok-Some.field-0-is) in
    omega (arith, w.whole, w.start)

pub returns-then-verdict-ne0 : goal.returns-then-verdict-ne0
returns-then-verdict-ne0 c =
    let e = rw (c.stream_of.ensures, c.read32-letters.ensures.0) at c.broken_by-verdict.ensures in
    e ∙ it-breaks _ _ _ _ _ (sym c.chunk_at.ensures ∙ c.in-Ok-Some.is ∙ ap Ok c.in-Ok-Some.field-0-is) (rw e at c.if-verdict-ne0.true) ∙ c.loop-chunk.invariant

pub loop-chunk-smaller : goal.loop-chunk-smaller
loop-chunk-smaller c =
    falls _ _ _ _ (sym c.chunk_at.ensures ∙ c.in-Ok-Some.is ∙ ap Ok c.in-Ok-Some.field-0-is)

pub loop-chunk-preserved : goal.loop-chunk-preserved
loop-chunk-preserved c =
    let e = rw (c.stream_of.ensures, c.read32-letters.ensures.0) at c.broken_by-verdict.ensures in
    rw (c.after_kind-streams.ensures, c.read32-letters.ensures.0)
    (it-is-plain _ _ _ _ _ (sym c.chunk_at.ensures ∙ c.in-Ok-Some.is ∙ ap Ok c.in-Ok-Some.field-0-is) (rw e at c.if-verdict-ne0.false) ∙ c.loop-chunk.invariant)

pub returns : goal.returns
returns c =
    elim c.match-chunk_at.branch [
      | in_default w ↦
          let none : ◌≡◌ {A = Option Chunk} w.in_default.field-0 None = cc in
          c.missing.ensures ∙ none_left _ _ _ _ (sym c.chunk_at.ensures ∙ w.in_default.is ∙ ap Ok none) ∙ c.loop-chunk.invariant
      | in_default-2 w ↦ c.missing.ensures ∙ none_read _ _ _ _ _ (sym c.chunk_at.ensures ∙ w.in_default.is) ∙ c.loop-chunk.invariant
    ]
