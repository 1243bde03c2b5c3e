-- `chunk::kind_of` meets its contract: the marker is tested first, then the letters. Assumes nothing.
use mathlib.Core.Path.{sym, ◌∙◌}
use Rattle.chunk.proofs.CaseLaws.{marked, video, audio, other}
use Rattle.chunk.proofs.kind_of.Goals as goal

pub returns-then-is_end : goal.returns-then-is_end
returns-then-is_end c = marked _ _ (sym c.is_end.ensures ∙ c.if-is_end.true)

pub returns-then-letters-eq-SFV : goal.returns-then-letters-eq-SFV
returns-then-letters-eq-SFV c =
    video _ _ (sym c.is_end.ensures ∙ c.if-is_end.false) _ c.read32-letters.ensures.0 c.if-letters-eq-SFV.true

pub returns-then-letters-eq-SFA : goal.returns-then-letters-eq-SFA
returns-then-letters-eq-SFA c =
    audio _ _ (sym c.is_end.ensures ∙ c.if-is_end.false) _ c.read32-letters.ensures.0 c.if-letters-eq-SFV.false c.if-letters-eq-SFA.true

pub returns : goal.returns
returns c =
    other _ _ (sym c.is_end.ensures ∙ c.if-is_end.false) _ c.read32-letters.ensures.0 c.if-letters-eq-SFV.false c.if-letters-eq-SFA.false
