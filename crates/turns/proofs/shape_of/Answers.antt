-- `turns::shape_of` meets its contract, form by form. Assumes nothing.
use Rattle.turns.specs.Chunks.{shape_of}
use Rattle.turns.proofs.shape_of.Goals as goal

pub returns-in-Old : goal.returns-in-Old
unfolding shape_of
returns-in-Old c = rw (c.letters_in-letters.ensures, c.number_of.ensures, c.padding.ensures, c.in-Old.is)

pub returns-in-New : goal.returns-in-New
unfolding shape_of
returns-in-New c = rw (c.letters_in-letters.ensures, c.padding-pads.ensures, c.in-New.is)
