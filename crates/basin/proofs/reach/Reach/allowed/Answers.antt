-- `basin::reach::Reach::allowed` meets its contract. Assumes nothing.
use mathlib.Core.Path.{◌∙◌}
use Rattle.basin.proofs.reach.ReachLaws.{words_outside, words_inside}
use Rattle.basin.proofs.reach.Reach.allowed.Goals as goal

pub returns-then-is_none : goal.returns-then-is_none
returns-then-is_none c =
    let first = c.first_outside.ensures in
    words_inside _ _ _ _ first.answers first.one_of_its_words (c.if-is_none.ensures)

pub returns-else-is_none : goal.returns-else-is_none
returns-else-is_none c =
    let first = c.first_outside.ensures in
    c.if-is_none.false ∙ words_outside _ _ _ _ first.answers first.one_of_its_words (c.if-is_none.ensures)
