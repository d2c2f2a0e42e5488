-- `basin::reach::Reach::is_blank` meets its contract. Assumes nothing.
use mathlib.Core.Path.{◌∙◌}
use Rattle.basin.proofs.reach.ReachLaws.{zeros_blank}
use Rattle.basin.proofs.reach.Reach.is_blank.Goals as goal

pub returns : goal.returns
returns c =
    let z = c.default.ensures in
    c.eq.ensures ∙ rw (z.0, z.1.0, z.1.1.0, z.1.1.1) (zeros_blank _)
