-- `basin::state::Basin::reaches_blank` meets its contract. Assumes nothing.
use mathlib.Core.Path.{◌∙◌}
use Prim.Native.Nat.{◌-◌}
use native.Mathlib.Omega.{arith}
use lib.ListN.{take, drop, length-drop}
use Rattle.std.proofs.Common.{rules, tests}
use Rattle.std.proofs.lemmas.Iterator.{YieldsList-from_slice}
use Rattle.std.proofs.lemmas.Iterator.Search.{all_from_yields_List}
use Rattle.basin.specs.Reach.{is_blank_reach, blank_reach}
use Rattle.basin.specs.State.{most_reaches}
use Rattle.basin.specs.Limits.{reaches_blank}
use Rattle.basin.proofs.limits.LimitsLaws.{all_left}
use Rattle.basin.proofs.state.Basin.reaches_blank.Goals as goal

pub returns : goal.returns
unfolding reaches_blank
returns c =
    let m = c.args.self.now.m in
    let reaches = c.args.self.now.reaches in
    all_from_yields_List is_blank_reach _ _ c.all.result c.all.ensures.ran (YieldsList-from_slice (take (most_reaches - m) (drop m reaches)) c.iter.ensures.rest)
    (λ x b q k. search (rules, tests))
    ∙ all_left is_blank_reach blank_reach reaches m (most_reaches - m) (omega (arith, length-drop m reaches))
