-- `basin::state::Basin::reaches_used` meets its contract. Assumes nothing.
use mathlib.Core.Path.{◌∙◌}
use Prim.Native.Nat.{ℕ, ◌+◌}
use native.Mathlib.Omega.{arith}
use lib.ListN.{take}
use Rattle.std.proofs.Common.{rules, tests}
use Rattle.std.proofs.lemmas.Iterator.{YieldsList-from_slice}
use Rattle.std.proofs.lemmas.Iterator.Consumers.{YieldsList-from_enumerate}
use Rattle.std.proofs.lemmas.Iterator.Search.{all_from_yields_List}
use Rattle.basin.specs.declared.reach.Reach.{Reach}
use Rattle.basin.specs.Reach.{reach_in, blank_reach}
use Rattle.basin.specs.Limits.{reaches_used}
use Rattle.basin.proofs.limits.LimitsLaws.{all_numbered}
use Rattle.basin.proofs.state.Basin.reaches_used.Goals as goal

pub returns : goal.returns
unfolding reaches_used
returns c =
    let b = c.args.self.now in
    all_from_yields_List (λ (t : ℕ × Reach). reach_in b.m (t.0 + 1) t.1) _ _ c.all.result c.all.ensures.ran
    (YieldsList-from_enumerate (YieldsList-from_slice (take b.m b.reaches) (rw c.enumerate.ensures.source c.iter.ensures.rest)) c.enumerate.ensures.count)
    (λ x y q k. search (rules, tests))
    ∙ all_numbered (reach_in b.m) blank_reach b.reaches b.m (omega arith)
