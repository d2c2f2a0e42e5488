-- `basin::state::Basin::subs_blank` meets its contract. Assumes nothing.
use mathlib.Core.Path.{◌∙◌}
use Prim.Native.Nat.{◌-◌}
use native.Mathlib.Omega.{arith}
use lib.ListN.{take, drop, length-drop}
use Rattle.std.proofs.Common.{rules, tests}
use Rattle.std.proofs.lemmas.Iterator.{YieldsList-from_slice}
use Rattle.std.proofs.lemmas.Iterator.Search.{all_from_yields_List}
use Rattle.subbasin.specs.Record.{is_blank, blank_sub}
use Rattle.basin.specs.State.{most_subs}
use Rattle.basin.specs.Limits.{subs_blank}
use Rattle.basin.proofs.limits.LimitsLaws.{all_left}
use Rattle.basin.proofs.state.Basin.subs_blank.Goals as goal

pub returns : goal.returns
unfolding subs_blank
returns c =
    let n = c.args.self.now.n in
    let subs = c.args.self.now.subs in
    all_from_yields_List is_blank _ _ c.all.result c.all.ensures.ran (YieldsList-from_slice (take (most_subs - n) (drop n subs)) c.iter.ensures.rest)
    (λ x b q k. search (rules, tests))
    ∙ all_left is_blank blank_sub subs n (most_subs - n) (omega (arith, length-drop n subs))
