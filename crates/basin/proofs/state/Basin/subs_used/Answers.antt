-- `basin::state::Basin::subs_used` meets its contract. Assumes nothing.
use mathlib.Core.Path.{◌∙◌}
use native.Mathlib.Omega.{arith}
use lib.ListN.{take}
use Rattle.std.proofs.Common.{rules, tests}
use Rattle.std.proofs.lemmas.Iterator.{YieldsList-from_slice}
use Rattle.std.proofs.lemmas.Iterator.Search.{all_from_yields_List}
use Rattle.subbasin.specs.Record.{blank_sub, record_in}
use Rattle.basin.specs.Limits.{subs_used}
use Rattle.basin.proofs.limits.LimitsLaws.{all_taken}
use Rattle.basin.proofs.state.Basin.subs_used.Goals as goal

pub returns : goal.returns
unfolding subs_used
returns c =
    all_from_yields_List (record_in c.args.self.now.m) _ _ c.all.result c.all.ensures.ran (YieldsList-from_slice (take c.args.self.now.n c.args.self.now.subs) cc)
    (λ x b q k. search (rules, tests))
    ∙ all_taken (record_in c.args.self.now.m) blank_sub _ _ (omega arith)
