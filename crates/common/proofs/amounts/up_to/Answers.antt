-- `common::amounts::up_to` meets its contract. Assumes nothing.
use Rattle.std.proofs.Common.{rules, tests, ◌∙◌, leb}
use Rattle.std.proofs.lemmas.Iterator.{YieldsList-from_slice}
use Rattle.std.proofs.lemmas.Iterator.Adapters.{YieldsList-from_skip}
use Rattle.std.proofs.lemmas.Iterator.Search.{all_from_yields_List}
use Rattle.common.proofs.amounts.AmountLaws.{all_listed}
use Rattle.common.proofs.amounts.up_to.Goals as goal

pub returns : goal.returns
returns c =
    all_from_yields_List (λ x. leb x c.args.bound) _ _ _ c.all.ensures.ran
    (YieldsList-from_skip c.args.from (YieldsList-from_slice c.args.xs.now cc) cc)
    (λ x b q k. search (rules, tests))
    ∙ all_listed _ _
