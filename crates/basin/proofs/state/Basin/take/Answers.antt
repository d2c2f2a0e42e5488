-- `basin::state::Basin::take` meets its contract. Assumes nothing.
use Rattle.std.proofs.Common.{Ok}
use Rattle.forcing.specs.List.{as_forcing}
use Rattle.basin.proofs.limits.LimitsLaws.{others_counts}
use Rattle.basin.proofs.step.CallLaws.{subs_refuse, flowing, taken_is}
use Rattle.basin.proofs.state.Basin.take.Goals as goal

pub step_subs-requires : goal.step_subs-requires
step_subs-requires c =
    (others_counts _ c.requires.0, c.requires.1)

pub returns-in_err-stepped : goal.returns-in_err-stepped
returns-in_err-stepped c =
    let stepped = c.in_err-stepped.ensures in
    subs_refuse _ _ c.requires.0 stepped.0 stepped.1 _ c.from_residual.ensures

pub route-routed-requires : goal.route-routed-requires
route-routed-requires c = flowing _ (as_forcing (Ok c.args.readings.now)) c.requires.0 c.in_ok-stepped.ensures

pub returns : goal.returns
returns c = taken_is _ _ c.requires.0 c.in_ok-stepped.ensures c.route-routed.ensures
