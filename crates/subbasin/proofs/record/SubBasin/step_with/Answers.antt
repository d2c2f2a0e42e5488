-- `subbasin::record::SubBasin::step_with` meets its contract: the step on the ground is the call's. Assumes nothing.
use mathlib.Core.Path.{sym, ◌∙◌}
use Rattle.subbasin.proofs.step.CallLaws.{called, ground_in, ground_steps}
use Rattle.subbasin.proofs.record.SubBasin.step_with.Goals as goal

pub rain_on-stages-requires : goal.rain_on-stages-requires
rain_on-stages-requires c = ground_in _ _ c.snow-snow.ensures (sym c.accepts.ensures ∙ c.if-not-accepts.false)

pub route-requires : goal.route-requires
route-requires c = (called _ _ (ground_in _ _ c.snow-snow.ensures (sym c.accepts.ensures ∙ c.if-not-accepts.false))).allowed

pub returns : goal.returns
returns c =
    c.route.ensures ∙ c.rain_on-stages.ensures ∙ ground_steps _ _ c.snow-snow.ensures (sym c.accepts.ensures ∙ c.if-not-accepts.false)
