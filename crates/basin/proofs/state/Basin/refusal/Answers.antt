-- `basin::state::Basin::refusal` meets its contract: once the sub-basins in use are judged, all of 9 is. Assumes nothing.
use mathlib.Core.Path.{sym, ◌∙◌}
use Rattle.basin.proofs.limits.LimitsLaws.{others_counts, basin_used}
use Rattle.basin.proofs.step.CallLaws.{nine_told}
use Rattle.basin.proofs.state.Basin.refusal.Goals as goal

pub subs_used-requires : goal.subs_used-requires
subs_used-requires c = others_counts _ c.requires

pub returns-then-subs_used : goal.returns-then-subs_used
returns-then-subs_used c = sym (rw (basin_used _ c.requires ∙ sym c.subs_used.ensures ∙ c.if-subs_used.true))

pub returns : goal.returns
returns c =
    nine_told c.args.self.now c.into.ensures
    ∙ sym (rw (basin_used _ c.requires ∙ sym c.subs_used.ensures ∙ c.if-subs_used.false))
