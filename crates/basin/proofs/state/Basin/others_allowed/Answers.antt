-- `basin::state::Basin::others_allowed` meets its contract. Assumes nothing.
use mathlib.Core.Path.{sym, ◌∙◌}
use Rattle.basin.proofs.limits.LimitsLaws.{counts_limits, counts_fail, counts_pass}
use Rattle.basin.proofs.state.Basin.others_allowed.Goals as goal

pub records_allowed-requires : goal.records_allowed-requires
records_allowed-requires c = counts_limits _ _ (sym c.counts_allowed.ensures ∙ c.if-counts_allowed.true)

pub returns-then-counts_allowed : goal.returns-then-counts_allowed
returns-then-counts_allowed c = counts_pass _ c.counts_allowed.ensures c.if-counts_allowed.true c.records_allowed.ensures

pub returns-else-counts_allowed : goal.returns-else-counts_allowed
returns-else-counts_allowed c = counts_fail _ c.counts_allowed.ensures c.if-counts_allowed.false
