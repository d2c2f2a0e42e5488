use Rattle.common.proofs.amounts.AmountLaws.{total_begin, total_turn, total_end}
use Rattle.common.proofs.amounts.total.Goals as goal

pub loop-x-init : goal.loop-x-init
loop-x-init c = total_begin

pub loop-x-preserved : goal.loop-x-preserved
loop-x-preserved c = total_turn c.loop-x.invariant c.loop-x-test.true c.saturating_add-all.ensures

pub returns : goal.returns
returns c = total_end c.loop-x.invariant c.loop-x-test.false
