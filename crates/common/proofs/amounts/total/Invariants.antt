-- `common::amounts::total` meets its contract. Assumes nothing.
use Rattle.common.proofs.amounts.AmountLaws.{Totalling}
use Rattle.common.proofs.amounts.total.Given as goal

abbrev pub invariant-loop-x : goal.invariant-loop-x
invariant-loop-x l = Totalling l.xs l.x-index l.all
