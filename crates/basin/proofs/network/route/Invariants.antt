-- `basin::network::route` meets its contract: before each turn `Routing` holds. Assumes nothing.
use Rattle.basin.proofs.network.RouteLaws.{Routing}
use Rattle.basin.proofs.network.route.Given as goal

abbrev pub invariant-loop-i : goal.invariant-loop-i
invariant-loop-i l = Routing l.m l.initial.reaches l.initial.pending l.i l.reaches l.pending l.held
