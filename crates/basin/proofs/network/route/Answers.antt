use native.Mathlib.Omega.{arith}
use Rattle.basin.proofs.network.RouteLaws.{routing_begin, passing_here, next_here, sent_fits, held_fits, routing_turn, routing_end}
use Rattle.basin.proofs.network.route.Goals as goal

pub loop-i-init : goal.loop-i-init
loop-i-init c = routing_begin _ _ _ c.requires (search) (search)

pub pass-out-requires : goal.pass-out-requires
pass-out-requires c = passing_here _ _ _ c.loop-i.invariant c.loop-i-test.true _

pub bounds-pending-r : goal.bounds-pending-r
bounds-pending-r c = next_here _ _ _ c.loop-i.invariant c.loop-i-test.true _ c.pass-out.ensures

pub offset_bounds-pending-r : goal.offset_bounds-pending-r
offset_bounds-pending-r c = omega (arith, bounds-pending-r c)

pub overflow_add-pending-in-loop-i : goal.overflow_add-pending-in-loop-i
overflow_add-pending-in-loop-i c = omega (arith, sent_fits _ _ _ c.loop-i.invariant c.loop-i-test.true _ c.pass-out.ensures)

pub bounds-pending-r-in-loop-i : goal.bounds-pending-r-in-loop-i
bounds-pending-r-in-loop-i c = next_here _ _ _ c.loop-i.invariant c.loop-i-test.true _ c.pass-out.ensures

pub overflow_add-held : goal.overflow_add-held
overflow_add-held c = omega (arith, held_fits _ _ _ c.loop-i.invariant c.loop-i-test.true _ c.pass-out.ensures)

pub loop-i-preserved : goal.loop-i-preserved
loop-i-preserved c = routing_turn _ _ _ c.loop-i.invariant c.loop-i-test.true _ c.pass-out.ensures

pub returns : goal.returns
returns c = routing_end _ _ _ c.loop-i.invariant (omega arith)
