-- `basin::step::take_turn` meets its contract. Assumes nothing.
use native.Mathlib.Omega.{arith}
use Rattle.std.proofs.Common.{refl}
use Rattle.std.proofs.lemmas.Result.{err_from_is_err_and}
use Rattle.basin.proofs.step.TurnLaws.{reach_outside, turn_refused, turn_fits, turn_accepted}
use Rattle.basin.proofs.step.take_turn.Goals as goal

pub returns-then-m-reach : goal.returns-then-m-reach
returns-then-m-reach c = (reach_outside _ _ c.args.w c.if-m-reach.true, refl)

pub returns-in_err-flows : goal.returns-in_err-flows
returns-in_err-flows c =
    let p = err_from_is_err_and c.from_residual.result c.from_residual.ensures.1 in
    rw (p.1, p.2) (turn_refused _ _ _ c.requires _ _ c.step_with.ensures c.in_err-flows.ensures)

pub overflow_mul-result : goal.overflow_mul-result
overflow_mul-result c = omega (arith, turn_fits _ _ _ c.requires _ c.if-m-reach.false _ _ c.step_with.ensures c.in_ok-flows.ensures)

pub overflow_add-result : goal.overflow_add-result
overflow_add-result c = omega (arith, turn_fits _ _ _ c.requires _ c.if-m-reach.false _ _ c.step_with.ensures c.in_ok-flows.ensures)

pub overflow_add-result-2 : goal.overflow_add-result-2
overflow_add-result-2 c = omega (arith, turn_fits _ _ _ c.requires _ c.if-m-reach.false _ _ c.step_with.ensures c.in_ok-flows.ensures)

pub overflow_mul-result-2 : goal.overflow_mul-result-2
overflow_mul-result-2 c = omega (arith, turn_fits _ _ _ c.requires _ c.if-m-reach.false _ _ c.step_with.ensures c.in_ok-flows.ensures)

pub returns : goal.returns
returns c = turn_accepted _ _ _ c.requires _ c.if-m-reach.false _ _ c.step_with.ensures c.in_ok-flows.ensures c.water.ensures
