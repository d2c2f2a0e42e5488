use native.Mathlib.Omega.{arith}
use Rattle.basin.specs.Workers.{subs_only}
use Rattle.basin.proofs.step.SubsLaws.{stepping_begin, stepping_stop, stepping_fits, stepping_turn, stepping_end, refused_so}
use Rattle.basin.proofs.step.step_subs.Goals as goal

pub loop-i-init : goal.loop-i-init
loop-i-init c = stepping_begin (subs_only _ _ _) _ c.requires.0.n_most c.requires.0.m_most (search) c.requires.1

pub returns-in_err-turn : goal.returns-in_err-turn
returns-in_err-turn c =
    let turn = c.in_err-turn.ensures in
    refused_so (subs_only _ _ _) _ _ _ (stepping_stop _ _ c.loop-i.invariant c.loop-i-test.true _ turn.0) turn.1 _ c.from_residual.ensures

pub overflow_add-sent : goal.overflow_add-sent
overflow_add-sent c = omega (arith, (stepping_fits _ _ c.loop-i.invariant c.loop-i-test.true _ _ c.in_ok-turn.ensures).sent_fits)

pub loop-i-preserved : goal.loop-i-preserved
loop-i-preserved c = stepping_turn _ _ c.loop-i.invariant c.loop-i-test.true _ _ c.in_ok-turn.ensures

pub returns : goal.returns
returns c = stepping_end _ _ c.loop-i.invariant (omega arith)
