-- `basin::step::step_subs` meets its contract: before each turn `Stepping` holds. Assumes nothing.
use Rattle.basin.specs.Workers.{subs_only}
use Rattle.basin.proofs.step.SubsLaws.{Stepping}
use Rattle.basin.proofs.step.step_subs.Given as goal

abbrev pub invariant-loop-i : goal.invariant-loop-i
invariant-loop-i l = Stepping (subs_only l.n l.m l.initial.subs) l.weather l.i l.subs l.sent l.rain l.loss l.held
