-- `subbasin::step::pass` meets its contract: the store is inside its limits. Assumes nothing.
use mathlib.Core.Path.{ap}
use native.Mathlib.Omega.{arith}
use Rattle.curve.specs.declared.store.Taken.{Taken}
use Rattle.curve.proofs.capacity.CallLaws.{unwraps, unwrapped}
use Rattle.curve.proofs.store.StoreLaws.{store_takes}
use Rattle.subbasin.proofs.step.OnGroundLaws.{slow_within}
use Rattle.subbasin.proofs.step.pass.Goals as goal

pub unwrap-requires : goal.unwrap-requires
unwrap-requires c = unwraps (ap (λ (t : Taken). t.outflow) (store_takes _ _ (omega (arith, c.requires)) c.take-taken.ensures.answers))

pub returns : goal.returns
returns c =
    let is = store_takes _ _ (omega (arith, c.requires)) c.take-taken.ensures.answers in
    let lets_go = unwrapped (ap (λ (t : Taken). t.outflow) is) c.unwrap.ensures in
    record { holds = ap (λ (t : Taken). t.store.content) is; lets_go = lets_go; within = rw lets_go (slow_within _ _ _) }
