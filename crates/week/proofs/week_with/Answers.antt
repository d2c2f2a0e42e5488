use Rattle.std.proofs.Common.{ap, ◌∙◌, arith}
use Rattle.basin.proofs.step.JudgedLaws.{err_keeps}
use Rattle.basin.proofs.week.WeekLaws.{count_in}
use Rattle.std.specs.declared.slice.ChunksExact.{ChunksExact}
use Rattle.forcing.specs.declared.list.Line.{Line}
use Rattle.week.proofs.GoingLaws.{default_week, going_begun, going_few, going_count, going_fits, going_on, going_stopped, going_end, going_refused}
use Rattle.week.proofs.week_with.Goals as goal

pub returns-in-Err : goal.returns-in-Err
returns-in-Err c = rw (default_week _ c.default-week.ensures) (going_refused c.in-Err.ensures.refuses c.into.ensures)

pub chunks_exact-step-items-requires : goal.chunks_exact-step-items-requires
chunks_exact-step-items-requires c = (count_in _ c.in_default.ensures.fits.allowed).0

pub loop-step-init : goal.loop-step-init
loop-step-init c =
    let e = c.into_iter-step-iterator.ensures.into_iter_gives in
    let n = ap (λ (i : ChunksExact Line). i.size) e ∙ c.chunks_exact-step-items.ensures.size in
    let rest = ap (λ (i : ChunksExact Line). i.rest.now) e ∙ c.chunks_exact-step-items.ensures.rest in
    (omega (arith, n, count_in _ c.in_default.ensures.fits.allowed), tt, rw (default_week _ c.default-week.ensures) (going_begun c.in_default.ensures.fits n rest))

pub lines_of-requires : goal.lines_of-requires
lines_of-requires c = going_few c.loop-step.invariant.2 _ _ c.in-Some.ensures.steps.1

pub overflow_add-week : goal.overflow_add-week
overflow_add-week c = omega (arith, going_count c.loop-step.invariant.2 _ _ c.in-Some.ensures.steps.1)

pub join-week-requires : goal.join-week-requires
join-week-requires c = going_fits c.loop-step.invariant.2 _ _ c.in-Some.ensures.steps.1 c.lines_of.ensures c.in-Ok.ensures.answers

pub loop-step-preserved : goal.loop-step-preserved
loop-step-preserved c =
    let q = c.in-Some.ensures.steps in
    (omega (arith, q.0, c.loop-step.invariant.0), tt, going_on c.loop-step.invariant.2 _ _ q.1 c.lines_of.ensures c.in-Ok.ensures.answers c.join-week.ensures q.0)

pub returns-in-Err-step_with : goal.returns-in-Err-step_with
returns-in-Err-step_with c =
    going_stopped c.loop-step.invariant.2 _ _ c.in-Some.ensures.steps.1 c.lines_of.ensures _ c.in-Err-step_with.ensures.answers
    (err_keeps _ _ _ _ _ c.in-Err-step_with.ensures.answers)

pub returns : goal.returns
returns c = going_end c.loop-step.invariant.2 c.in-None.ensures.steps.1.0
