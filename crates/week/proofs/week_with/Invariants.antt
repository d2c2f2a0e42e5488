-- `week::week_with` meets its contract: before each turn the week on its way has `Going`. Assumes nothing.
use Rattle.week.proofs.GoingLaws.{Going}
use Rattle.week.proofs.week_with.Given as goal

abbrev pub invariant-loop-step : goal.invariant-loop-step
invariant-loop-step l =
    (goal.iterator-loop-step).can_next l.step-iterator ×
    (goal.iterator-loop-step).is_finite l.step-iterator ×
    Going l.fn.b l.lines l.n l.step-iterator.size l.step-iterator.rest.now l.b l.week
