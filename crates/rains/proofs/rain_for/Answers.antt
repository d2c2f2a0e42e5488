-- `rains::rain_for` meets its contract. Assumes nothing.
use Rattle.std.proofs.Common.{◌≡◌, refl, ap, Err, rules, arith}
use Rattle.common.proofs.Refusals.{number_some}
use Rattle.subbasin.specs.Yields.{as_answer}
use Rattle.rains.proofs.QuestionLaws.{question_refused, question_answered}
use Rattle.rains.proofs.rain_for.Goals as goal

pub returns-in_err-depth : goal.returns-in_err-depth
returns-in_err-depth c =
    let e : c.from_residual.result ≡ Err c.in_err-depth.field-0.0 = search rules in
    question_refused _ _ _ c.in_err-depth.ensures _ (λ z. omega (arith, z, number_some c.in_err-depth.field-0.0)) (ap as_answer e)

pub returns : goal.returns
returns c = question_answered _ _ _ c.in_ok-depth.ensures _ _ refl refl c.rain_for.ensures
