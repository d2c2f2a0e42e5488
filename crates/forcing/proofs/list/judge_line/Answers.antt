-- `forcing::list::judge_line` meets its contract: its ways out are laws of `LineLaws`.
-- Assumes nothing.
use mir.Syntax.{w64}
use Rattle.std.proofs.Common.{◌≡◌, Err, rules}
use Rattle.std.proofs.lemmas.Int.{to_z-of_z}
use Rattle.forcing.proofs.list.LineLaws.{second_refuses, third_refuses, line_good}
use Rattle.forcing.proofs.list.judge_line.Goals as goal

pub returns-in_err-pan-clause-bad : goal.returns-in_err-pan-clause-bad
returns-in_err-pan-clause-bad c =
    let e : c.from_residual-in_err-pan.result ≡ Err c.in_err-pan.field-0.0 = search rules in
    rw e (second_refuses _ c.in_ok-rain.ensures _ c.in_err-pan.ensures.answered)

pub returns-in_err-temperature-clause-bad : goal.returns-in_err-temperature-clause-bad
returns-in_err-temperature-clause-bad c =
    let e : c.from_residual-in_err-temperature.result ≡ Err c.in_err-temperature.field-0.0 = search rules in
    rw e (third_refuses _ c.in_ok-rain.ensures c.in_ok-pan.ensures.answered _ c.in_err-temperature.ensures.answered)

pub returns-clause-good : goal.returns-clause-good
returns-clause-good c =
    line_good _ c.in_ok-rain.ensures c.in_ok-pan.ensures.answered c.in_ok-temperature.ensures.answered (to_z-of_z w64 _ (search rules))
