-- `basin::state::Basin::step_with` meets its contract: each way out is a law of the step call. Assumes nothing.
use mathlib.Core.Path.{◌≡◌, refl, sym, ap, ◌∙◌}
use mathlib.Core.Bool.{true}
use native.Mathlib.Omega.{arith}
use Rattle.std.proofs.Common.{Result, Ok, is_ok, rules, tests}
use Rattle.std.proofs.lemmas.Result.{err_from_is_err_and}
use Rattle.std.specs.Result.{MatchResult}
use Rattle.common.specs.declared.refusal.Refused.{Refused}
use Rattle.common.proofs.Mapped.{mapped_ok, mapped_err}
use Rattle.common.proofs.Refusals.{number_some}
use Rattle.forcing.specs.declared.list.Readings.{Readings}
use Rattle.forcing.specs.List.{Forcing, as_forcing}
use Rattle.basin.proofs.step.StepLaws.{weathers_of}
use Rattle.basin.proofs.step.CallLaws.{nine_told, call_accepted, call_refused}
use Rattle.basin.proofs.step.JudgedLaws.{others_outside, answers}
use Rattle.basin.proofs.state.Basin.step_with.Goals as goal

-- the readings that are taken are those of the lines
read_ok : (r : Result Readings Refused) (Q : Refused → Type 0) {readings : Readings} {f : Forcing} → as_forcing r ≡ f → true ≡ is_ok r
    → MatchResult r (λ x. ◌≡◌ {A = Result Readings Refused} (Ok readings) (Ok x)) Q → as_forcing (Ok readings) ≡ f
read_ok r Q e t h = ap as_forcing (sym (mapped_ok Refused r Q t h)) ∙ e

pub returns-then-not-others_allowed : goal.returns-then-not-others_allowed
returns-then-not-others_allowed c =
    answers _ _ _ (nine_told c.args.self.now c.into.ensures ∙ others_outside _ _ _ (sym c.others_allowed.ensures ∙ c.if-not-others_allowed.true))

pub returns-in_err-readings : goal.returns-in_err-readings
returns-in_err-readings c =
    let bad = mapped_err c.read.result _ _ c.in_err-readings.ensures.variant c.in_err-readings.ensures.cases in
    let p = err_from_is_err_and c.from_residual.result c.from_residual.ensures.1 in
    let past = call_refused _ _ _ (ap as_forcing (sym bad.1) ∙ c.read.ensures.answered) (λ z. omega (arith, number_some bad.0.why)) in
    answers _ _ _ (rw (p.1, p.2) (search (rules, tests, bad.2) ∙ past))

pub take-requires : goal.take-requires
take-requires c =
    let read = read_ok _ _ c.read.ensures.answered c.in_ok-readings.ensures.variant c.in_ok-readings.ensures.cases in
    (sym c.others_allowed.ensures ∙ c.if-not-others_allowed.false, weathers_of _ _ _ read)

pub returns : goal.returns
returns c =
    let now = read_ok _ _ c.read.ensures.answered c.in_ok-readings.ensures.variant c.in_ok-readings.ensures.cases in
    answers _ _ _ (c.take.ensures ∙ call_accepted _ _ _ now refl)
