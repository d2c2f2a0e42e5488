use mathlib.Core.Path.{◌≡◌, ap, sym, ◌∙◌}
use mathlib.Core.List.{List}
use Prim.Native.Nat.{ℕ, suc, ◌+◌, ◌≤◌, ◌<◌}
use native.Mathlib.Decide.{dec_le}
use native.Mathlib.Numerals.{add-one}
use native.Mathlib.Omega.{arith}
use borrow.Author.Tests.{eq-eqb, ne_eqb}
use lib.ListN.{length, set, get_or-eq_default}
use Rattle.std.proofs.Common.{rules, tests}
use Rattle.std.proofs.lemmas.Result.{IfOk-at_ok, IfErr-at_err, err_from_is_err_and}
use Rattle.common.specs.declared.refusal.Refusal.{Refusal}
use Rattle.common.specs.declared.refusal.Refused.{Refused}
use Rattle.common.specs.declared.weather.Weather.{Weather}
use Rattle.common.specs.Refusals.{number_of}
use Rattle.common.proofs.Refusals.{number_some}
use Rattle.common.proofs.Mapped.{mapped_ok, mapped_err}
use Rattle.common.proofs.Loops.{fill_begin, fill_turn, fill_end, seek_begin, seek_turn, seek_found, seek_end}
use Rattle.common.proofs.Loops.{add_begin, add_turn, add_end, sum_bound}
use Rattle.forcing.specs.declared.list.Line.{Line}
use Rattle.forcing.specs.List.{Forcing}
use Rattle.forcing.specs.List.{blank, line_at, weather_of, estimated_of, line_number, refusal, judged_lines, reading, JudgedList}
use Rattle.forcing.proofs.list.LineLaws.{blank_number, estimated_one}
use Rattle.forcing.proofs.list.ReadLaws.{line_read, miscounted, reading_judged}
use Rattle.forcing.proofs.list.read.Invariants.{Before}
use Rattle.forcing.proofs.list.read.Goals as goal

-- no more of them are estimated
few : {lines : List Line} {n : ℕ} {weather : List Weather} {estimated at : ℕ} → Before lines n weather estimated at → estimated ≤ at
few {lines} {at = at} b =
    omega (arith, b.adding.so_far, sum_bound (λ k. estimated_of (line_at lines k).rain) 1 at (λ k l. estimated_one (line_at lines k).rain))

-- the answer's equation, and with it what document 01 says of it
answered : (lines : List Line) (count n : ℕ) {r : Forcing} → r ≡ reading lines count n
    → record { answered : r ≡ reading lines count n; judged : JudgedList lines count n r }
answered lines count n e = record { answered = e; judged = rw e (reading_judged lines count n) }

module _ {lines : List Line} {count n : ℕ} {weather : List Weather} {estimated at : ℕ} (b : Before lines n weather estimated at)
    (counted : count ≡ n) where
  -- no line is left
  ended : n ≤ at → record { number = 0; place = 0; estimated = estimated; weather = weather } ≡ reading lines count n
  unfolding reading judged_lines
  ended h = rw (eq-eqb count n counted, seek_end b.seeking h, fill_end b.filling h, add_end b.adding h)

  -- the next line is bad
  stops : at < n → (why : Refusal) → number_of why ≡ line_number (line_at lines at) → refusal (number_of why) (at + 1) ≡ reading lines count n
  unfolding reading judged_lines
  stops h why e =
      let bad : number_of why ≡ 0 → ⊥ = λ z. omega (arith, number_some why) in
      rw (eq-eqb count n counted, seek_found b.seeking h (λ z. bad (e ∙ z)), ← e, ne_eqb (number_of why) 0 bad, add-one at)

  -- the line that is read
  module _ (h : at < n) {line : Line} (is : line ≡ line_at lines at) where
    found : (why : Refusal) → number_of why ≡ line_number line → refusal (number_of why) (at + 1) ≡ reading lines count n
    found why e = stops h why (e ∙ ap line_number is)

    -- it is none past the 32nd
    within : length lines ≡ 32 → line_number line ≡ 0 → at < 32
    within long good = go (dec_le (suc at) 32)
      where
        go : Dec (at < 32) → at < 32
        go (yes l) = l
        go (no l) =
            let none : line_at lines at ≡ blank = get_or-eq_default lines blank {n = at} (omega arith) in
            absurd (omega (arith, good, ap line_number (is ∙ none), blank_number))

    turn : {w : Weather} {m : ℕ} → (line_number line ≡ 0) × (w ≡ weather_of line) → m ≡ estimated_of line.rain
        → Before lines n (set weather at w) (estimated + m) (at + 1)
    turn good e =
        record {
          filling = fill_turn b.filling h (good.1 ∙ ap weather_of is);
          seeking = seek_turn b.seeking h (ap line_number (sym is) ∙ good.0);
          adding = add_turn b.adding h (e ∙ ap (λ (l : Line). estimated_of l.rain) is);
        }

pub returns-then-count-n : goal.returns-then-count-n
returns-then-count-n c = answered _ _ _ (rw c.into.ensures (sym (miscounted c.args.lines _ _ c.if-count-n.true)))

pub loop-at-init : goal.loop-at-init
loop-at-init c = record { filling = rw (c.default-weather.ensures.0, c.default-weather.ensures.1.0, c.default-weather.ensures.1.1) fill_begin; seeking = seek_begin; adding = add_begin }

pub returns-in_err-weather : goal.returns-in_err-weather
returns-in_err-weather c =
    let bad = mapped_err c.judge_line.result _ _ c.in_err-weather.ensures.variant c.in_err-weather.ensures.cases in
    let told : c.in_err-weather.field-0.0 ≡ record { why = bad.0; place = c.loop-at.at + 1 } = search (rules, tests, bad.2) in
    let p = err_from_is_err_and c.from_residual.result c.from_residual.ensures.1 in
    answered _ _ _
    (rw (p.1, p.2, told)
    (found c.loop-at.invariant c.if-count-n.false c.loop-at-test.true (line_read _ _ _ c.unwrap_or_default-line.ensures c.copied.ensures c.get.ensures.lookup) bad.0
    (IfErr-at_err _ bad.1 c.judge_line.ensures.bad)))

pub bounds-weather-at : goal.bounds-weather-at
bounds-weather-at c =
    let good = mapped_ok Refused c.judge_line.result _ c.in_ok-weather.ensures.variant c.in_ok-weather.ensures.cases in
    within c.loop-at.invariant c.if-count-n.false c.loop-at-test.true
    (line_read _ _ _ c.unwrap_or_default-line.ensures c.copied.ensures c.get.ensures.lookup) c.well_formed.0.1.0.1 (IfOk-at_ok _ good c.judge_line.ensures.good).0

pub offset_bounds-weather-at : goal.offset_bounds-weather-at
offset_bounds-weather-at c = omega (arith, bounds-weather-at c)

pub loop-at-preserved : goal.loop-at-preserved
loop-at-preserved c =
    let good = mapped_ok Refused c.judge_line.result _ c.in_ok-weather.ensures.variant c.in_ok-weather.ensures.cases in
    turn c.loop-at.invariant c.if-count-n.false c.loop-at-test.true
    (line_read _ _ _ c.unwrap_or_default-line.ensures c.copied.ensures c.get.ensures.lookup)
    (IfOk-at_ok _ good c.judge_line.ensures.good) (c.from.ensures ∙ c.is_estimated.ensures)

pub overflow_add-estimated : goal.overflow_add-estimated
overflow_add-estimated c = omega (arith, few (loop-at-preserved c))

pub returns : goal.returns
returns c = answered _ _ _ (ended c.loop-at.invariant c.if-count-n.false c.loop-at-test.false)
