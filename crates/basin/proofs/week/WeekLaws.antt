-- The week: what an accepted step reports, and the definition by 9, the length and the steps. Assumes nothing.
use mathlib.Core.Path.{◌≡◌, refl, sym, ◌∙◌}
use mathlib.Core.Bool.{true, false}
use mathlib.Core.List.{List, []}
use Prim.Native.Nat.{ℕ, ◌+◌, ◌*◌, ◌/◌, ◌%◌, ◌^◌, ◌≤◌, ◌<◌}
use native.Mathlib.Nat.{zero-mod, zero-div}
use native.Mathlib.Omega.{arith}
use lib.Dec.{eqb, leb}
use lib.ListN.{length, get_or}
use borrow.Author.Tests.{le-leb, lt-leb, leb-true, eqb-true}
use Rattle.common.specs.declared.weather.Weather.{Weather}
use Rattle.common.specs.Weather.{calm}
use Rattle.common.proofs.Limits.{parts, both}
use Rattle.common.proofs.Loops.{sum_bound}
use Rattle.forcing.specs.declared.list.Line.{Line}
use Rattle.forcing.specs.List.{reading}
use Rattle.forcing.proofs.list.ReadLaws.{estimated_most}
use Rattle.subbasin.specs.Content.{water}
use Rattle.subbasin.proofs.step.StepLaws.{rain_fits, water_fits}
use Rattle.basin.specs.declared.state.Basin.{Basin}
use Rattle.basin.specs.Step.{Outcome}
use Rattle.basin.specs.Week.{Ran}
use Rattle.basin.specs.State.{sub_at, reach_at, content_of}
use Rattle.basin.specs.Limits.{basin_in}
use Rattle.basin.specs.Step.{rain_volume, taken, step_call}
use Rattle.basin.specs.Calls.{results}
use Rattle.basin.specs.Week.{most_steps, fits, calls_of, week_calls, up_to_refused, after, one_more, stopped, together, untaken, week_taken, week_call, WeekJudged}
use Rattle.basin.specs.Workers.{Weathers, Shaped}
use Rattle.basin.proofs.limits.LimitsLaws.{BasinIn, basin_limits}
use Rattle.basin.proofs.step.JudgedLaws.{call_inside, answers}
use Rattle.basin.proofs.step.StepLaws.{reading_weathers, step_balance, after_shaped}

-- ---- one accepted step of a basin that 9 allows

pub count_in : (b : Basin) → basin_in b ≡ true → (1 ≤ b.n) × (b.n ≤ 32)
count_in b t = let h = basin_limits b t in (h.n_least, h.n_most)

-- what it holds
pub content_most : (b : Basin) → basin_in b ≡ true → Shaped b → content_of b ≤ 2 ^ 63
unfolding content_of
content_most b t sh =
    let h = basin_limits b t in
    omega (
      arith,
      sum_bound (λ i. water (sub_at b i)) (2 ^ 57) b.n (λ i l. water_fits b.m (sub_at b i) (h.used_subs i l) (sh.places i l)),
      sum_bound (λ j. (reach_at b j).content) (2 ^ 56) b.m (λ j l. (h.used_reaches j l).content_most),
      h.n_most,
      h.m_most,
    )

rain_volume_most : (b : Basin) (ws : List Weather) → BasinIn b → Weathers ws → rain_volume b ws ≤ 2 ^ 38
unfolding rain_volume
rain_volume_most b ws h k =
    omega (
      arith,
      sum_bound (λ i. (sub_at b i).fixed.area * (get_or ws i calm).rain) (2 ^ 33) b.n (λ i l. rain_fits b.m (sub_at b i) (get_or ws i calm) (h.used_subs i l) (k.each i)),
      h.n_most,
    )

-- what an accepted step reports: little rain, few estimated lines, and no more leaves than was there and rained
pub record Reported (b : Basin) (o : Outcome) : Type 0 where
  pub rain_most : o.report.rain ≤ 2 ^ 38
  pub estimated_few : o.report.estimated ≤ 32
  pub balance : content_of o.basin + (o.report.evapotranspiration + o.report.outlet) ≡ content_of b + o.report.rain
  pub shaped : Shaped o.basin

pub reported : (b : Basin) (lines : List Line) (count : ℕ) → Shaped b → {o : Outcome} → o ≡ step_call b lines count → o.number ≡ 0 → Reported b o
unfolding taken
reported b lines count sh {o} e z =
    let in_both = (answers b lines count e).judges.accepted.0 z in
    let h = basin_limits b in_both.0 in
    let k = reading_weathers lines count b.n in
    rw (e ∙ call_inside b lines count in_both.0 in_both.1)
    (record {
      rain_most = rain_volume_most b (reading lines count b.n).weather h k;
      estimated_few = omega (arith, estimated_most lines count b.n, h.n_most);
      balance = omega (arith, step_balance b (reading lines count b.n).weather h sh k);
      shaped = after_shaped b (reading lines count b.n).weather h sh k;
    })

-- ---- one more step

pub after_accepted : (w : Ran) (o : Outcome) → eqb o.number 0 ≡ true → after w o ≡ one_more w o
unfolding after
after_accepted w o t = rw t

pub after_refused : (w : Ran) (o : Outcome) → eqb o.number 0 ≡ false → after w o ≡ stopped w o
unfolding after
after_refused w o t = rw t

-- ---- the definition, by 9 and the length

module _ (b : Basin) (lines : List Line) where
  pub week_nine : basin_in b ≡ false → untaken b 9 ≡ week_call b lines
  unfolding week_call
  week_nine e = sym (rw e)

  pub week_length : basin_in b ≡ true → fits b.n (length lines) ≡ false → untaken b 5 ≡ week_call b lines
  unfolding week_call
  week_length e d = sym (rw (e, d))

  pub week_taken_lem : basin_in b ≡ true → fits b.n (length lines) ≡ true
      → week_call b lines ≡ together (untaken b 0) (results b (up_to_refused b (calls_of b.n (length lines / b.n) lines)))
  unfolding week_call week_taken week_calls
  week_taken_lem e d = rw (e, d)

-- whole steps, no more than fit
pub record Fitting (n long : ℕ) : Type 0 where
  pub most : long ≤ most_steps * n
  pub whole : long % n ≡ 0

pub fitting : (n long : ℕ) → fits n long ≡ true → Fitting n long
unfolding fits
fitting n long t =
    let p = parts (leb long (most_steps * n)) (eqb (long % n) 0) t in
    record { most = leb-true long (most_steps * n) p.0; whole = eqb-true (long % n) 0 p.1 }

-- the same as two tests
pub fits_not : (n long : ℕ) → most_steps * n < long → false ≡ fits n long
unfolding fits
fits_not n long l = sym (rw (lt-leb long (most_steps * n) l))

pub fits_whole : (n long : ℕ) → long ≤ most_steps * n → eqb (long % n) 0 ≡ fits n long
unfolding fits
fits_whole n long l = sym (rw (le-leb long (most_steps * n) l))

-- ---- what the contract says

module _ (b : Basin) (lines : List Line) where
  empty_fits : (n : ℕ) → fits n 0 ≡ true
  unfolding fits
  empty_fits n = rw (zero-mod n) (both (le-leb 0 (most_steps * n) (omega arith)) refl)

  week_empty : basin_in b ≡ true → lines ≡ [] → week_call b lines ≡ untaken b 0
  unfolding week_call week_taken week_calls calls_of up_to_refused results together
  week_empty e z = rw (z, e, empty_fits b.n, zero-div b.n)

  -- the equation of a week's answer, with its balance, and so all of it
  pub week_judged : {w : Ran} → w ≡ week_call b lines
      → content_of w.basin + (w.report.evapotranspiration + w.report.outlet) ≡ content_of b + w.report.rain
      → (w ≡ week_call b lines) × WeekJudged b lines w
  week_judged e balance = (
    e,
    record {
      nine_first = λ t. e ∙ sym (week_nine b lines t);
      length_next = λ t d. e ∙ sym (week_length b lines t d);
      none = λ t n. e ∙ week_empty t n;
      balance = balance;
    },
  )
