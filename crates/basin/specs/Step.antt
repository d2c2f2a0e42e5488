-- Document 01: one step of the basin, its report, and the step call.
use Rattle.std.specs.Prelude.{◌≡◌, ℕ, ◌+◌, ◌*◌, true, false, cond, List, [], ◌∷◌, ◌↔◌, eqb, get_or, replicate, Result, Ok, Err}
use Rattle.common.specs.declared.weather.Weather.{Weather}
use Rattle.common.specs.declared.refusal.Refused.{Refused as Reason}
use Rattle.common.specs.Refusals.{number_of}
use Rattle.common.specs.Weather.{calm}
use Rattle.common.specs.Loops.{run, filled, sum_of}
use Rattle.forcing.specs.declared.list.Line.{Line}
use Rattle.forcing.specs.List.{Forcing, reading, is_inside}
use Rattle.subbasin.specs.Step.{Stepped, stepped}
use Rattle.basin.specs.declared.state.Basin.{Basin}
use Rattle.basin.specs.declared.step.Report.{Report}
use Rattle.basin.specs.State.{sub_at, content_of}
use Rattle.basin.specs.Limits.{basin_in}
use Rattle.basin.specs.Network.{send, flows, reaches_after}

-- the step of sub-basin i, counted from 0, under the weather of its own line
abbrev pub step_of : Basin → List Weather → ℕ → Stepped
step_of b ws i = stepped (sub_at b i) (get_or ws i calm)

-- "Q, sent to reach REACH, or to the outlet if 0": what the first k sub-basins have sent
unfoldable pub sent_by : Basin → List Weather → ℕ → List ℕ
sent_by b ws k = run (λ i p. send p (sub_at b i).fixed.reach (step_of b ws i).q) k (replicate 32 0)

-- the basin after its step
unfoldable pub basin_after : Basin → List Weather → Basin
basin_after b ws =
    record {
      n = b.n;
      m = b.m;
      subs = filled (λ i. (step_of b ws i).after) b.n b.subs;
      reaches = reaches_after b.reaches b.m (sent_by b ws b.n);
    }

-- "A step's rain in m³ is area × the rain depth in µm of the sub-basin's line", "summed over sub-basins 1..N": "the gauge's reading and not P"
unfoldable pub rain_volume : Basin → List Weather → ℕ
rain_volume b ws = sum_of (λ i. (sub_at b i).fixed.area * (get_or ws i calm).rain) b.n

-- "its evapotranspiration area × (EU + EL + ED)"
unfoldable pub loss_volume : Basin → List Weather → ℕ
loss_volume b ws = sum_of (λ i. (sub_at b i).fixed.area * ((step_of b ws i).eu + (step_of b ws i).el + (step_of b ws i).ed)) b.n

-- "Outlet volume is the Q and the reach outflows sent to the outlet"
unfoldable pub outlet_volume : Basin → List Weather → ℕ
outlet_volume b ws = get_or (flows b.reaches b.m (sent_by b ws b.n)) 0 0

-- what a step hands back: number and place are 0 where it is accepted
pub record Outcome : Type 0 where
  pub number : ℕ
  pub place : ℕ
  pub basin : Basin
  pub report : Report

-- "rain, evapotranspiration, outlet volume, content (all m³), estimated lines", in this order
abbrev pub numbers_of : Report → List ℕ
numbers_of r = r.rain ∷ r.evapotranspiration ∷ r.outlet ∷ r.content ∷ r.estimated ∷ []

-- An accepted step.
unfoldable pub taken : Basin → Forcing → Outcome
taken b f =
    record {
      number = 0;
      place = 0;
      basin = basin_after b f.weather;
      report =
          record {
            rain = rain_volume b f.weather;
            evapotranspiration = loss_volume b f.weather;
            outlet = outlet_volume b f.weather;
            content = content_of (basin_after b f.weather);
            estimated = f.estimated;
          };
    }

-- "A refused step reports zeros", and hands back the basin that it got
abbrev pub zeros : Report
zeros = record { rain = 0; evapotranspiration = 0; outlet = 0; content = 0; estimated = 0 }

abbrev pub refused_step : Basin → ℕ → ℕ → Outcome
refused_step b number place = record { number = number; place = place; basin = b; report = zeros }

-- what an answer stands for, with the basin as it then is
abbrev pub as_outcome : Basin → Result Report Reason → Outcome
as_outcome b (Ok r) = record { number = 0; place = 0; basin = b; report = r }
as_outcome b (Err w) = refused_step b (number_of w.why) w.place

-- the forcing's refusal, and otherwise an accepted step
unfoldable pub answered : Basin → Forcing → Outcome
answered b f = cond (eqb f.number 0) (taken b f) (refused_step b f.number f.place)

-- "9 .. judged before 5"
unfoldable pub step_call : Basin → List Line → ℕ → Outcome
step_call b lines count = cond (basin_in b) (answered b (reading lines count b.n)) (refused_step b 9 0)

-- ---- what is accepted, of any basin, loaded or handed in by a host

-- "a refused step hands back the basin unchanged" and "reports zeros"
pub record Refused (got : Basin) (o : Outcome) : Type 0 where
  pub unchanged : o.basin ≡ got
  pub reports_zeros : o.report ≡ zeros

pub record Judged (b : Basin) (lines : List Line) (count : ℕ) (o : Outcome) : Type 0 where
  pub accepted : (o.number ≡ 0) ↔ ((basin_in b ≡ true) × (is_inside lines count b.n ≡ true))
  pub refused : (o.number ≡ 0 → ⊥) → Refused b o
  pub nine_first : basin_in b ≡ false → o.number ≡ 9
