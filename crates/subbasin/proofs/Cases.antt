-- Case A of document 01, its first step over the definitions, and what rains yield: computations. Assumes nothing.
use mathlib.Core.Path.{◌≡◌, refl, ap}
use Prim.Native.Nat.{ℕ, ◌+◌}
use lib.ListN.{replicate}
use Rattle.common.specs.Amounts.{sum}
use Rattle.common.specs.Cases.{Agree}
use Rattle.common.proofs.Cases.{agree_all}
use Rattle.curve.specs.Store.{outflow, content}
use Rattle.subbasin.specs.declared.soil.Layers.{Layers}
use Rattle.subbasin.specs.Content.{water}
use Rattle.subbasin.specs.Snow.{snow, joined, melt, melted}
use Rattle.subbasin.specs.Soil.{ep, deeper, evaporated}
use Rattle.subbasin.specs.FreeWater.{drained}
use Rattle.subbasin.specs.Lag.{leaving, waiting_after, entered}
use Rattle.subbasin.specs.Slices.{unsliced}
use Rattle.subbasin.specs.Step.{Stepped, layers_of, on_ground_whole, stepped, stepped_whole}
use Rattle.subbasin.specs.Yields.{yield}
use Rattle.subbasin.specs.Cases.{case_a, weather_a, weather_3, whole_rain, sliced_rain, dipping, snow_cases, step_cases}
use Rattle.subbasin.proofs.slices.FastLaws.{fast_sliced, sliced_fast, fast_after_slice, unsliced_fast}
use Rattle.subbasin.proofs.step.FastLaws.{fast_stepped, stepped_fast}

-- 135 mm in one, and in 27 slices
whole_rain_lem : whole_rain ≡ record { rb = 0; r = 30000; rs = 25556; layers = record { wu = 20000; wl = 60000; wd = 25000 }; kept = 4444 }
unfolding fast_after_slice
whole_rain_lem = unsliced_fast _ _ _ _

sliced_rain_lem : sliced_rain ≡ record { rb = 0; r = 29970; rs = 20246; layers = record { wu = 20000; wl = 60000; wd = 25030 }; kept = 9724 }
unfolding fast_sliced
sliced_rain_lem = sliced_fast _ _ _ _

-- no EL, ED or RB; WL is full, RI is RG and VI is VG
abbrev answered : ℕ → ℕ → ℕ → ℕ → ℕ → ℕ → ℕ → ℕ → ℕ → Stepped
answered eu r rs rg q wu wd g vg =
    record {
      number = 0;
      place = 0;
      after =
          record {
            fixed = case_a.fixed;
            contents = record { wu = wu; wl = 60000; wd = wd; g = g; vi = vg; vg = vg; sn = 0 };
            line = record { lag = 0; waiting = replicate 15 0 };
            channel = 0;
          };
      eu = eu;
      el = 0;
      ed = 0;
      rb = 0;
      r = r;
      rs = rs;
      ri = rg;
      rg = rg;
      q = q;
    }

-- PE in one: the first step, and the third, without rain
abbrev whole_1 : Stepped
whole_1 = answered 0 30000 25556 1111 26668 20000 25000 2222 555

abbrev whole_3 : Stepped
whole_3 = answered 10000 0 0 555 1110 10000 25000 1112 555

whole_1_lem : stepped_whole case_a weather_a ≡ whole_1
unfolding stepped_whole on_ground_whole snow melt melted evaporated ep drained outflow content leaving waiting_after entered
whole_1_lem = rw whole_rain_lem

abbrev layers_3 : Layers
layers_3 = layers_of whole_3.after.contents

dry_rain_lem : unsliced case_a.fixed layers_3 2222 0 ≡ record { rb = 0; r = 0; rs = 0; layers = layers_3; kept = 2222 }
unfolding fast_after_slice
dry_rain_lem = unsliced_fast _ _ _ _

whole_3_lem : stepped_whole whole_1.after weather_3 ≡ whole_3
unfolding stepped_whole on_ground_whole snow melt melted evaporated deeper ep drained outflow content leaving waiting_after entered
whole_3_lem = rw dry_rain_lem

-- by slices
pub step_a : stepped case_a weather_a ≡ answered 0 29970 20246 2431 22678 20000 25030 4862 1215
unfolding fast_stepped
step_a = stepped_fast _ _

-- what a rain yields, as it computes
abbrev RbAndR : Stepped → ℕ
RbAndR st = st.rb + st.r

seven : yield (dipping 0) 0 7 ≡ 5
unfolding yield fast_stepped
seven = ap RbAndR (stepped_fast _ _)

eight : yield (dipping 0) 0 8 ≡ 4
unfolding yield fast_stepped
eight = ap RbAndR (stepped_fast _ _)

above_pan : yield (dipping 32768) 40500 41 ≡ 250
unfolding yield fast_stepped
above_pan = ap RbAndR (stepped_fast _ _)

snow_cases_lem : Agree snow_cases
unfolding snow joined melt melted
snow_cases_lem = agree_all snow_cases refl

pub step_cases_lem : Agree step_cases
unfolding outflow water sum
step_cases_lem =
    rw (whole_1_lem, whole_3_lem, whole_rain_lem, step_a, sliced_rain_lem) (
      refl,
      (refl, (refl, (refl, (refl, (refl, (refl, (refl, (refl, (refl, (refl, (refl, (refl, (refl, (refl, (refl, (refl, (seven, (eight, (above_pan, snow_cases_lem))))))))))))))))))),
    )
