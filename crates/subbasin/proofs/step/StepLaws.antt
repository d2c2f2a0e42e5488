-- What the basin cites of one sub-basin's step, snow first and then the step on the ground: it balances, keeps what no step changes, and
-- stays bounded. Assumes nothing.
use mathlib.Core.Path.{◌≡◌, refl, ap}
use Prim.Native.Nat.{ℕ, ◌+◌, ◌*◌, ◌^◌, ◌≤◌}
use native.Mathlib.Nat.{le_trans, mul-le-mul}
use native.Mathlib.Omega.{arith}
use lib.IntN.{pos}
use lib.ListN.{length}
use Rattle.common.specs.declared.weather.Weather.{Weather}
use Rattle.common.specs.Weather.{most_rain, WeatherIn}
use Rattle.common.proofs.Limits.{Within}
use Rattle.subbasin.specs.declared.record.Sender.TheVariants.{Host}
use Rattle.subbasin.specs.declared.record.SubBasin.{SubBasin}
use Rattle.subbasin.specs.declared.snow.Snow.{Snow}
use Rattle.subbasin.specs.Record.{words}
use Rattle.subbasin.specs.Content.{water}
use Rattle.subbasin.specs.Step.{snow_of, lying, reaching, on_ground, stepped}
use Rattle.subbasin.proofs.record.RecordLaws.{RecordIn, words_with}
use Rattle.subbasin.proofs.snow.SnowLaws.{Snows, snows, snow_none}
use Rattle.subbasin.proofs.step.OnGroundLaws.{ground_balances, ground_keeps, ground_q_fits, ground_evaporated_fits, ground_water_after_fits}
use Rattle.subbasin.proofs.step.OnGroundLaws.{ground_sound, ground_sound_q}
pub use Rattle.subbasin.proofs.step.OnGroundLaws.{Kept, water_fits, Sound, sound_file, sound_in}

-- ---- the snow

-- the weather with P as its rain is inside the limits
reaching_in : (w : Weather) (n : Snow) {sn : ℕ} → WeatherIn w → Snows sn w.rain n → WeatherIn (reaching w n)
reaching_in w n k h =
    record { rain_most = h.p_most; pan_most = k.pan_most; temperature_least = k.temperature_least; temperature_most = k.temperature_most }

module _ (s : SubBasin) (n : Snow) {rain : ℕ} (h : Snows s.contents.sn rain n) where
  -- P and what then is held are the rain and what was
  lying_water : water (lying s n) + s.fixed.area * n.p ≡ water s + s.fixed.area * rain
  unfolding water
  lying_water = omega (arith, ap (λ (x : ℕ). s.fixed.area * x) h.balance)

  lying_words : (m : ℕ) → s.fixed.reach ≤ m → Within (words m Host s) → Within (words m Host (lying s n))
  lying_words m l ws = words_with m m Host Host s (lying s n) ws refl refl l (omega (arith, h.sn_most))

  lying_in : (m : ℕ) → RecordIn m s → RecordIn m (lying s n)
  lying_in m r =
      let ws = r.in_words in
      record { in_words = lying_words m (omega arith) ws; in_line = r.in_line; unused = r.unused; in_channel = r.in_channel }

-- what a step makes of the snow, for a record that 9 allows
pub step_snows : (m : ℕ) (s : SubBasin) (w : Weather) → Within (words m Host s) → WeatherIn w → Snows s.contents.sn w.rain (snow_of s w)
step_snows m s w ws k = snows s.fixed s.contents.sn w.rain w.temperature (omega arith) k.rain_most

-- with the threshold as its temperature a step is the one on the ground
pub snowless : (s : SubBasin) (rain pan : ℕ) → rain ≤ most_rain
    → let w : Weather = record { rain = rain; pan = pan; temperature = pos s.fixed.threshold } in stepped s w ≡ on_ground s w
unfolding stepped
snowless s rain pan h =
    ap (λ (n : Snow). on_ground (lying s n) (record { rain = n.p; pan = pan; temperature = pos s.fixed.threshold }))
    (snow_none s.fixed s.contents.sn rain h)

-- ---- a step of a record that 9 allows

module _ (m : ℕ) (s : SubBasin) (w : Weather) (h : RecordIn m s) (k : WeatherIn w) where
  abbrev lies : SubBasin
  lies = lying s (snow_of s w)

  abbrev falls : Weather
  falls = reaching w (snow_of s w)

  snows_here : Snows s.contents.sn w.rain (snow_of s w)
  snows_here = step_snows m s w h.in_words k

  -- the record and the weather of the step on the ground
  pub lying_allowed : RecordIn m lies
  lying_allowed = lying_in s (snow_of s w) snows_here m h

  pub reaching_allowed : WeatherIn falls
  reaching_allowed = reaching_in w (snow_of s w) k snows_here

  module _ (places : length s.line.waiting ≡ 15) where
    pub step_balances : water s + s.fixed.area * w.rain
        ≡ water (stepped s w).after + s.fixed.area * ((stepped s w).eu + (stepped s w).el + (stepped s w).ed) + (stepped s w).q
    unfolding stepped
    step_balances =
        omega (arith, ground_balances m lies falls lying_allowed reaching_allowed places, lying_water s (snow_of s w) snows_here)

    pub step_keeps : Kept s (stepped s w).after
    unfolding stepped
    step_keeps =
        let kept = ground_keeps m lies falls lying_allowed reaching_allowed places in
        record {
          fixed_kept = kept.fixed_kept;
          lag_same = kept.lag_same;
          places = kept.places;
          wu_most = kept.wu_most;
          wl_most = kept.wl_most;
          wd_most = kept.wd_most;
          g_most = kept.g_most;
        }

  pub q_fits : (stepped s w).q ≤ 2 ^ 56 + 2 ^ 50
  unfolding stepped
  q_fits = ground_q_fits m lies falls lying_allowed reaching_allowed

  pub evaporated_fits : s.fixed.area * ((stepped s w).eu + (stepped s w).el + (stepped s w).ed) ≤ 2 ^ 30
  unfolding stepped
  evaporated_fits = ground_evaporated_fits m lies falls lying_allowed reaching_allowed

  pub rain_fits : s.fixed.area * w.rain ≤ 2 ^ 33
  rain_fits =
      let ws = h.in_words in
      le_trans (mul-le-mul {n₂ = 5000} {m₂ = most_rain} (omega arith) k.rain_most) (omega arith)

  pub water_after_fits : water (stepped s w).after ≤ 2 ^ 57
  unfolding stepped
  water_after_fits = ground_water_after_fits m lies falls lying_allowed reaching_allowed

-- ---- a step of a record that steps lead to from a file's

module _ (s : SubBasin) (w : Weather) (h : Sound s) (k : WeatherIn w) where
  snows_sound : Snows s.contents.sn w.rain (snow_of s w)
  snows_sound = step_snows s.fixed.reach s w h.in_words k

  lying_sound : Sound (lying s (snow_of s w))
  lying_sound =
      record {
        in_words = lying_words s (snow_of s w) snows_sound s.fixed.reach (omega arith) h.in_words;
        interflow = h.interflow;
        ground = h.ground;
        places = h.places;
        in_line = h.in_line;
        unused = h.unused;
        in_channel = h.in_channel;
      }

  pub sound_step : Sound (stepped s w).after
  unfolding stepped
  sound_step = ground_sound (lying s (snow_of s w)) (reaching w (snow_of s w)) lying_sound (reaching_in w (snow_of s w) k snows_sound)

  pub sound_q : (stepped s w).q ≤ 2 ^ 34
  unfolding stepped
  sound_q = ground_sound_q (lying s (snow_of s w)) (reaching w (snow_of s w)) lying_sound (reaching_in w (snow_of s w) k snows_sound)
