-- The sub-basin call: accepted inside its limits, refused outside. Assumes nothing.
use Rattle.std.specs.Prelude.{Ok, Err, int_le, ◌≤ℤ◌}
use mathlib.Core.Path.{◌≡◌, sym, ap, ◌∙◌}
use mathlib.Core.Bool.{true, cond, ◌&&◌}
use Prim.Native.Nat.{◌≤◌}
use native.Mathlib.Omega.{arith}
use lib.Dec.{leb}
use borrow.Author.Tests.{le-leb, leb-true}
use Rattle.common.specs.declared.weather.Weather.{Weather}
use Rattle.common.specs.Weather.{most_rain, most_pan, least_temperature, most_temperature, WeatherIn}
use Rattle.common.specs.declared.refusal.Refusal.{Refusal}
use Rattle.common.proofs.Refusals.{number_some}
use Rattle.common.proofs.Limits.{by_test, both, parts}
use Rattle.common.proofs.Signed.{int_le-true, le-int_le}
use Rattle.subbasin.specs.declared.record.SubBasin.{SubBasin}
use Rattle.subbasin.specs.declared.step.Flows.{Flows}
use Rattle.subbasin.specs.declared.snow.Snow.{Snow}
use Rattle.subbasin.specs.declared.slices.Sliced.{Sliced}
use Rattle.subbasin.specs.Record.{snow_mark, record_in}
use Rattle.subbasin.specs.Slices.{most_slice}
use Rattle.subbasin.specs.Step.{Stepped, as_stepped, with_slices, evaporated_of, on_ground, on_ground_whole, snow_of, lying, reaching, stepped, stepped_whole, pe_of, returned, call_in, sub_call, whole_call}
use Rattle.subbasin.proofs.record.RecordLaws.{RecordIn, record_in_lem, record_limits}
use Rattle.subbasin.proofs.slices.SlicesLaws.{sliced_once}
use Rattle.subbasin.proofs.step.StepLaws.{lying_allowed, reaching_allowed}

-- the limits of the call
pub record CallIn (s : SubBasin) (w : Weather) : Type 0 where
  pub in_record : RecordIn s.fixed.reach s
  pub in_weather : WeatherIn w

-- the tests that it passed
pub record Called (s : SubBasin) (w : Weather) : Type 0 where
  pub allowed : record_in s.fixed.reach s ≡ true
  pub rain_most : w.rain ≤ most_rain
  pub pan_most : w.pan ≤ most_pan
  pub temperature_least : least_temperature ≤ℤ w.temperature
  pub temperature_most : w.temperature ≤ℤ most_temperature

-- the numbers that the snow reads
pub record SnowIn (s : SubBasin) (w : Weather) : Type 0 where
  pub sn_most : s.contents.sn ≤ snow_mark
  pub f_most : s.fixed.f ≤ 20000
  pub threshold_most : s.fixed.threshold ≤ 10000
  pub rain_most : w.rain ≤ most_rain
  pub temperature_least : least_temperature ≤ℤ w.temperature
  pub temperature_most : w.temperature ≤ℤ most_temperature

pub call_in_lem : (s : SubBasin) (w : Weather) → record_in s.fixed.reach s ≡ true → WeatherIn w → call_in s w ≡ true
unfolding call_in
call_in_lem s w t k =
    both
    (both
    (both (both t (le-leb w.rain most_rain k.rain_most)) (le-leb w.pan most_pan k.pan_most))
    (le-int_le least_temperature w.temperature k.temperature_least))
    (le-int_le w.temperature most_temperature k.temperature_most)

module _ (s : SubBasin) (w : Weather) where
  pub called : call_in s w ≡ true → Called s w
  unfolding call_in
  called t =
      let least = int_le least_temperature w.temperature in
      let most = int_le w.temperature most_temperature in
      let a = parts (record_in s.fixed.reach s && leb w.rain most_rain && leb w.pan most_pan && least) most t in
      let b = parts (record_in s.fixed.reach s && leb w.rain most_rain && leb w.pan most_pan) least a.0 in
      let c = parts (record_in s.fixed.reach s && leb w.rain most_rain) (leb w.pan most_pan) b.0 in
      let d = parts (record_in s.fixed.reach s) (leb w.rain most_rain) c.0 in
      record {
        allowed = d.0;
        rain_most = leb-true w.rain most_rain d.1;
        pan_most = leb-true w.pan most_pan c.1;
        temperature_least = int_le-true least_temperature w.temperature b.1;
        temperature_most = int_le-true w.temperature most_temperature a.1;
      }

  call_limits : call_in s w ≡ true → CallIn s w
  call_limits t =
      let c = called t in
      record {
        in_record = record_limits s.fixed.reach s c.allowed;
        in_weather =
            record {
              rain_most = c.rain_most;
              pan_most = c.pan_most;
              temperature_least = c.temperature_least;
              temperature_most = c.temperature_most;
            };
      }

  -- what the snow reads
  pub snow_in : call_in s w ≡ true → SnowIn s w
  snow_in t =
      let c = called t in
      let ws = (record_limits s.fixed.reach s c.allowed).in_words in
      record {
        sn_most = omega arith;
        f_most = omega arith;
        threshold_most = omega arith;
        rain_most = c.rain_most;
        temperature_least = c.temperature_least;
        temperature_most = c.temperature_most;
      }

  pub step_in : call_in s w ≡ true → sub_call s w ≡ stepped s w
  unfolding sub_call
  step_in t = rw t

  -- the call on the ground passes the same tests
  pub ground_in : {n : Snow} → n ≡ snow_of s w → call_in s w ≡ true → call_in (lying s n) (reaching w n) ≡ true
  ground_in is t =
      let c = call_limits t in
      rw is
      (call_in_lem _ _ (record_in_lem _ _ (lying_allowed _ s w c.in_record c.in_weather)) (reaching_allowed _ s w c.in_record c.in_weather))

  -- and its step is the call's
  pub ground_steps : {n : Snow} → n ≡ snow_of s w → call_in s w ≡ true → on_ground (lying s n) (reaching w n) ≡ sub_call s w
  unfolding stepped
  ground_steps is t = ap (λ (n : Snow). on_ground (lying s n) (reaching w n)) is ∙ sym (step_in t)

  pub step_accepts : CallIn s w → sub_call s w ≡ stepped s w
  step_accepts h = step_in (call_in_lem s w (record_in_lem s.fixed.reach s h.in_record) h.in_weather)

  -- an accepted call was inside its limits
  pub step_accepted : (sub_call s w).number ≡ 0 → CallIn s w
  unfolding sub_call
  step_accepted =
      by_test (λ (st : Stepped). st.number ≡ 0 → CallIn s w) (call_in s w) (λ t e. call_limits t) (λ t e. absurd (omega arith))

  -- with PE of one slice at most
  pub call_whole : pe_of s w ≤ most_slice → sub_call s w ≡ whole_call s w
  unfolding sub_call whole_call stepped stepped_whole on_ground on_ground_whole pe_of
  call_whole h =
      let lies = lying s (snow_of s w) in
      let ev = evaporated_of lies (reaching w (snow_of s w)) in
      ap (λ (sl : Sliced). cond (call_in s w) (with_slices lies ev sl) (returned s)) (sliced_once s.fixed ev.layers s.contents.g ev.pe h)

-- what an answer says of its call
module _ (s : SubBasin) (w : Weather) {after : SubBasin} where
  module _ (f : Flows) (h : as_stepped after (Ok f) ≡ sub_call s w) where
    pub ok_in : CallIn s w
    ok_in = step_accepted s w (ap (λ (st : Stepped). st.number) (sym h))

    pub ok_steps : as_stepped after (Ok f) ≡ stepped s w
    ok_steps = h ∙ step_accepts s w ok_in

  module _ (why : Refusal) (h : as_stepped after (Err why) ≡ sub_call s w) where
    pub err_out : CallIn s w → ⊥
    unfolding stepped on_ground
    err_out k = absurd (omega (arith, number_some why, ap (λ (st : Stepped). st.number) (h ∙ step_accepts s w k)))
