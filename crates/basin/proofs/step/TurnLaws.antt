-- One sub-basin's turn: its own call judges its record, REACH apart, and what it gives fits into machine words. Assumes nothing.
use mathlib.Core.Path.{◌≡◌, refl, ap, ◌∙◌}
use mathlib.Core.Bool.{false}
use Prim.Native.Nat.{ℕ, ◌+◌, ◌*◌, ◌^◌, ◌≤◌, ◌<◌}
use native.Mathlib.Nat.{le_refl, mul-le-mul_right}
use native.Mathlib.Omega.{arith}
use Rattle.std.proofs.Common.{Result, Ok, Err}
use Rattle.std.specs.Result.{result_or}
use Rattle.common.specs.declared.refusal.Refusal.{Refusal}
use Rattle.common.specs.declared.refusal.Refusal.TheVariants.{BadBasin}
use Rattle.common.specs.declared.weather.Weather.{Weather}
use Rattle.common.specs.Weather.{WeatherIn}
use Rattle.common.specs.Amounts.{capped}
use Rattle.common.proofs.Limits.{refuted}
use Rattle.subbasin.specs.declared.record.SubBasin.{SubBasin}
use Rattle.subbasin.specs.declared.step.Flows.{Flows}
use Rattle.subbasin.specs.Record.{record_in}
use Rattle.subbasin.specs.Content.{water}
use Rattle.subbasin.specs.Step.{Stepped, as_stepped, stepped, sub_call}
use Rattle.subbasin.proofs.record.RecordLaws.{RecordIn, record_limits, record_in_lem, record_other}
use Rattle.subbasin.proofs.step.StepLaws.{q_fits, rain_fits, evaporated_fits, water_after_fits}
use Rattle.subbasin.proofs.step.CallLaws.{ok_in, ok_steps, err_out}
use Rattle.basin.specs.Workers.{Turned}

module _ (m : ℕ) (s : SubBasin) (w : Weather) where
  pub reach_outside : m < s.fixed.reach → record_in m s ≡ false
  reach_outside h = refuted (record_in m s) (λ t. let words = (record_limits m s t).in_words in omega arith)

  module _ (k : WeatherIn w) (after : SubBasin) where
    call_refuses : (why : Refusal) → as_stepped after (Err why) ≡ sub_call s w → record_in m s ≡ false
    call_refuses why called =
        refuted (record_in m s) (λ t.
        err_out s w why called (record { in_record = record_other m s.fixed.reach s (record_limits m s t) (le_refl s.fixed.reach); in_weather = k }))

    -- whatever it is that its own call refuses, the basin's refusal is 9
    pub turn_refused : (r : Result Flows Refusal) {told : Refusal} → as_stepped after r ≡ sub_call s w → Err told ≡ result_or r (Err BadBasin)
        → (record_in m s ≡ false) × (told ≡ BadBasin)
    turn_refused (Ok f) called e = cc
    turn_refused (Err why) called e = (call_refuses why called, cc)

    taken : (r : Result Flows Refusal) (f : Flows) → as_stepped after r ≡ sub_call s w → Ok f ≡ result_or r (Err BadBasin) → as_stepped after (Ok f) ≡ sub_call s w
    taken (Ok g) f called e = ap (as_stepped after) e ∙ called
    taken (Err why) f called e = cc

    module _ (reach : s.fixed.reach ≤ m) (r : Result Flows Refusal) (f : Flows) (call : as_stepped after r ≡ sub_call s w) (ok : Ok f ≡ result_or r (Err BadBasin)) where
      called : as_stepped after (Ok f) ≡ sub_call s w
      called = taken r f call ok

      st_is : as_stepped after (Ok f) ≡ stepped s w
      st_is = ok_steps s w f called

      in_record : RecordIn m s
      in_record = record_other s.fixed.reach m s (ok_in s w f called).in_record reach

      loss_is : s.fixed.area * (f.eu + f.el + f.ed) ≡ s.fixed.area * ((stepped s w).eu + (stepped s w).el + (stepped s w).ed)
      loss_is = ap (λ (x : Stepped). s.fixed.area * (x.eu + x.el + x.ed)) st_is

      -- the sums and products of a turn fit
      pub record Fits : Type 0 where
        pub rain_most : s.fixed.area * w.rain ≤ 2 ^ 33
        pub loss_most : s.fixed.area * (f.eu + f.el + f.ed) ≤ 2 ^ 30
        pub depths_most : f.eu + f.el + f.ed ≤ 2 ^ 30

      pub turn_fits : Fits
      turn_fits =
          let loss : s.fixed.area * (f.eu + f.el + f.ed) ≤ 2 ^ 30 = omega (arith, loss_is, evaporated_fits m s w in_record k) in
          let words = in_record.in_words in
          record {
            rain_most = rain_fits m s w in_record k;
            loss_most = loss;
            depths_most = omega (arith, loss, mul-le-mul_right {m = 1} {n = s.fixed.area} (f.eu + f.el + f.ed) words.0);
          }

      pub turn_accepted : {held : ℕ} → held ≡ capped (water after)
          → Turned m s w after
          (record { to = s.fixed.reach; q = f.q; rain = s.fixed.area * w.rain; loss = s.fixed.area * (f.eu + f.el + f.ed); held = held })
      turn_accepted {held} e =
          let water_is = ap (λ (x : Stepped). water x.after) st_is in
          let q_is = ap (λ (x : Stepped). x.q) st_is in
          let water_most = water_after_fits m s w in_record k in
          record {
            allowed = record_in_lem m s in_record;
            after_is = ap (λ (x : Stepped). x.after) st_is;
            to_is = refl;
            q_is = q_is;
            rain_is = refl;
            loss_is = loss_is;
            held_is = omega arith;
            to_most = reach;
            q_most = omega (arith, q_fits m s w in_record k);
            rain_most = turn_fits.rain_most;
            loss_most = turn_fits.loss_most;
            held_most = omega arith;
          }
