-- One line: it is bad exactly where it is not inside the limits, and what it comes to otherwise.
-- Assumes nothing.
use mathlib.Core.Bool.{true, false, cond, ◌&&◌}
use mathlib.Core.Path.{◌≡◌, refl, sym, ap, ◌∙◌}
use Prim.Native.Nat.{ℕ, ◌≤◌, zero-le}
use native.Mathlib.Omega.{arith}
use lib.Dec.{eqb}
use lib.IntN.{ℤ, pos}
use lib.Ieee.{Float, of_bits}
use borrow.Author.Tests.{ne_eqb}
use Rattle.common.specs.declared.refusal.Refusal.{Refusal}
use Rattle.common.specs.Refusals.{number_of as refusal_number}
use Rattle.common.proofs.Refusals.{number_some}
use Rattle.common.specs.Weather.{most_rain, WeatherIn}
use Rattle.common.proofs.Limits.{parts}
use Rattle.forcing.specs.Depth.{Depth}
use Rattle.std.proofs.lemmas.Bool.Decides.{nat_tests}
use Rattle.forcing.specs.declared.depth.Gauge.TheVariants.{Rain, Pan}
use Rattle.forcing.specs.declared.list.Reading.{Reading}
use Rattle.forcing.specs.declared.list.Reading.TheVariants.{Measured, Estimated, Missing}
use Rattle.forcing.specs.declared.list.Line.{Line}
use Rattle.forcing.specs.Depth.{limit_of, from_zero_to, above_limit, number_of, answer, depth_call}
use Rattle.forcing.specs.List.{blank, rain_depth, weather_of, rain_inside, line_inside, estimated_of, rain_number, pan_number, line_number, InOrder}
use Rattle.forcing.specs.Temperature.{is_temperature, Temperature, answer as temperature_answer, temperature_call}
use Rattle.forcing.specs.Workers.{rain_call}
use Rattle.forcing.proofs.depth.DepthLaws.{depth_le, call_number, call_depth}
use Rattle.forcing.proofs.depth.NumberLaws.{number_test}
use Rattle.forcing.proofs.temperature.TemperatureLaws.{temperature_test, call_number as temperature_number_is, call_temperature, thousandths_least, thousandths_most}

-- ---- inside the limits

rain_test : (r : Reading) → eqb (rain_number r) 0 ≡ rain_inside r
rain_test (Measured x) = number_test (limit_of Rain) x
rain_test (Estimated x) = number_test (limit_of Rain) x
rain_test Missing = refl

pan_test : (x : Float) → eqb (pan_number x) 0 ≡ from_zero_to (limit_of Pan) x
pan_test x = number_test (limit_of Pan) x

pub line_test : (l : Line) → eqb (line_number l) 0 ≡ line_inside l
unfolding line_number line_inside
line_test l = rw (← (rain_test l.rain), ← (pan_test l.pan), ← (temperature_test l.temperature)) (grind (arith, nat_tests))

-- "rain before pan", and the temperature after both
pub in_order : (l : Line) → InOrder l (line_number l)
unfolding line_number
in_order l =
    let rain = rain_test l.rain in
    let pan = pan_test l.pan in
    record { rain_bad = λ r. grind (arith, nat_tests); pan_bad = λ r p. grind (arith, nat_tests); temperature_bad = λ r p. grind (arith, nat_tests) }

-- past the end of a list rain is missing
pub blank_number : line_number blank ≡ 6
unfolding of_bits line_number number_of above_limit
blank_number = refl

rain_le : (r : Reading) → rain_inside r ≡ true → rain_depth r ≤ most_rain
rain_le (Measured x) h = depth_le (limit_of Rain) x h
rain_le (Estimated x) h = depth_le (limit_of Rain) x h
rain_le Missing h = zero-le

pub line_weather : (l : Line) → line_inside l ≡ true → WeatherIn (weather_of l)
unfolding line_inside weather_of
line_weather l h =
    let depths = parts (rain_inside l.rain && from_zero_to (limit_of Pan) l.pan) (is_temperature l.temperature) h in
    let both = parts (rain_inside l.rain) (from_zero_to (limit_of Pan) l.pan) depths.0 in
    record {
      rain_most = rain_le l.rain both.0;
      pan_most = depth_le (limit_of Pan) l.pan both.1;
      temperature_least = thousandths_least l.temperature depths.1;
      temperature_most = thousandths_most l.temperature depths.1;
    }

pub estimated_one : (r : Reading) → estimated_of r ≤ 1
estimated_one (Measured x) = omega arith
estimated_one (Estimated x) = omega arith
estimated_one Missing = omega arith

-- ---- a line judged

some : (why : Refusal) → eqb (refusal_number why) 0 ≡ false
some why = ne_eqb (refusal_number why) 0 (λ z. omega (arith, z, number_some why))

rain_number_is : (r : Reading) → (rain_call r).number ≡ rain_number r
rain_number_is (Measured x) = call_number x Rain
rain_number_is (Estimated x) = call_number x Rain
rain_number_is Missing = refl

rain_depth_is : (r : Reading) {d : ℕ} → answer 0 d ≡ rain_call r → d ≡ rain_depth r
rain_depth_is (Measured x) e = call_depth x Rain e
rain_depth_is (Estimated x) e = call_depth x Rain e
rain_depth_is Missing e = absurd (omega (arith, ap (λ (p : Depth). p.number) e))

-- the calls on rain, pan and temperature, in the order in which they are judged
module _ (l : Line) where
  abbrev pub first : Depth
  first = rain_call l.rain

  abbrev pub second : Depth
  second = depth_call l.pan Pan

  abbrev pub third : Temperature
  third = temperature_call l.temperature

  number_is : line_number l ≡ cond (eqb first.number 0) (cond (eqb second.number 0) third.number second.number) first.number
  unfolding line_number
  number_is = rw (rain_number_is l.rain, call_number l.pan Pan, temperature_number_is l.temperature)

  -- a bad rain's number is the line's
  pub first_bad_lem : {p : Depth} → p ≡ first → (p.number ≡ 0 → ⊥) → p.number ≡ line_number l
  first_bad_lem {p} e bad =
      let n = ap (λ (p : Depth). p.number) e in
      sym (number_is ∙ rw (← n, ne_eqb p.number 0 bad))

  -- the four ways out of `judge_line`, with the depths d and e and the temperature t
  pub first_refuses : (why : Refusal) → answer (refusal_number why) 0 ≡ first → refusal_number why ≡ line_number l
  first_refuses why p = first_bad_lem p (λ z. omega (arith, z, number_some why))

  module _ {d : ℕ} (p : answer 0 d ≡ first) where
    pub second_refuses : (why : Refusal) → answer (refusal_number why) 0 ≡ second → refusal_number why ≡ line_number l
    second_refuses why q =
        let m : 0 ≡ first.number = cc in
        let n : refusal_number why ≡ second.number = cc in
        sym (number_is ∙ rw (← m, ← n, some why))

    module _ {e : ℕ} (q : answer 0 e ≡ second) where
      third_number : third.number ≡ line_number l
      third_number =
          let m : 0 ≡ first.number = cc in
          let n : 0 ≡ second.number = cc in
          sym (number_is ∙ rw (← m, ← n))

      pub third_refuses : (why : Refusal) → temperature_answer (refusal_number why) (pos 0) ≡ third → refusal_number why ≡ line_number l
      third_refuses why r = let n : refusal_number why ≡ third.number = cc in n ∙ third_number

      pub line_good : {t u : ℤ} → temperature_answer 0 t ≡ third → u ≡ t → (line_number l ≡ 0) × (record { rain = d; pan = e; temperature = u } ≡ weather_of l)
      unfolding weather_of
      line_good r same =
          let n : 0 ≡ third.number = cc in
          (sym (n ∙ third_number), rw (← (rain_depth_is l.rain p), ← (call_depth l.pan Pan q), same, ← (call_temperature l.temperature r)))
