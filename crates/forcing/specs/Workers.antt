-- What the private functions require and answer: no part of document 01.
use Rattle.std.specs.Prelude.{cond, ℕ, ◌≤◌, ◌<◌, ℤ, pos}
use Rattle.forcing.specs.declared.depth.Gauge.TheVariants.{Rain}
use Rattle.forcing.specs.declared.list.Reading.{Reading}
use Rattle.forcing.specs.declared.list.Reading.TheVariants.{Measured, Estimated, Missing}
use Rattle.forcing.specs.Depth.{nearest, above_limit, Depth, answer, answer_by, depth_call}
use Rattle.forcing.specs.Temperature.{in_range, nearest_whole, Temperature, answer as temperature_answer}

-- a significand of at most 24 binary digits, over 2^14 or more
pub record Scaled (significand places : ℕ) : Type 0 where
  pub digits : significand < 16777216
  pub far : 14 ≤ places

-- what judging and rounding make of the value a / b
abbrev pub of_fraction : ℕ → ℕ → ℕ → Depth
of_fraction limit a b = answer_by (cond (above_limit limit a b) 8 0) (nearest a b)

-- and of the value x / b, as a temperature
abbrev pub of_whole_fraction : ℤ → ℕ → Temperature
of_whole_fraction x b = cond (in_range x b) (temperature_answer 0 (nearest_whole x b)) (temperature_answer 14 (pos 0))

-- the depth call on a reading, where "estimated counts as measured"; 6 of a missing one
abbrev pub rain_call : Reading → Depth
rain_call (Measured x) = depth_call x Rain
rain_call (Estimated x) = depth_call x Rain
rain_call Missing = answer 6 0
