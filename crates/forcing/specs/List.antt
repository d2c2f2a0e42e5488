-- The lines of one step: document 01, "The forcing list" and the gauge readers of "Who sent it", with document 02, Nos. 7 and 8.
-- Document 01 counts lines from 1, and so do places; the lists here count from 0.
use Rattle.std.specs.Prelude.{ℕ, ◌+◌, ◌-◌, ◌≤◌, ◌<◌, ◌≡◌, Bool, true, false, cond, ◌&&◌, ◌↔◌, List, eqb, Float, get_or, replicate, Result, Ok, Err}
use Rattle.std.specs.Float.{binary32}
use Rattle.std.specs.Float.Ieee.{of_bits}
use Rattle.common.specs.declared.weather.Weather.{Weather}
use Rattle.common.specs.declared.refusal.Refused.{Refused}
use Rattle.common.specs.Refusals.{number_of as refusal_number}
use Rattle.common.specs.Weather.{calm}
use Rattle.common.specs.Loops.{table, sum_of, every, first_bad}
use Rattle.forcing.specs.declared.list.Reading.{Reading}
use Rattle.forcing.specs.declared.list.Reading.TheVariants.{Measured, Estimated, Missing}
use Rattle.forcing.specs.declared.list.Line.{Line}
use Rattle.forcing.specs.declared.list.Readings.{Readings}
use Rattle.forcing.specs.declared.depth.Gauge.TheVariants.{Rain, Pan}
use Rattle.forcing.specs.Depth.{depth_of, limit_of, from_zero_to, number_of}
use Rattle.forcing.specs.Temperature.{thousandths, is_temperature, temperature_number}

-- ---- "The forcing list": lines

-- past the end of a list there is no line: its rain counts as missing
abbrev pub blank : Line
blank = record { rain = Missing; pan = of_bits binary32 0; temperature = of_bits binary32 0 }

-- "line k for sub-basin k", with k counted from 0 here
abbrev pub line_at : List Line → ℕ → Line
line_at lines k = get_or lines k blank

-- "Depth in µm" of a reading, where "estimated counts as measured"
abbrev pub rain_depth : Reading → ℕ
rain_depth (Measured x) = depth_of x
rain_depth (Estimated x) = depth_of x
rain_depth Missing = 0

-- of a line
unfoldable pub weather_of : Line → Weather
weather_of l = record { rain = rain_depth l.rain; pan = depth_of l.pan; temperature = thousandths l.temperature }

-- ---- "The forcing list": inside the limits

-- "rain isn't missing", and its number is from 0 to its limit
abbrev pub rain_inside : Reading → Bool
rain_inside (Measured x) = from_zero_to (limit_of Rain) x
rain_inside (Estimated x) = from_zero_to (limit_of Rain) x
rain_inside Missing = false

-- "rain isn't missing and both numbers are from 0 to their limits", and the temperature is in its range
unfoldable pub line_inside : Line → Bool
line_inside l = rain_inside l.rain && from_zero_to (limit_of Pan) l.pan && is_temperature l.temperature

-- "Forcing is inside the limits when the count is N and, in every line 1..N, rain isn't missing and both numbers are from 0 to their limits",
-- "which now ask the temperature's range too in every line 1..N"
pub record Inside (lines : List Line) (count n : ℕ) : Type 0 where
  pub counted : count ≡ n
  pub each : (k : ℕ) → k < n → line_inside (line_at lines k) ≡ true

-- the same as a test, for a rule that goes by it
unfoldable pub is_inside : List Line → ℕ → ℕ → Bool
is_inside lines count n = eqb count n && every (λ k. line_inside (line_at lines k)) n

-- ---- "The forcing list": what a step reports

-- 1 of an estimated reading, 0 of any other
abbrev pub estimated_of : Reading → ℕ
estimated_of (Measured x) = 0
estimated_of (Estimated x) = 1
estimated_of Missing = 0

-- ---- "Who sent it": gauge readers

-- "6 rain missing"
abbrev pub rain_number : Reading → ℕ
rain_number (Measured x) = number_of (limit_of Rain) x
rain_number (Estimated x) = number_of (limit_of Rain) x
rain_number Missing = 6

abbrev pub pan_number : Float → ℕ
pan_number x = number_of (limit_of Pan) x

-- "rain before pan", and 14 "after rain and pan on its line"; a line is bad where this is not 0
unfoldable pub line_number : Line → ℕ
line_number l =
    cond (eqb (rain_number l.rain) 0)
    (cond (eqb (pan_number l.pan) 0) (temperature_number l.temperature) (pan_number l.pan))
    (rain_number l.rain)

-- "6 to 8 are for the first bad line, .. place its line", 12 and 13 "where 7 was", and 14 "place its line": number and place, zeros where none of lines 1..n is bad
abbrev pub first_bad_line : List Line → ℕ → ℕ × ℕ
first_bad_line lines n = first_bad (λ k. line_number (line_at lines k)) n

-- the forcing of one step, its weather by sub-basin: number and place are 0 where it is accepted
pub record Forcing : Type 0 where
  pub number : ℕ
  pub place : ℕ
  pub estimated : ℕ
  pub weather : List Weather

-- the forcing of a step whose lines 1..n are not bad: "how many estimated lines it had", and the weather of "up to 32 lines"
abbrev pub accepted : List Line → ℕ → Forcing
accepted lines n =
    record {
      number = 0;
      place = 0;
      estimated = sum_of (λ k. estimated_of (line_at lines k).rain) n;
      weather = table (λ k. weather_of (line_at lines k)) calm n 32;
    }

-- "A refused step reports zeros"
abbrev pub refusal : ℕ → ℕ → Forcing
refusal number place = record { number = number; place = place; estimated = 0; weather = replicate 32 calm }

-- the forcing that a reading's result stands for
abbrev pub as_forcing : Result Readings Refused → Forcing
as_forcing (Ok r) = record { number = 0; place = 0; estimated = r.estimated; weather = r.weather }
as_forcing (Err e) = refusal (refusal_number e.why) e.place

-- lines 1..n judged
unfoldable pub judged_lines : List Line → ℕ → Forcing
judged_lines lines n = cond (eqb (first_bad_line lines n).0 0) (accepted lines n) (refusal (first_bad_line lines n).0 (first_bad_line lines n).1)

-- "5 line count not N (place 0)", before any line; what `read` answers
unfoldable pub reading : List Line → ℕ → ℕ → Forcing
reading lines count n = cond (eqb count n) (judged_lines lines n) (refusal 5 0)

-- ---- what document 01 says of the answer r, beside this rule

-- "rain before pan", and 14 "after rain and pan": the number of a bad line
pub record InOrder (l : Line) (number : ℕ) : Type 0 where
  pub rain_bad : rain_inside l.rain ≡ false → number ≡ rain_number l.rain
  pub pan_bad : rain_inside l.rain ≡ true → from_zero_to (limit_of Pan) l.pan ≡ false → number ≡ pan_number l.pan
  pub temperature_bad : rain_inside l.rain ≡ true → from_zero_to (limit_of Pan) l.pan ≡ true → number ≡ temperature_number l.temperature

-- "6 to 8 are for the first bad line, rain before pan, place its line", 12 and 13 "where 7 was", and 14 "after rain and pan on its line"
pub record ForFirstBad (lines : List Line) (n : ℕ) (r : Forcing) : Type 0 where
  pub place_least : 1 ≤ r.place
  pub place_most : r.place ≤ n
  pub before : (k : ℕ) → k + 1 < r.place → line_inside (line_at lines k) ≡ true
  pub itself : line_inside (line_at lines (r.place - 1)) ≡ false
  pub number_is : InOrder (line_at lines (r.place - 1)) r.number
  -- "A refused step reports zeros"
  pub zeros : r ≡ refusal r.number r.place

pub record JudgedList (lines : List Line) (count n : ℕ) (r : Forcing) : Type 0 where
  -- accepted exactly when "Forcing is inside the limits"
  pub accepts : (r.number ≡ 0) ↔ Inside lines count n
  -- "5 line count not N (place 0)", whatever the lines
  pub counts : (count ≡ n → ⊥) → r ≡ refusal 5 0
  pub finds : count ≡ n → (r.number ≡ 0 → ⊥) → ForFirstBad lines n r
  -- "lines past the count aren't looked at"
  pub looks : (other : List Line) → ((k : ℕ) → k < count → line_at other k ≡ line_at lines k) → reading other count n ≡ r
