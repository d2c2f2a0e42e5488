-- The weather of one line: document 01, "The forcing list", and document 02, No. 8. Depths in µm, temperatures in thousandths of a degree Celsius.
use Rattle.std.specs.Prelude.{ℕ, ◌≤◌, ℤ, pos, neg_ℤ, ◌≤ℤ◌}
use Rattle.common.specs.declared.weather.Weather.{Weather}

-- "rain 1,000, pan 100" millimetres
abbrev pub most_rain : ℕ
most_rain = 1000000

abbrev pub most_pan : ℕ
most_pan = 100000

-- "an air temperature in °C .. from −80 to 60"
abbrev pub least_temperature : ℤ
least_temperature = neg_ℤ (pos 80000)

abbrev pub most_temperature : ℤ
most_temperature = pos 60000

-- no rain, no pan, 0 °C
abbrev pub calm : Weather
calm = record { rain = 0; pan = 0; temperature = pos 0 }

-- all inside their limits
pub record WeatherIn (w : Weather) : Type 0 where
  pub rain_most : w.rain ≤ most_rain
  pub pan_most : w.pan ≤ most_pan
  pub temperature_least : least_temperature ≤ℤ w.temperature
  pub temperature_most : w.temperature ≤ℤ most_temperature
