-- `forcing::temperature::temperature_of` meets its contract: only a NaN has no bits, and any other number is what its bits stand for.
-- Assumes nothing.
use mathlib.Core.Path.{◌≡◌, sym, ap, ◌∙◌}
use lib.Ieee.{Float}
use Rattle.forcing.specs.Temperature.{Temperature, temperature_call, JudgedTemperature}
use Rattle.forcing.proofs.BitsLaws.{of_its_bits}
use Rattle.forcing.proofs.temperature.TemperatureLaws.{temperature_judged}
use Rattle.forcing.proofs.temperature.ValueLaws.{nan_answer}
use Rattle.forcing.proofs.temperature.temperature_of.Goals as goal

-- the answer's equation, and with it what the documents say of it
answered : (x : Float) {t : Temperature} → temperature_call x ≡ t → record { answered : t ≡ temperature_call x; judged : JudgedTemperature x t }
answered x e = record { answered = sym e; judged = rw (← e) (temperature_judged x) }

pub returns-then-is_nan : goal.returns-then-is_nan
returns-then-is_nan c = answered _ (nan_answer c.args.x c.if-is_nan.ensures.value)

pub returns : goal.returns
returns c = answered _ (ap temperature_call (sym (of_its_bits c.args.x c.well_formed.0.1)) ∙ sym c.judge_bits.ensures)
