-- The rows of the curve among document 01's "Proved cases", computed. Assumes nothing.
use mathlib.Core.Path.{◌≡◌, refl}
use Rattle.common.specs.Cases.{Agree}
use Rattle.curve.specs.Capacity.{power}
use Rattle.curve.specs.Cases.{curve_cases}
use Rattle.curve.proofs.capacity.FastLaws.{fast_power, fast_held, fast_ordinate, power_fast, held_fast, ordinate_fast}

pub curve_cases_lem : Agree curve_cases
unfolding fast_power fast_held fast_ordinate
curve_cases_lem = simp (power_fast, held_fast, ordinate_fast) (refl, (refl, (refl, (refl, (refl, (refl, (refl, (refl, (refl, tt)))))))))

-- all four parts, in their order: with the last two exchanged it would be 55231
pub power_order : power 60000 31 ≡ 55232
unfolding fast_power
power_order = rw power_fast
