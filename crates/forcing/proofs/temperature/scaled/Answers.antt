-- `forcing::temperature::scaled` meets its contract. Assumes nothing.
use native.Mathlib.Omega.{arith}
use mir.Syntax.{w64}
use Rattle.std.proofs.lemmas.Int.{ints, to_z-of_z}
use Rattle.forcing.proofs.temperature.ValueLaws.{half_le, sum_is, below_range, above_range, shift_fits, within_range}
use Rattle.forcing.proofs.temperature.scaled.Goals.{then-significand-degree-via-then-significand-degree, then-significand-degree-via-else-significand-degree+then-degree-significand}
use Rattle.forcing.proofs.temperature.scaled.Goals as goal

pub returns-then-significand-degree : goal.returns-then-significand-degree
returns-then-significand-degree c =
    let p = c.args.places in
    elim c.then-significand-degree.branch [
      | then-significand-degree-via-then-significand-degree w ↦ below_range c.args.significand p (omega arith) (omega (arith, ints, half_le))
      | then-significand-degree-via-else-significand-degree+then-degree-significand w ↦ above_range c.args.significand p (omega arith) (omega (arith, ints, half_le))
    ]

pub returns : goal.returns
returns c =
    let p = c.args.places in
    within_range c.args.significand p (omega arith) (omega (arith, ints, half_le)) (omega (arith, ints, half_le))
    (sum_is c.args.significand p (omega arith) c.requires.digits) (to_z-of_z w64 _ (shift_fits _ (omega (arith, ints))))
