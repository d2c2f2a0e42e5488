-- `subbasin::ground::raise` meets its contract: both calls of the curve are inside its limits. Assumes nothing.
use native.Mathlib.Omega.{arith}
use Rattle.curve.proofs.capacity.CallLaws.{curve_limits, ordinate_ok, held_ok, unwraps, ok_le, ok_risen}
use Rattle.subbasin.proofs.ground.raise.Goals as goal

pub unwrap-from-requires : goal.unwrap-from-requires
unwrap-from-requires c = unwraps (ordinate_ok _ _ _ _ (curve_limits _ _ _ c.requires.0) c.requires.1 c.ordinate.ensures)

pub overflow_add-from : goal.overflow_add-from
overflow_add-from c =
    let inside = curve_limits _ _ _ c.requires.0 in
    omega (arith, ok_le inside c.requires.1 c.ordinate.ensures c.unwrap-from.ensures, inside, c.requires.2)

pub unwrap-requires : goal.unwrap-requires
unwrap-requires c = unwraps (held_ok _ _ _ _ (curve_limits _ _ _ c.requires.0) (omega (arith, c.min.ensures)) c.held.ensures)

pub returns : goal.returns
returns c =
    ok_risen (curve_limits _ _ _ c.requires.0) c.requires.1 c.ordinate.ensures c.unwrap-from.ensures _ c.min.ensures c.held.ensures c.unwrap.ensures
