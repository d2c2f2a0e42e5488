-- Newton's way to the root meets its contract. The invariant of its loop: the square of r + 1 is above n, which with the
-- test that fails at the end makes r the root. The measure is r, which each of Newton's steps brings down. Assumes nothing.
use mathlib.Core.Path.{◌≡◌}
use Prim.Native.Nat.{◌+◌, ◌*◌, ◌≤◌, ◌<◌}
use Rattle.common.specs.Shares.{one}
use Rattle.curve.proofs.roots.NewtonFindRoot.root_of.Given as goal

abbrev pub invariant-loop-r : goal.invariant-loop-r
invariant-loop-r l = (l.n ≡ l.fn.t * one) × (l.n < (l.r + 1) * (l.r + 1)) × (l.r ≤ one)

abbrev pub decreases-loop-r : goal.decreases-loop-r
decreases-loop-r l = l.r
