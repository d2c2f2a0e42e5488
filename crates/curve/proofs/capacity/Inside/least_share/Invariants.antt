-- `curve::capacity::Inside::least_share` meets its contract. The invariant of its loop: with the share hi at most w is held, with lo more;
-- where it is tried between them does not matter. The measure is the length of the interval. Assumes nothing.
use Prim.Native.Nat.{◌-◌, ◌≤◌, ◌<◌}
use Rattle.common.specs.Shares.{one}
use Rattle.curve.specs.Capacity.{held_at}
use Rattle.curve.proofs.capacity.Inside.least_share.Given as goal

abbrev pub invariant-loop-self : goal.invariant-loop-self
invariant-loop-self g l =
    (l.lo < l.at) × (l.at < l.hi) × (l.hi ≤ one) × (0 < l.step) × (l.step ≤ one) × (l.w < held_at l.self.curve.c l.self.curve.e l.lo)
    × (held_at l.self.curve.c l.self.curve.e l.hi ≤ l.w)

abbrev pub decreases-loop-self : goal.decreases-loop-self
decreases-loop-self g l = l.hi - l.lo
