-- `curve::powers::whole_of` meets its contract. Assumes nothing.
use mathlib.Core.Path.{◌≡◌}
use Rattle.curve.specs.Capacity.{whole}
use Rattle.curve.proofs.powers.whole_of.Given as goal

abbrev pub invariant-loop : goal.invariant-loop
invariant-loop l = l.x ≡ whole l.t l.counter
