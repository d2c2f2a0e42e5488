-- `subbasin::ground::Ground::take_slices` meets its contract: what the slices gave is carried from turn to turn. Assumes nothing.
use Prim.Native.Nat.{ℕ, ◌-◌}
use Rattle.common.proofs.Loops.{Carrying}
use Rattle.subbasin.specs.declared.record.Parameters.{Parameters}
use Rattle.subbasin.specs.declared.slices.Sliced.{Sliced}
use Rattle.subbasin.specs.Slices.{slices, slice, after_slice}
use Rattle.subbasin.proofs.ground.Ground.take_slices.Given as goal

abbrev pub Slicing : Parameters → ℕ → Sliced → ℕ → Sliced → Type 0
Slicing p pe s₀ i s = Carrying (λ k t. after_slice p (slice pe k) t) s₀ (slices pe) i s

abbrev pub invariant-loop-i : goal.invariant-loop-i
invariant-loop-i l = Slicing l.self.p.now l.pe l.initial.given l.i l.given

abbrev pub decreases-loop-i : goal.decreases-loop-i
decreases-loop-i l = l.i-end - l.i
