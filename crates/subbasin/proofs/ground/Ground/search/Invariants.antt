-- `subbasin::ground::Ground::search` meets its contract: the walk is carried from rain to rain, and none before did. Assumes nothing.
use Prim.Native.Nat.{ℕ, ◌-◌}
use lib.Dec.{ltb}
use Rattle.common.proofs.Loops.{Carrying, Trying}
use Rattle.subbasin.specs.declared.record.Parameters.{Parameters}
use Rattle.subbasin.specs.declared.walk.Walk.{Walk}
use Rattle.subbasin.specs.Workers.{walked_to, net_rain, unsoaked}
use Rattle.subbasin.proofs.ground.Ground.search.Given as goal

-- the walk has come to a rain, and no rain before it does
pub record Searching (p : Parameters) (w e wanted : ℕ) (from : Walk) (k : ℕ) (walk : Walk) : Type 0 where
  pub walking : Carrying (λ i x. walked_to p (net_rain e i) x) from 1001 k walk
  pub trying : Trying (λ i. ltb (unsoaked p w e i) wanted) 1001 k

abbrev pub invariant-loop-k : goal.invariant-loop-k
invariant-loop-k l = Searching l.self.p.now l.w l.e l.wanted l.initial.walk l.k l.walk

abbrev pub decreases-loop-k : goal.decreases-loop-k
decreases-loop-k l = 1001 - l.k
