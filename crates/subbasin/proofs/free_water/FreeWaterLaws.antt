-- Free water: what is kept is at most what there is and at most SM, and what drains is part of it. Assumes nothing.
use mathlib.Core.Path.{◌≡◌}
use Prim.Native.Nat.{ℕ, ◌+◌, ◌*◌, ◌/◌, ◌≤◌}
use native.Mathlib.Nat.{mul-le-mul, mul-le-mul_right, div-le_of_le-mul}
use native.Mathlib.Omega.{arith}
use lib.Dec.{ltb}
use borrow.Author.Tests.{le-ltb, ltb-false}
use Rattle.common.specs.Shares.{one}
use Rattle.curve.specs.Capacity.{rise}
use Rattle.curve.proofs.capacity.CallLaws.{CurveIn}
use Rattle.curve.proofs.capacity.HeldLaws.{rise_le}
use Rattle.subbasin.specs.declared.record.Parameters.{Parameters}
use Rattle.subbasin.specs.declared.record.SubBasin.{SubBasin}
use Rattle.subbasin.specs.declared.record.Sender.{Sender}
use Rattle.subbasin.specs.Record.{words}
use Rattle.subbasin.specs.declared.free_water.Drained.{Drained}
use Rattle.subbasin.specs.Workers.{FreeIn}
use Rattle.subbasin.specs.FreeWater.{ms, level, keep, drained}
use Rattle.common.proofs.Limits.{by_test, Within}

module _ (m : ℕ) (v : Sender) (s : SubBasin) (h : Within (words m v s)) where
  pub free_in : FreeIn s.fixed
  free_in = omega arith

  pub g_in : s.contents.g ≤ s.fixed.sm
  g_in = omega arith

-- the curve of free water is inside the limits of a curve, with MS at most 300,000
pub ms_most : (p : Parameters) → FreeIn p → ms p ≤ 300000
unfolding ms
ms_most p free = omega (arith, mul-le-mul {n₁ = p.sm} {m₁ = p.xn} {n₂ = 100000} {m₂ = 48} free.sm_most free.xn_most)

ms_least : (p : Parameters) → FreeIn p → 1 ≤ ms p
unfolding ms
ms_least p free = omega (arith, mul-le-mul {n₁ = 1} {m₁ = 16} {n₂ = p.sm} {m₂ = p.xn} free.sm_least free.xn_least)

pub free_curve_lem : (p : Parameters) → FreeIn p → CurveIn p.sm (ms p) p.xn
free_curve_lem p free = omega (arith, ms_least p free, ms_most p free)

pub level_le : (p : Parameters) (g pe r : ℕ) → level p g pe r ≤ p.sm
unfolding level
level_le p g pe r = omega arith

-- a part r / pe of what is at most m is at most m
part_most : (x m r pe : ℕ) → x ≤ m → r ≤ pe → x * r / pe ≤ m
part_most x m r pe h k = div-le_of_le-mul pe (omega (arith, mul-le-mul {n₁ = x} {m₁ = r} {n₂ = m} {m₂ = pe} h k))

-- without runoff all is kept
pub keep_none : (p : Parameters) (g pe r : ℕ) → r ≡ 0 → keep p g pe r ≡ g
unfolding keep
keep_none p g pe r h = rw (le-ltb 0 r (omega arith))

-- what is kept: no more than there is, and no more than SM
pub record Keeps (p : Parameters) (g r kept : ℕ) : Type 0 where
  pub within_all : kept ≤ g + r
  pub within_sm : kept ≤ p.sm

pub keeps : (p : Parameters) (g pe r : ℕ) → g ≤ p.sm → r ≤ pe → Keeps p g r (keep p g pe r)
unfolding keep
keeps p g pe r hg hr =
    let s2 : ℕ = rise p.sm (ms p) p.xn (level p g pe r) pe in
    let top : s2 * r / pe ≤ p.sm = part_most s2 p.sm r pe (rise_le p.sm (ms p) p.xn (level p g pe r) pe) hr in
    by_test (Keeps p g r) (ltb 0 r) (λ _. omega arith) (λ t. let z : r ≤ 0 = ltb-false 0 r t in omega arith)

-- RI, RG and the free water after are what was kept
pub record Drains (kept : ℕ) (d : Drained) : Type 0 where
  pub balance : kept ≡ d.ri + d.rg + d.g

-- the drains take no more than there is
pub drains_most : (p : Parameters) (kept : ℕ) → FreeIn p → p.ki * kept / one + p.kg * kept / one ≤ kept
drains_most p kept free = omega (arith, mul-le-mul_right kept free.drains)

pub drained_drains : (p : Parameters) (kept : ℕ) → FreeIn p → Drains kept (drained p kept)
unfolding drained
drained_drains p kept free = omega (arith, drains_most p kept free)
