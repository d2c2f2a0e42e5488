-- `subbasin::record::SubBasin::snow` meets its contract: what it reads is inside its limits, and no number is too large. Assumes nothing.
use mathlib.Core.Path.{◌≡◌, ap}
use mathlib.Core.Bool.{false}
use Prim.Native.Nat.{ℕ, ◌*◌, ◌/◌, ◌≤◌, min}
use native.Mathlib.Nat.{mul-le-mul}
use native.Mathlib.Omega.{arith}
use lib.IntN.{pos, nat_abs, ◌-ℤ◌}
use mir.Syntax.{w64}
use mir.Val.{to_z, of_z}
use Rattle.std.specs.Prelude.{int_lt}
use Rattle.std.proofs.lemmas.Int.{ints}
use Rattle.common.specs.declared.weather.Weather.{Weather}
use Rattle.subbasin.specs.declared.record.SubBasin.{SubBasin}
use Rattle.subbasin.specs.declared.snow.Snow.{Snow}
use Rattle.subbasin.specs.Snow.{melt, melted, snow}
use Rattle.subbasin.specs.Step.{snow_of}
use Rattle.subbasin.proofs.step.CallLaws.{SnowIn, snow_in}
use Rattle.subbasin.proofs.record.SubBasin.snow.Goals as goal

-- the degrees above the threshold, as the code takes them
module _ (s : SubBasin) (w : Weather) (h : SnowIn s w) where
  abbrev above : ℕ
  above = nat_abs (to_z w64 (of_z w64 (to_z w64 (of_z w64 w.temperature) -ℤ to_z w64 s.fixed.threshold)))

  above_is : above ≡ nat_abs (w.temperature -ℤ pos s.fixed.threshold)
  above_is =
      let same : to_z w64 (of_z w64 (to_z w64 (of_z w64 w.temperature) -ℤ to_z w64 s.fixed.threshold)) ≡ w.temperature -ℤ pos s.fixed.threshold =
      omega (arith, ints) in
      ap nat_abs same

  above_fits : s.fixed.f * above ≤ 20000 * 140000
  above_fits = mul-le-mul {n₂ = 20000} {m₂ = 140000} h.f_most (omega (arith, ints))

  melts : {m : ℕ} {n : Snow} → int_lt w.temperature (pos s.fixed.threshold) ≡ false → m ≡ min s.contents.sn (s.fixed.f * above / 1000)
      → n ≡ melted s.contents.sn w.rain m → n ≡ snow_of s w
  unfolding snow melt
  melts l is e = rw (l, e, is, above_is)

pub overflow_cast-threshold : goal.overflow_cast-threshold
overflow_cast-threshold c = let h = snow_in _ _ c.requires in omega (arith, ints)

pub join-requires : goal.join-requires
join-requires c = (snow_in _ _ c.requires).sn_most

pub overflow_sub-above : goal.overflow_sub-above
overflow_sub-above c = let h = snow_in _ _ c.requires in omega (arith, ints)

pub overflow_cast-above : goal.overflow_cast-above
overflow_cast-above c = let h = snow_in _ _ c.requires in omega (arith, ints)

pub overflow_mul-self : goal.overflow_mul-self
overflow_mul-self c = omega (arith, above_fits _ _ (snow_in _ _ c.requires))

pub melt-requires : goal.melt-requires
melt-requires c = let h = snow_in _ _ c.requires in omega arith

pub returns : goal.returns
returns c = let h = snow_in _ _ c.requires in melts _ _ h (grind (arith, ints)) c.min.ensures c.melt.ensures
