-- The ground of a record that 9 allows, and its curves of tension water and of free water: what raising them asks and gives.
-- Assumes nothing.
use mathlib.Core.Path.{◌≡◌}
use mathlib.Core.Bool.{true}
use Prim.Native.Nat.{◌≤◌}
use Rattle.curve.specs.declared.capacity.Curve.{Curve}
use Rattle.curve.specs.Capacity.{curve_in}
use Rattle.curve.proofs.capacity.CallLaws.{curve_in_lem}
use Rattle.subbasin.specs.declared.record.Parameters.{Parameters}
use Rattle.subbasin.specs.declared.record.SubBasin.{SubBasin}
use Rattle.subbasin.specs.declared.record.Sender.TheVariants.{Host}
use Rattle.subbasin.specs.Workers.{SoilIn, LayersIn, FreeIn, soil_curve, free_curve}
use Rattle.subbasin.specs.Record.{record_in}
use Rattle.subbasin.specs.Soil.{wm, mm}
use Rattle.subbasin.specs.FreeWater.{ms}
use Rattle.subbasin.specs.Step.{layers_of}
use Rattle.subbasin.proofs.record.RecordLaws.{record_limits}
use Rattle.subbasin.proofs.soil.SoilLaws.{soil_in, layers_in, tension_curve}
use Rattle.subbasin.proofs.free_water.FreeWaterLaws.{free_in, g_in, free_curve_lem}

-- what 9 says of the soil and of free water
module _ (s : SubBasin) (allowed : record_in s.fixed.reach s ≡ true) where
  pub soil_of : SoilIn s.fixed
  soil_of = soil_in _ Host s (record_limits _ _ allowed).in_words

  pub layers_fit : LayersIn s.fixed (layers_of s.contents)
  layers_fit = layers_in _ Host s (record_limits _ _ allowed).in_words

  pub free_of : FreeIn s.fixed
  free_of = free_in _ Host s (record_limits _ _ allowed).in_words

  pub g_fits : s.contents.g ≤ s.fixed.sm
  g_fits = g_in _ Host s (record_limits _ _ allowed).in_words

pub ruleset ground_laws = (soil_of, free_of, layers_fit, g_fits)

-- the curves are inside the limits of a curve
pub soil_curve_in : (p : Parameters) {k : Curve} → SoilIn p → k ≡ soil_curve p → curve_in k.c k.m k.e ≡ true
soil_curve_in p soil is = rw is (curve_in_lem (wm p) (mm p) p.bn (tension_curve p soil))

pub free_curve_in : (p : Parameters) {k : Curve} → FreeIn p → k ≡ free_curve p → curve_in k.c k.m k.e ≡ true
free_curve_in p free is = rw is (curve_in_lem p.sm (ms p) p.xn (free_curve_lem p free))
