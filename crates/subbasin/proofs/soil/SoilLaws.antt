-- Evapotranspiration, runoff and the layers of tension water: what goes in comes out, and the layers keep their limits.
-- Assumes nothing.
use mathlib.Core.Path.{◌≡◌, refl}
use Prim.Native.Nat.{ℕ, ◌+◌, ◌-◌, ◌*◌, ◌/◌, ◌≤◌, ◌<◌, min}
use native.Mathlib.Nat.{mul-le-mul, mul-le-mul_left, mul-le-mul_right, div-le_of_le-mul, le-div_iff_mul-le}
use native.Mathlib.Omega.{arith}
use lib.Dec.{leb, ltb}
use borrow.Author.Tests.{le-leb, leb-true, leb-false, ltb-false}
use Rattle.common.specs.Shares.{one}
use Rattle.curve.specs.Capacity.{rise}
use Rattle.curve.proofs.capacity.CallLaws.{CurveIn}
use Rattle.curve.proofs.capacity.HeldLaws.{rise_le, le_rise}
use Rattle.subbasin.specs.declared.record.Parameters.{Parameters}
use Rattle.subbasin.specs.declared.record.SubBasin.{SubBasin}
use Rattle.subbasin.specs.declared.record.Sender.{Sender}
use Rattle.subbasin.specs.Record.{words}
use Rattle.subbasin.specs.declared.soil.Layers.{Layers}
use Rattle.subbasin.specs.declared.soil.Evaporated.{Evaporated}
use Rattle.subbasin.specs.declared.soil.Runoff.{Runoff}
use Rattle.subbasin.specs.Workers.{SoilIn, LayersIn}
use Rattle.subbasin.specs.Soil.{tension, ep, fallen, deeper, evaporated, wm, mm, rb, gain, refilled, runoff}
use Rattle.subbasin.specs.Step.{layers_of}
use Rattle.common.proofs.Limits.{by_test}
use Rattle.common.proofs.Limits.{Within}

module _ (m : ℕ) (v : Sender) (s : SubBasin) (h : Within (words m v s)) where
  pub soil_in : SoilIn s.fixed
  soil_in = omega arith

  pub layers_in : LayersIn s.fixed (layers_of s.contents)
  layers_in = omega arith

-- Evapotranspiration takes E at most, from the rain and the layers; PE is what it leaves of the rain.
pub record Evaporates (w : Layers) (rain e : ℕ) (ev : Evaporated) : Type 0 where
  pub upper : rain + w.wu ≡ ev.eu + ev.pe + ev.layers.wu
  pub lower : w.wl ≡ ev.el + ev.layers.wl
  pub deep : w.wd ≡ ev.ed + ev.layers.wd
  pub falls : ev.layers.wu ≤ w.wu
  pub pe_most : ev.pe ≤ rain
  pub most : ev.eu + ev.el + ev.ed ≤ e

fallen_evaporates : (w : Layers) (rain e u el ed : ℕ) → u ≤ w.wu → el ≤ w.wl → ed ≤ w.wd → rain + u + el + ed ≤ e
    → Evaporates w rain e (fallen w rain u el ed)
fallen_evaporates w rain e u el ed hu hl hd h = omega arith

part_le : (d x m : ℕ) → x ≤ m → d * x / m ≤ d
part_le d x m h = div-le_of_le-mul m (omega (arith, mul-le-mul_left d h))

pub share_le : (c d : ℕ) → c ≤ one → c * d / one ≤ d
share_le c d h = omega (arith, mul-le-mul_right d h)

module _ (p : Parameters) (w : Layers) (soil : SoilIn p) (fits : LayersIn p w) where
  deeper_evaporates : (rain e u d : ℕ) → u ≤ w.wu → rain + u + d ≤ e → Evaporates w rain e (deeper p w rain u d)
  unfolding deeper
  deeper_evaporates rain e u d hu h =
      let q : ℕ = p.c * d / one in
      let q-le : q ≤ d = share_le p.c d (omega arith) in
      let x : ℕ = d * w.wl / p.lm in
      let x-le : x ≤ d = part_le d w.wl p.lm fits.wl_most in
      by_test (Evaporates w rain e) (leb (p.c * p.lm) (w.wl * one))
      (λ _. fallen_evaporates w rain e u (min w.wl x) 0 hu (omega arith) (omega arith) (omega arith))
      (λ _. fallen_evaporates w rain e u (min w.wl q) (min w.wd (q - min w.wl q)) hu (omega arith) (omega arith) (omega arith))

  pub evaporation : (rain e : ℕ) → Evaporates w rain e (evaporated p w rain e)
  unfolding evaporated
  evaporation rain e =
      by_test (Evaporates w rain e) (leb e rain)
      (λ t. let l : e ≤ rain = leb-true e rain t in omega arith)
      (λ t. let l : rain < e = leb-false e rain t in deeper_evaporates rain e (min w.wu (e - rain)) (e - rain - min w.wu (e - rain)) (omega arith) (omega arith))

  -- PE is what rain is above E, and the layers are then as they were
  pub net_rain_lem : (rain e : ℕ) → (evaporated p w rain e).pe ≡ rain - e
  unfolding evaporated deeper
  net_rain_lem rain e =
      by_test (λ (ev : Evaporated). ev.pe ≡ rain - e) (leb e rain) (λ _. refl)
      (λ t. let l : rain < e = leb-false e rain t in by_test (λ (ev : Evaporated). ev.pe ≡ rain - e) (leb (p.c * p.lm) (w.wl * one)) (λ _. omega arith) (λ _. omega arith))

  pub rain_enough : (rain e : ℕ) → e ≤ rain → (evaporated p w rain e).layers ≡ w
  unfolding evaporated
  rain_enough rain e h = rw (le-leb e rain h)

  -- no layer rises
  pub evaporation_in : (rain e : ℕ) → LayersIn p (evaporated p w rain e).layers
  evaporation_in rain e = let h = evaporation rain e in omega arith

module _ (p : Parameters) (soil : SoilIn p) where
  pub pan_fits : (pan : ℕ) → pan ≤ 100000 → p.k * pan ≤ 131072 * 100000
  pan_fits pan h = mul-le-mul {n₁ = p.k} {m₁ = pan} {n₂ = 131072} {m₂ = 100000} soil.k_most h

  pub ep_most : (pan : ℕ) → pan ≤ 100000 → ep p pan ≤ 200000
  unfolding ep
  ep_most pan h = omega (arith, pan_fits pan h)

  mm_least : 1 ≤ mm p
  unfolding mm
  mm_least =
      (le-div_iff_mul-le {k = 16 * (one - p.im)} (omega arith)).1
      (omega (arith, mul-le-mul {n₁ = 1} {m₁ = 16} {n₂ = wm p} {m₂ = p.bn} (omega arith) (omega arith)))

  mm_most : mm p ≤ 2000000
  unfolding mm
  mm_most =
      div-le_of_le-mul (16 * (one - p.im))
      (omega (arith, mul-le-mul {n₁ = wm p} {m₁ = p.bn} {n₂ = 500000} {m₂ = 32} (omega arith) (omega arith)))

  -- the curve of tension water is inside the limits of a curve
  pub tension_curve : CurveIn (wm p) (mm p) p.bn
  tension_curve = omega (arith, mm_least, mm_most)

-- the curve never sinks: net rain leaves it at W or above
module _ (p : Parameters) (soil : SoilIn p) where
  pub gain_fits : (w pe : ℕ) → w ≤ wm p → 0 < pe
      → w ≤ rise (wm p) (mm p) p.bn w pe
  gain_fits w pe = le_rise (wm p) (mm p) p.bn w pe soil.bn_least

-- the gain is at most what fell on the soil, and fits into it
pub record Gains (p : Parameters) (w x gained : ℕ) : Type 0 where
  pub from_x : gained ≤ x
  pub into_soil : w + gained ≤ wm p

pub gain_in : (p : Parameters) (w pe x : ℕ) → w ≤ wm p → Gains p w x (gain p w pe x)
unfolding gain
gain_in p w pe x h =
    let top : rise (wm p) (mm p) p.bn w pe ≤ wm p = rise_le (wm p) (mm p) p.bn w pe in
    omega arith

-- what the gain fills stays inside, and holds it all
pub record Fills (p : Parameters) (w : Layers) (gained : ℕ) (after : Layers) : Type 0 where
  pub holds_all : tension after ≡ tension w + gained
  pub inside : LayersIn p after

pub refilled_fills : (p : Parameters) (w : Layers) (gained : ℕ) → LayersIn p w → tension w + gained ≤ wm p → Fills p w gained (refilled p w gained)
unfolding refilled
refilled_fills p w gained h room = omega arith

-- Runoff and what the layers take are PE; the layers stay inside.
pub record Runs (p : Parameters) (w : Layers) (pe : ℕ) (ro : Runoff) : Type 0 where
  pub balance : pe + tension w ≡ ro.rb + ro.r + tension ro.layers
  pub most : ro.rb + ro.r ≤ pe
  pub inside : LayersIn p ro.layers

rb_most : (p : Parameters) (pe : ℕ) → SoilIn p → rb p pe ≤ pe
unfolding rb
rb_most p pe soil = share_le p.im pe (omega arith)

pub runs : (p : Parameters) (w : Layers) (pe : ℕ) → SoilIn p → LayersIn p w → Runs p w pe (runoff p w pe)
unfolding runoff
runs p w pe soil fits =
    let x : ℕ = pe - rb p pe in
    let rb-le : rb p pe ≤ pe = rb_most p pe soil in
    let gains : Gains p (tension w) x (gain p (tension w) pe x) = gain_in p (tension w) pe x (omega arith) in
    let fills : Fills p w (gain p (tension w) pe x) (refilled p w (gain p (tension w) pe x)) = refilled_fills p w (gain p (tension w) pe x) fits (omega arith) in
    by_test (Runs p w pe) (ltb 0 pe) (λ _. omega arith) (λ t. let z : pe ≤ 0 = ltb-false 0 pe t in omega arith)
